use Rattle.std.proofs.Common.{◌≡◌, ◌+◌, ◌-◌, ◌<◌, ◌==◌, ◌||◌, length, drop, slice_set, slice_index, refl, sym, ◌∙◌, ap, subst, arith}
use Rattle.cqp_types.specs.Marks.{IsMarkedBy}
use Rattle.cqp_types.proofs.Backward.{drop_step, all_at}
use Rattle.cqp_types.proofs.MarkLaws.{HasMarked, one_more, mark_more}
use Rattle.cqp_types.proofs.marks.Marks.mark_all.Goals as goal
use Rattle.cqp_types.proofs.marks.Marks.mark_all.Goals.{then-again, else-again}

pub loop-k-preserved : goal.loop-k-preserved
loop-k-preserved c =
    let xs = c.args.names.now in
    let old = c.loop-k.self.by.items in
    let number = c.args.number in
    let i = length xs - 1 - c.loop-k.k in
    let name = slice_index xs i in
    let h : c.loop-k.k < length xs = omega arith in
    let place : i < length xs = omega arith in
    let below = all_at (λ x. x < length c.args.self.now.by.items) xs i c.requires.within place in
    let within : name < length old = omega (arith, below, c.loop-k.invariant.before.count) in
    let value : c.if-again.twice ≡ ((slice_index old name == number) || c.loop-k.twice) = elim c.if-again.branch [
      | then-again w ↦ w.twice-is ∙ w.if-again.true ∙ sym (ap (λ b. b || c.loop-k.twice) (sym c.mark-again.ensures.before ∙ w.if-again.true))
      | else-again w ↦ w.twice-is ∙ sym (ap (λ b. b || c.loop-k.twice) (sym c.mark-again.ensures.before ∙ w.if-again.false))
    ] in
    let marked = one_more number old (drop (length xs - c.loop-k.k) xs) c.loop-k.twice name c.loop-k.invariant.marked within in
    let more = mark_more number c.args.self.now.by.items old name c.loop-k.invariant.before within in
    record {
      marked = subst (λ by. HasMarked number by (drop (length xs - (c.loop-k.k + 1)) xs) c.if-again.twice) (sym c.mark-again.ensures.marked)
          (subst (λ t. HasMarked number (slice_set old name number) (drop (length xs - (c.loop-k.k + 1)) xs) t) (sym value)
          (subst (λ ys. HasMarked number (slice_set old name number) ys ((slice_index old name == number) || c.loop-k.twice))
          (sym (drop_step xs (length xs) c.loop-k.k refl h)) marked));
      before = subst (λ by. IsMarkedBy number c.args.self.now.by.items by) (sym c.mark-again.ensures.marked) more;
    }
