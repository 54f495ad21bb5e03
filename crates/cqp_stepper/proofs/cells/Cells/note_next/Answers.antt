use Rattle.std.proofs.Common.{◌≡◌, ◌+◌, ap, arith, sym, subst, false, ◌∙◌, inl, inr, ⊎_elim}
use Rattle.cqp_stepper.specs.Kept.{IsNoted, is_unseen}
use Rattle.cqp_stepper.proofs.Noted.{few_parts, next_less, unseen_less}
use Rattle.cqp_stepper.proofs.cells.Cells.note_next.Goals as goal

pub overflow_add-self : goal.overflow_add-self
overflow_add-self c =
    let few = few_parts c.args.tables.now c.requires.run.0 c.args.self.now c.requires.run.1 in
    let some = c.requires.some in
    let same : c.note.new.self.unseen.from ≡ c.args.self.now.unseen.from = ap (λ u. u.from) c.note.ensures.rest.unseen in
    search (few, some, same, arith)

pub returns-clause-kept : goal.returns-clause-kept
returns-clause-kept c entries k =
    let t = c.note.new.self in
    let same : t.unseen.from ≡ c.args.self.now.unseen.from = ap (λ u. u.from) c.note.ensures.rest.unseen in
    unseen_less c.args.tables.now entries t (c.note.ensures.kept entries k) (record t.unseen { from = t.unseen.from + 1 })
    (λ n known. ⊎_elim
    (λ (other : is_unseen t.unseen n ≡ false). inl other)
    (λ (here : t.unseen.from ≡ n). inr (subst (IsNoted c.args.tables.now t) (sym same ∙ here) c.in_ok-note.ensures.noted))
    (next_less t.unseen n known))
