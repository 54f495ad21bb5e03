use Rattle.std.proofs.Common.{◌≡◌, ◌+◌, ◌-◌, ◌<◌, ◌||◌, length, drop, refl, ◌∙◌, ap, subst, arith}
use Rattle.std.specs.List.{AllByRecursion}
use Rattle.cqp_syntax.specs.Preorder.{name_of}
use Rattle.cqp_types.specs.Sending.{sent_at}
use Rattle.cqp_types.proofs.Backward.{drop_step}
use Rattle.cqp_types.proofs.SendSteps.{sends_one, sends_none}
use Rattle.cqp_types.proofs.sending.sent_fault.Goals as goal
use Rattle.cqp_types.proofs.sending.sent_fault.Goals.{in-Some, in_default}

pub loop-k-preserved : goal.loop-k-preserved
loop-k-preserved c =
    let l = c.args.given.now in
    let xs = c.args.args.now in
    let h : c.loop-k.k < length xs = omega arith in
    let more = sent_at l (drop (length xs - (c.loop-k.k + 1)) xs) in
    let ss = sent_at l (drop (length xs - c.loop-k.k) xs) in
    let step = ap (sent_at l) (drop_step xs (length xs) c.loop-k.k refl h) in
    let second = c.args.uses.now.second.items in
    let before = c.args.marks.now.by.items in
    let by = c.loop-k.marks.by.items in
    let now = c.match-sent_name.marks.by.items in
    elim c.match-sent_name.branch [
      | in-Some w ↦
          sends_one (length l.ty_of) c.args.n c.args.end second before by now ss more c.loop-k.twice c.loop-k.used
          c.match-sent_name.twice c.match-sent_name.used
          w.in-Some.name c.loop-k.invariant (step ∙ w.in-Some.ensures.1 (drop (length xs - c.loop-k.k) xs))
          w.in-Some.ensures.0 (omega (arith, w.in-Some.ensures.0, c.loop-k.invariant.marks.count, c.requires.marks))
          (ap (λ m. m.by.items) w.marks-is ∙ w.mark.ensures.marked)
          (w.twice-is ∙ w.either-twice.ensures ∙ ap (λ b. b || c.loop-k.twice) w.mark.ensures.before)
          (w.used-is ∙ w.either-used.ensures ∙ ap (λ b. b || c.loop-k.used) w.used_twice.ensures)
      | in_default w ↦
          sends_none (length l.ty_of) c.args.n c.args.end second before by now ss more c.loop-k.twice c.loop-k.used
          c.match-sent_name.twice c.match-sent_name.used
          c.loop-k.invariant (step ∙ w.in_default.ensures (drop (length xs - c.loop-k.k) xs))
          (ap (λ m. m.by.items) w.marks-is) w.twice-is w.used-is
    ]

-- the names of all that is sent, where no argument is left
pub returns-then-twice-clause-names : goal.returns-then-twice-clause-names
returns-then-twice-clause-names c =
    let done : length c.args.args.now - c.loop-k.k ≡ 0 = omega arith in
    subst (λ j. AllByRecursion (λ s. name_of s < length c.args.given.now.ty_of)
    (sent_at c.args.given.now (drop j c.args.args.now))) done c.loop-k.invariant.known

pub returns-then-used-clause-names : goal.returns-then-used-clause-names
returns-then-used-clause-names c =
    let done : length c.args.args.now - c.loop-k.k ≡ 0 = omega arith in
    subst (λ j. AllByRecursion (λ s. name_of s < length c.args.given.now.ty_of)
    (sent_at c.args.given.now (drop j c.args.args.now))) done c.loop-k.invariant.known

pub returns-else-used-clause-names : goal.returns-else-used-clause-names
returns-else-used-clause-names c =
    let done : length c.args.args.now - c.loop-k.k ≡ 0 = omega arith in
    subst (λ j. AllByRecursion (λ s. name_of s < length c.args.given.now.ty_of)
    (sent_at c.args.given.now (drop j c.args.args.now))) done c.loop-k.invariant.known
