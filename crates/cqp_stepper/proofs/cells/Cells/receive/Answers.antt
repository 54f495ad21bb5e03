use Rattle.std.proofs.Common.{◌≡◌, Some, ap, sym, ◌∙◌}
use Rattle.std.specs.Prelude.{slice_set}
use Rattle.cqp_stepper.specs.Slots.{part_in}
use Rattle.cqp_stepper.proofs.SlotLemmas.{put_back}
use Rattle.cqp_stepper.proofs.cells.Cells.receive.Goals as goal

pub returns-in-Err-clause-err : goal.returns-in-Err-clause-err
returns-in-Err-clause-err c =
    let s = c.args.self.now in
    let n = c.args.n in
    let part = c.in-Some.part in
    let there : part_in s.slots n ≡ Some part = sym c.in-Some.ensures.value in
    let back : c.put.new.self ≡ s.slots =
    c.put.ensures
    ∙ (ap (λ p. slice_set c.take.new.self n (Some p)) c.in-Err.ensures.err
    ∙ (ap (λ z. slice_set z n (Some part)) c.take.ensures.left ∙ put_back s.slots n (Some part) there)) in
    ap (λ z. record s { slots = z }) back
