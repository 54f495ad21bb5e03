use Rattle.std.proofs.Common.{subst, sym}
use Rattle.std.specs.Prelude.{IfOk}
use Rattle.cqp_cells.specs.Examples.{by}
use Rattle.cqp_stepper.specs.Last.{IsTriedBy}
use Rattle.cqp_stepper.proofs.Unmade.{tried_if}
use Rattle.cqp_stepper.proofs.cells.Cells.make_entry.Goals as goal

pub returns-in-Com-clause-fit : goal.returns-in-Com-clause-fit
returns-in-Com-clause-fit c =
    let l = c.args.tables.now in
    let e = c.args.entry.now in
    tried_if l c.args.self.now c.settle.new.self c.try_meeting.new.self e c.try_meeting.result c.in_ok-settle.ensures.kept
    (subst (λ d. IfOk c.try_meeting.result (λ fit. IsTriedBy l c.settle.new.self (by e.part d) fit c.try_meeting.new.self)) (sym c.in-Com.is)
    c.try_meeting.ensures.fit)
