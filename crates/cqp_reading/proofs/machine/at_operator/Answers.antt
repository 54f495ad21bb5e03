use Rattle.cqp_reading.proofs.Others.{operator_other}
use Rattle.cqp_reading.proofs.Stands.{stands_on}
use Rattle.cqp_reading.proofs.machine.at_operator.Goals as goal

pub returns-in_default : goal.returns-in_default
returns-in_default c =
    let d = c.in_default in
    rw (operator_other c.args.awaits c.args.draft.now _ c.args.at d.not-Applies d.not-Bar
    d.not-Caret d.not-Plus) (stands_on _ c.args.draft.now _ _ c.mark_place.ensures)
