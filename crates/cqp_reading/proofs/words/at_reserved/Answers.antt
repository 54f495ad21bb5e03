use Rattle.cqp_reading.proofs.Others.{expr_other}
use Rattle.cqp_reading.proofs.words.at_reserved.Goals as goal

pub returns-in_default : goal.returns-in_default
returns-in_default c =
    let d = c.in_default in
    rw (expr_other c.args.awaits c.args.draft.now _ c.args.at d.not-Def d.not-New d.not-MakeQbit
    d.not-If d.not-Then d.not-Else d.not-IntType d.not-UnitType d.not-QbitType
    d.not-OpType) c.expr_word.ensures
