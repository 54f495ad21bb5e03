use Rattle.cqp_reading.proofs.Others.{equals_other}
use Rattle.cqp_reading.proofs.symbols.at_equals.Goals as goal

pub returns-in_default : goal.returns-in_default
returns-in_default c =
    rw (equals_other _ c.args.draft.now c.in_default.not-DefEquals) c.left_read.ensures
