use Rattle.cqp_reading.proofs.Others.{number_other}
use Rattle.cqp_reading.proofs.names.at_number.Goals as goal

pub returns-in_default : goal.returns-in_default
returns-in_default c =
    let d = c.in_default in
    rw (number_other _ c.args.draft.now c.args.v c.args.at d.not-OpNumber d.not-Definitions
    d.not-PrefixWanted d.not-Opened) c.atom.ensures
