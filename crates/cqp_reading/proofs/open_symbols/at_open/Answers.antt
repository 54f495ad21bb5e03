use Rattle.cqp_reading.proofs.Others.{open_other}
use Rattle.cqp_reading.proofs.open_symbols.at_open.Goals as goal

pub returns-in_default : goal.returns-in_default
returns-in_default c =
    let d = c.in_default in
    rw (open_other _ c.args.draft.now c.args.at d.not-DefOpen d.not-OpOpen d.not-Named d.not-SigOpen
    d.not-Definitions d.not-PrefixWanted d.not-Opened) c.open_parens.ensures
