use Rattle.cqp_reading.proofs.Others.{close_other}
use Rattle.cqp_reading.proofs.end_symbols.at_close.Goals as goal

pub returns-in_default : goal.returns-in_default
returns-in_default c =
    let d = c.in_default in
    rw (close_other _ c.args.draft.now d.not-ParamsFirst d.not-OpClose d.not-AfterType
    d.not-QbitClose d.not-CallFirst d.not-CallAfter d.not-AfterPrefix) c.parens_read.ensures
