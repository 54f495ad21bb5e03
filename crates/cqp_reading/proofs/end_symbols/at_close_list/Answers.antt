use Rattle.cqp_reading.proofs.Others.{close_list_other}
use Rattle.cqp_reading.proofs.end_symbols.at_close_list.Goals as goal

pub returns-in_default : goal.returns-in_default
returns-in_default c =
    let d = c.in_default in
    rw (close_list_other _ c.args.draft.now d.not-ParamsFirst d.not-ChanFirst d.not-AfterType
    d.not-OutputFirst) c.list_read.ensures
