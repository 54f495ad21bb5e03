use Rattle.std.proofs.Common.{sym, ◌∙◌}
use Rattle.cqp_stepper.proofs.Noted.{noted_renewed, stands_below}
use Rattle.cqp_stepper.proofs.cells.Cells.note.Goals as goal

pub returns-clause-kept : goal.returns-clause-kept
returns-clause-kept c entries k =
    let l = c.args.tables.now in
    let s = c.args.self.now in
    let n = c.args.n in
    let stand = c.stand_of-stand in
    noted_renewed l entries s k n stand.result c.renew.new.self c.renew.result c.requires.unseen
    (λ w is. stands_below l entries s k n w (sym stand.ensures.is ∙ is)) c.renew.ensures.done c.renew.ensures.err c.renew.ensures.room
