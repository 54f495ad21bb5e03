use Rattle.cqp_stepper.proofs.OwnDeeds.{may_next, some_next}
use Rattle.cqp_stepper.proofs.cells.Cells.make_own.Goals as goal

pub try_deed-requires-clause-may : goal.try_deed-requires-clause-may
try_deed-requires-clause-may c =
    let from = c.requires.reduction in
    let laws = c.own_laws.ensures in
    may_next c.args.tables.now c.try_laws.ensures.here from.entries c.args.self.now from.kept laws.own laws.entries c.requires.seen c.args.n
    c.args.deed.now c.requires.own from.fits laws.moves

pub try_deed-requires-clause-some : goal.try_deed-requires-clause-some
try_deed-requires-clause-some c =
    let from = c.requires.reduction in
    let laws = c.own_laws.ensures in
    some_next c.args.tables.now c.try_laws.ensures.here from.entries c.args.self.now from.kept laws.own laws.entries c.requires.seen c.args.n
    c.args.deed.now c.requires.own from.fits laws.some
