use Rattle.std.proofs.Common.{refl}
use Rattle.cqp_stepper.proofs.cells.Cells.group_with.Goals as goal

pub returns-in-None : goal.returns-in-None
returns-in-None c =
    let l = c.args.tables.now in
    let k = c.requires.run.1 in
    let alone = c.group_laws.ensures.alone l k.events c.args.self.now.groups c.args.q k.groups c.requires.made in
    let none = c.in-None.ensures.none refl alone.group in
    let there = alone.there in
    cc
