use Rattle.cqp_stepper.proofs.Noted.{all_seen}
use Rattle.std.proofs.Common.{◌≤◌, arith}
use Rattle.cqp_stepper.proofs.cells.Cells.settle.Goals as goal

pub returns-clause-seen : goal.returns-clause-seen
returns-clause-seen c =
    let s = c.loop-self.self in
    let entries = c.requires.0 in
    let k = c.loop-self.invariant.kept entries c.requires.1 in
    let over = c.loop-self-test.false in
    let least : s.counts.parts ≤ s.unseen.from = omega (arith, over) in
    all_seen c.args.tables.now entries s k c.loop-self.invariant.first c.loop-self.invariant.second least
