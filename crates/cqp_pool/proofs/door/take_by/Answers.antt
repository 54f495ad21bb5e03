use Rattle.cqp_pool.proofs.Steps.{takes, finds}
use Rattle.cqp_pool.proofs.door.take_by.Goals as goal

pub steal_as-requires-clause-rule : goal.steal_as-requires-clause-rule
steal_as-requires-clause-rule g c = (takes g.T.Numbered.number _ _ 1 (rw c.loop.invariant.1 c.requires.part), finds g.T.Numbered.number _ _)
