use Rattle.cqp_pool.proofs.Steps.{takes}
use Rattle.cqp_pool.proofs.reach.steal_by.Goals as goal

pub steal_as-requires-clause-takes : goal.steal_as-requires-clause-takes
steal_as-requires-clause-takes g c = takes g.T.Numbered.number _ _ 1 (rw c.loop.invariant.1 c.requires.part)
