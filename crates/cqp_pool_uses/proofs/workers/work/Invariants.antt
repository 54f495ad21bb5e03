use Rattle.cqp_pool.specs.Pools.{SamePlace}
use Rattle.cqp_pool_uses.proofs.workers.work.Given as goal

abbrev pub invariant-loop-item : goal.invariant-loop-item
invariant-loop-item g l = SamePlace l.initial.lane l.lane

abbrev pub invariant-loop : goal.invariant-loop
invariant-loop g l = SamePlace l.fn.lane l.lane
