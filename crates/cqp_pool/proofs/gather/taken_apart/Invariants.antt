use Rattle.std.proofs.Common.{◌+◌, ◌-◌, length, vec_len, take}
use Rattle.cqp_pool.specs.Pools.{PoolId}
use Rattle.cqp_pool.specs.Rooms.{HasRoom}
use Rattle.cqp_pool.specs.Apart.{IsInOrder, IsApart}
use Rattle.cqp_pool.proofs.gather.taken_apart.Given as goal

abbrev pub invariant-loop-lane : goal.invariant-loop-lane
invariant-loop-lane g l = record {
  room : HasRoom l.parts (vec_len l.fn.lanes - (length l.yielded + 1));
  apart : (pool : PoolId) → IsInOrder pool l.fn.lanes.items
      → IsApart g.T.Numbered.number pool (take (length l.yielded + 1) l.fn.lanes.items) l.parts.owns.items l.parts.rows.items l.parts.kepts.items l.door;
}
