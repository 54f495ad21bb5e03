use Rattle.std.proofs.Common.{◌≢◌, ◌<◌, ℕ, get_or}
use Rattle.cqp_pool.specs.Pools.{LaneState}
use Rattle.cqp_pool.proofs.gather.place_of.Given as goal

abbrev pub invariant-loop-at : goal.invariant-loop-at
invariant-loop-at g l = (j : ℕ) → j < l.at → (d : LaneState _) → (get_or l.lanes j d).number ≢ l.number
