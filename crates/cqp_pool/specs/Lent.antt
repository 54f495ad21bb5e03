-- What a pool's lanes end as, where a `&mut` to them is returned.
use Rattle.std.specs.Prelude.{List, ◌++◌, take, drop, length}
use Rattle.std.specs.Borrow.{Lends, Fml, RattleType, MutBor, Array}
use Rattle.cqp_pool.specs.declared.numbered.Numbered.{Ghosts}
use Rattle.cqp_pool.specs.Pools.{LaneState}
use Rattle.cqp_pool.specs.contracts.lanes.Lanes.{the_row}
use Rattle.cqp_pool.specs.contracts.lane.Lane.{the_row as lane_row}

-- the lanes end as what is written through the slice
module _ (T : RattleType) (number : Ghosts T.Denot) (v : MutBor (List (LaneState T.Denot))) where
  abbrev pub LendsLanes : MutBor (List (LaneState T.Denot)) → Fml
  LendsLanes r =
      Lends (the_row T number) (Array (lane_row T number) 0) v r
      (λ w. take (length v.now) (w ++ drop (length w) v.now))
