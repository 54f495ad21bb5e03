use Rattle.std.proofs.Common.{◌≡◌, ◌<◌, ℕ, vec_len, get_or}
use Rattle.cqp_pool.specs.Often.{AsOften}
use Rattle.cqp_pool.specs.Pools.{LaneState, IsWhole, pushed_by, taken_by}
use Rattle.cqp_pool.proofs.gather.in_order.Given as goal

abbrev pub invariant-loop-k : goal.invariant-loop-k
invariant-loop-k g l = record {
  whole : IsWhole l.lanes.items;
  len : vec_len l.lanes ≡ vec_len l.initial.lanes;
  placed : (j : ℕ) → j < l.k → (d : LaneState _) → (get_or l.lanes.items j d).number ≡ j;
  pushed : AsOften (pushed_by l.lanes.items) (pushed_by l.initial.lanes.items);
  taken : AsOften (taken_by l.lanes.items) (taken_by l.initial.lanes.items);
}
