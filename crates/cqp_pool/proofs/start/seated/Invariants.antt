use Rattle.std.proofs.Common.{◌≡◌, ◌+◌, ◌-◌, ◌<◌, ◌≤◌, vec_len, All, take}
use Rattle.std.specs.List.{range_with_len}
use Rattle.cqp_pool.specs.Tallies.{new_tally}
use Rattle.cqp_pool.specs.Pools.{IsNew, LaneState, numbers_of}
use Rattle.cqp_pool.specs.Parts.{deques_in, new_owns, new_row}
use Rattle.cqp_pool.proofs.start.seated.Given as goal

-- the lanes from the number `vec_len l.owns` on are made
abbrev pub invariant-loop-own : goal.invariant-loop-own
invariant-loop-own g l = record {
  some_left : 0 < vec_len l.owns;
  no_more : vec_len l.owns ≤ vec_len l.initial.owns;
  made : vec_len l.lanes + vec_len l.owns ≡ vec_len l.initial.owns;
  owns : l.owns.items ≡ new_owns (1024 - vec_len l.initial.owns) (take (vec_len l.owns) (deques_in l.initial.owns.items));
  rows : All (λ r. r.items ≡ new_row (deques_in l.initial.owns.items)) l.rows.items;
  as_many : vec_len l.rows ≡ vec_len l.owns;
  rest : l.rest.view ≡ new_tally (1024 - (vec_len l.initial.owns - vec_len l.owns));
  queue : l.rest.queue ≡ l.initial.rest.queue;
  numbers : numbers_of l.lanes.items ≡ range_with_len (vec_len l.owns) (vec_len l.initial.owns - vec_len l.owns);
  of_pool : All (λ (s : LaneState _). s.pool ≡ record { deques = deques_in l.initial.owns.items; queue = l.initial.rest.queue }) l.lanes.items;
  new : All IsNew l.lanes.items;
}

abbrev pub decreases-loop-own : goal.decreases-loop-own
decreases-loop-own g l = vec_len l.owns
