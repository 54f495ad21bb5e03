use Rattle.std.proofs.Common.{◌≡◌, ◌≤◌, length, vec_len, take}
use Rattle.cqp_pool.proofs.Zips.{zip_from}
use Rattle.cqp_pool.proofs.gather.take_in_all.Given as goal

-- the ways in from the place k on were taken in
abbrev pub invariant-loop-reach : goal.invariant-loop-reach
invariant-loop-reach g l = record {
  left : l.row.items ≡ take l.k l.initial.row.items;
  count : vec_len l.row ≡ l.k;
  within : l.k ≤ length l.initial.owns;
  owns : l.owns ≡ zip_from l.k l.initial.owns l.initial.row.items;
}

abbrev pub decreases-loop-reach : goal.decreases-loop-reach
decreases-loop-reach g l = l.k
