use Rattle.std.proofs.Common.{◌≡◌, ℕ, ◌<◌, take}
use Rattle.cqp_ring.specs.Root.{root_total}
use Rattle.cqp_choose.specs.Picks.{IsReached}
use Rattle.cqp_choose.proofs.born.born_index.Given as goal

-- the sum of the odds before the place, and no place before it is reached
abbrev pub invariant-loop-i : goal.invariant-loop-i
invariant-loop-i l = record {
  sum : l.sum ≡ root_total (take l.i l.odds);
  before : (j : ℕ) → j < l.i → ¬ IsReached l.word l.odds j;
}
