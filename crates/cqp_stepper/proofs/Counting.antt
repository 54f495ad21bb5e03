-- Parts are no more than their numbers.
use Rattle.std.proofs.Common.{ℕ, zero, suc, ◌≤◌, Option, Some, None, arith}
use Rattle.cqp_machine.specs.Sums.{sum_below}
use Rattle.cqp_parts.specs.declared.part.Part.{Part}
use Rattle.cqp_telling.specs.Told.{one_if_part}

-- a place has one part at most
at_most_one : (o : Option Part) → one_if_part o ≤ 1
at_most_one None = omega arith
at_most_one (Some part) = omega arith

-- so has each of n places
pub few_there : (n : ℕ) (at : ℕ → Option Part) → sum_below n (λ i. one_if_part (at i)) ≤ n
few_there zero at = omega arith
few_there (suc n) at = let before = few_there n at in let one = at_most_one (at n) in omega arith
