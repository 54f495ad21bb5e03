-- How often a number stands in what a lane's calls gave, after a steal.
use Rattle.std.proofs.Common.{◌≡◌, ℕ, ◌+◌, List, ◌∷◌, ◌++◌, ap, arith}
use Rattle.std.specs.List.{sum_by}
use Rattle.std.proofs.lemmas.List.Sums.{sum_by-append, sum_by-cons}
use Rattle.cqp_pool.specs.declared.tally.Tally.{Tally}
use Rattle.cqp_pool.specs.Often.{AsOften}
use Rattle.cqp_pool.specs.Parts.{Log, Reached, stolen, pushed_of, taken_of}

module _ {T : Type 0} (weight : ℕ → ℕ) (o d : Tally) (k : Log T) where
  -- what a lane pushed weighs what went to its deque, to the queue and to those kept
  pub sum_by-pushed_of : sum_by weight (pushed_of o d k) ≡ (sum_by weight o.pushed + sum_by weight d.pushed) + sum_by weight k.pushed
  sum_by-pushed_of = omega (arith, sum_by-append weight (o.pushed ++ d.pushed) k.pushed, sum_by-append weight o.pushed d.pushed)

  -- what a lane took weighs what came of its deque, the queue, those kept and steals
  pub sum_by-taken_of : (row : List Reached)
      → sum_by weight (taken_of o d k row) ≡ ((sum_by weight o.taken + sum_by weight d.taken) + sum_by weight k.taken) + sum_by weight (stolen row)
  sum_by-taken_of row =
      omega (
        arith,
        sum_by-append weight ((o.taken ++ d.taken) ++ k.taken) (stolen row),
        sum_by-append weight
            (o.taken ++ d.taken) k.taken,
        sum_by-append weight o.taken d.taken,
      )

-- one number more was stolen
pub taken_of_one_more : {T : Type 0} (o d : Tally) (k : Log T) (row row' : List Reached) (n : ℕ) (old : List ℕ)
    → AsOften (stolen row') (n ∷ stolen row) → taken_of o d k row ≡ old → AsOften (taken_of o d k row') (n ∷ old)
taken_of_one_more o d k row row' n old more was weight =
    let a = sum_by-taken_of weight o d k row in
    let b = sum_by-taken_of weight o d k row' in
    let m = more weight in
    let w = ap (sum_by weight) was in
    omega (arith, sum_by-cons weight n old, sum_by-cons weight n (stolen row))
