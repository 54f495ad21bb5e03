-- Sums of the first numbers.
use Rattle.std.proofs.Common.{◌≡◌, ℕ, zero, suc, ◌≤◌, subst, arith, ⊎_elim, nat_lt, true, false}
use Rattle.std.proofs.lemmas.Bool.{cases_Bool, ltb-true, ltb-false}
use Rattle.cqp_machine.specs.Sums.{sum_below}

-- a part of a sum is at most the sum
pub part_below : (f : ℕ → ℕ) (n m : ℕ) → n ≤ m → sum_below n f ≤ sum_below m f
part_below f n zero h = subst (λ k. sum_below k f ≤ sum_below zero f) (let none : 0 ≡ n = omega arith in none) (omega arith)
part_below f n (suc m) h = ⊎_elim
    (λ (t : nat_lt n (suc m) ≡ true). let less = part_below f n m (let below = ltb-true n (suc m) t in omega arith) in omega arith)
    (λ (t : nat_lt n (suc m) ≡ false). let same : suc m ≡ n = let above = ltb-false n (suc m) t in omega arith in
    subst (λ k. sum_below k f ≤ sum_below (suc m) f) same (omega arith))
    (cases_Bool (nat_lt n (suc m)))
