-- Parts of numerators are bounded by the norm.
use Rattle.std.proofs.Common.{◌≡◌, ℕ, zero, suc, ◌+◌, ◌*◌, ◌^◌, ◌<◌, ◌≤◌, List, [], ◌∷◌, refl}
use Rattle.std.proofs.Common.{arith, inl, inr, ◌⊎◌}
use Rattle.std.specs.Prelude.{ℤ, pos, negsuc, ◌+ℤ◌, ◌-ℤ◌, ◌*ℤ◌, ◌≤ℤ◌, nat_abs, FitsSigned}
use Rattle.std.specs.Int.{w128}
use Rattle.std.proofs.lemmas.Int.{ints}
use Rattle.std.proofs.lemmas.Bool.{cases_lt}
use Rattle.std.proofs.Math.Nat.{mul-le-mul}
use Rattle.cqp_ring.specs.declared.amp.Amp.{Amp}
use Rattle.cqp_ring.specs.Amp.{AmpFits, amp_sum, amp_difference}
use Rattle.cqp_ring.specs.Root.{norm_of, norm_sum}
use Rattle.cqp_vector.specs.State.{amp_at}
use Rattle.cqp_vector.specs.Group.{IsSmall}

-- a square
pub square_is : (x : ℤ) → x *ℤ x ≡ pos (nat_abs x * nat_abs x)
square_is (pos n) = refl
square_is (negsuc n) = refl

-- the whole part of a norm
abbrev pub squares_of : Amp → ℕ
squares_of x = nat_abs x.a * nat_abs x.a + nat_abs x.b * nat_abs x.b + nat_abs x.c * nat_abs x.c + nat_abs x.d * nat_abs x.d

-- the whole part of a numerator's norm is the sum of its squares
pub norm_is_squares : (x : Amp) → (norm_of x).p ≡ pos (squares_of x)
norm_is_squares x = rw (square_is x.a, square_is x.b, square_is x.c, square_is x.d) refl

-- the squares of all parts of all numerators, summed
unfoldable pub all_squares : List Amp → ℕ
all_squares [] = 0
all_squares (x ∷ xs) = squares_of x + all_squares xs

-- so for a list
pub norm_sum_is_squares : (xs : List Amp) → (norm_sum xs).p ≡ pos (all_squares xs)
unfolding all_squares
norm_sum_is_squares [] = refl
norm_sum_is_squares (x ∷ xs) = rw (norm_is_squares x, norm_sum_is_squares xs) refl

-- the squares of one are at most those of all
pub one_within : (xs : List Amp) (k : ℕ) → squares_of (amp_at xs k) ≤ all_squares xs
unfolding all_squares
one_within [] k = omega arith
one_within (x ∷ xs) zero = omega arith
one_within (x ∷ xs) (suc k) = omega (arith, one_within xs k)

-- a number whose square is at most 2^90
small_root : (n : ℕ) → n * n ≤ 2 ^ 90 → n ≤ 2 ^ 45
small_root n h = by_cases (cases_lt (2 ^ 45) n)
  where
    by_cases : ((2 ^ 45) < n) ⊎ (n ≤ 2 ^ 45) → n ≤ 2 ^ 45
    by_cases (inl more) =
        let f : (2 ^ 45 + 1) * (2 ^ 45 + 1) ≤ n * n = mul-le-mul {n₁ = 2 ^ 45 + 1} {m₁ = 2 ^ 45 + 1} {n₂ = n} {m₂ = n} (omega arith) (omega arith) in
        absurd (omega arith)
    by_cases (inr less) = less

-- where the norm is at most 2^90, each numerator is small
pub small_at : (xs : List Amp) (k : ℕ) → (norm_sum xs).p ≤ℤ pos (2 ^ 90) → IsSmall (amp_at xs k)
small_at xs k bound =
    let most : pos (all_squares xs) ≤ℤ pos (2 ^ 90) = rw (norm_sum_is_squares xs) at bound in
    let within : squares_of (amp_at xs k) ≤ all_squares xs = one_within xs k in
    let small : squares_of (amp_at xs k) ≤ 2 ^ 90 = omega (arith, ints) in
    record {
      a_small = small_root _ (omega arith);
      b_small = small_root _ (omega arith);
      c_small = small_root _ (omega arith);
      d_small = small_root _ (omega arith);
    }

-- a sum of small parts fits in 128 bits
sum_fits : (x y : ℤ) → nat_abs x ≤ 2 ^ 45 → nat_abs y ≤ 2 ^ 45 → FitsSigned w128 (x +ℤ y)
sum_fits (pos m) (pos n) h g = omega (arith, ints)
sum_fits (pos m) (negsuc n) h g = omega (arith, ints)
sum_fits (negsuc m) (pos n) h g = omega (arith, ints)
sum_fits (negsuc m) (negsuc n) h g = omega (arith, ints)

-- so does a difference
difference_fits : (x y : ℤ) → nat_abs x ≤ 2 ^ 45 → nat_abs y ≤ 2 ^ 45 → FitsSigned w128 (x -ℤ y)
difference_fits (pos m) (pos n) h g = omega (arith, ints)
difference_fits (pos m) (negsuc n) h g = omega (arith, ints)
difference_fits (negsuc m) (pos n) h g = omega (arith, ints)
difference_fits (negsuc m) (negsuc n) h g = omega (arith, ints)

-- the sum of two such numerators fits
pub sum_of_small : (x y : Amp) → IsSmall x → IsSmall y → AmpFits (amp_sum x y)
sum_of_small x y f g = record {
  a_fits = sum_fits x.a y.a f.a_small g.a_small;
  b_fits = sum_fits x.b y.b f.b_small g.b_small;
  c_fits = sum_fits x.c y.c f.c_small g.c_small;
  d_fits = sum_fits x.d y.d f.d_small g.d_small;
}

-- so does the difference of small numerators
pub difference_of_small : (x y : Amp) → IsSmall x → IsSmall y → AmpFits (amp_difference x y)
difference_of_small x y f g = record {
  a_fits = difference_fits x.a y.a f.a_small g.a_small;
  b_fits = difference_fits x.b y.b f.b_small g.b_small;
  c_fits = difference_fits x.c y.c f.c_small g.c_small;
  d_fits = difference_fits x.d y.d f.d_small g.d_small;
}

-- the sum and the difference of two numerators of a list fit
pub sum_at_fits : (xs : List Amp) (j k : ℕ) → (norm_sum xs).p ≤ℤ pos (2 ^ 90) → AmpFits (amp_sum (amp_at xs j) (amp_at xs k))
sum_at_fits xs j k bound = sum_of_small (amp_at xs j) (amp_at xs k) (small_at xs j bound) (small_at xs k bound)

-- so does that of two numerators of a list with a norm of at most 2^90
pub difference_at_fits : (xs : List Amp) (j k : ℕ) → (norm_sum xs).p ≤ℤ pos (2 ^ 90) → AmpFits (amp_difference (amp_at xs j) (amp_at xs k))
difference_at_fits xs j k bound = difference_of_small (amp_at xs j) (amp_at xs k) (small_at xs j bound) (small_at xs k bound)
