-- How often root 2 divides numerators, but for a half: products of numerators.
use Rattle.std.proofs.Common.{◌≡◌, ℕ, zero, suc, ◌+◌, ◌*◌, ◌<◌, Bool, true, false, List, [], ◌∷◌, length, if◌then◌else◌, refl, sym, ap, arith, ◌∙◌, ⊎_elim}
use Rattle.std.proofs.lemmas.Bool.{cases_Bool, and_parts, and_from, and_left, and_right, not-true, not-false, not_from_false}
use Rattle.std.specs.List.{list_all}
use Rattle.cqp_ring.specs.declared.amp.Amp.{Amp}
use Rattle.cqp_ring.specs.Amp.{zero_amp, amp_product, root2_amp}
use Rattle.cqp_ring.specs.Parity.{has_odd_sum, has_even_sum, is_root2_times, over_root2}
use Rattle.cqp_ring.proofs.NormLemmas.{amp_product_comm}
use Rattle.cqp_ring.proofs.ParityLemmas.{odd_sum_of_product, root2_by_even_factor, root2_of_even_factors, quotient_of_even_factors, root2_times_quotient}
use Rattle.cqp_vector.specs.State.{amp_at}
use Rattle.cqp_vector.specs.Least.{root2_power}
use Rattle.cqp_products.proofs.ProductHalf.{one_times, times_one}

-- Numerators by places. Where nothing is over, the sum at place k is odd; where a half is over, all
-- sums are even and root 2 doesn't divide the numerator at place k.
abbrev pub IsOver : Bool → ℕ → (ℕ → Amp) → Type 0
IsOver false k x = has_odd_sum (x k) ≡ true
IsOver true k x = ((i : ℕ) → has_odd_sum (x i) ≡ false) × (is_root2_times (x k) ≡ false)

-- 1 where a half is over
abbrev pub halves : Bool → ℕ
halves true = 1
halves false = 0

-- products of numerators: root 2 comes out at most once
pub record Multiplied (b d : Bool) (k : ℕ) (x y : ℕ → Amp) : Type 0 where
  pub taken : ℕ
  pub rest : Bool
  pub left : ℕ → Amp
  pub is : (i : ℕ) → amp_product (x i) (y i) ≡ amp_product (root2_power taken) (left i)
  pub over : IsOver rest k left
  pub count : 2 * taken + halves rest ≡ halves b + halves d

-- an odd factor leaves to the other whether root 2 divides
odd_times : (x y : Amp) → has_odd_sum x ≡ true → has_odd_sum y ≡ false → is_root2_times y ≡ false → is_root2_times (amp_product x y) ≡ false
odd_times x y e f g = root2_by_even_factor x y e f ∙ g

-- odd times odd is odd, odd times a half is a half, and two halves are one root 2
pub multiplied : (b d : Bool) (k : ℕ) (x y : ℕ → Amp) → IsOver b k x → IsOver d k y → Multiplied b d k x y
multiplied false false k x y f g = record {
  taken = 0;
  rest = false;
  left = λ i. amp_product (x i) (y i);
  is = λ i. sym (one_times (amp_product (x i) (y i)));
  over = odd_sum_of_product (x k) (y k) ∙ and_from (has_odd_sum (x k)) (has_odd_sum (y k)) f g;
  count = refl;
}
multiplied false true k x y f g = record {
  taken = 0;
  rest = true;
  left = λ i. amp_product (x i) (y i);
  is = λ i. sym (one_times (amp_product (x i) (y i)));
  over = (
    λ i. odd_sum_of_product (x i) (y i) ∙ and_right (has_odd_sum (x i)) (has_odd_sum (y i)) (g.0 i),
    odd_times (x k) (y k) f (g.0 k) g.1,
  );
  count = refl;
}
multiplied true false k x y f g = record {
  taken = 0;
  rest = true;
  left = λ i. amp_product (x i) (y i);
  is = λ i. sym (one_times (amp_product (x i) (y i)));
  over = (
    λ i. odd_sum_of_product (x i) (y i) ∙ and_left (has_odd_sum (x i)) (has_odd_sum (y i)) (f.0 i),
    ap is_root2_times (amp_product_comm (x k) (y k)) ∙ odd_times (y k) (x k) g (f.0 k) f.1,
  );
  count = refl;
}
multiplied true true k x y f g = record {
  taken = 1;
  rest = false;
  left = λ i. over_root2 (amp_product (x i) (y i));
  is = λ i. sym (root2_times_quotient (amp_product (x i) (y i)) (root2_of_even_factors (x i) (y i) (f.0 i) (g.0 i)))
      ∙ ap (λ t. amp_product t (over_root2 (amp_product (x i) (y i)))) (sym (times_one root2_amp));
  over = quotient_of_even_factors (x k) (y k) (f.0 k) (g.0 k)
      ∙ and_from _ _ (not_from_false (is_root2_times (x k)) f.1) (not_from_false (is_root2_times (y k)) g.1);
  count = refl;
}

-- the first place where the test fails
abbrev pub first_failing : (Amp → Bool) → List Amp → ℕ
first_failing t [] = 0
first_failing t (x ∷ xs) = if t x then first_failing t xs + 1 else 0

-- a test that not all pass fails there, within the list
pub fails_there : (t : Amp → Bool) (xs : List Amp) → list_all t xs ≡ false → (first_failing t xs < length xs) × (t (amp_at xs (first_failing t xs)) ≡ false)
fails_there t [] h = cc
fails_there t (x ∷ xs) h = ⊎_elim
    (λ (u : t x ≡ true).
    let rest : list_all t xs ≡ false = rw u at h in
    let later = fails_there t xs rest in
    let up : first_failing t xs + 1 ≡ suc (first_failing t xs) = omega arith in
    rw (u, up) (omega (arith, later.0), later.1))
    (λ (u : t x ≡ false). rw u (omega arith, u))
    (cases_Bool (t x))

-- what all pass, and 0 passes, each numerator passes
pub passes_at : (t : Amp → Bool) (xs : List Amp) (i : ℕ) → t zero_amp ≡ true → list_all t xs ≡ true → t (amp_at xs i) ≡ true
passes_at t [] i z h = z
passes_at t (x ∷ xs) zero z h = (and_parts (t x) (list_all t xs) h).0
passes_at t (x ∷ xs) (suc i) z h = passes_at t xs i z (and_parts (t x) (list_all t xs) h).1

-- the test for what is left: root 2 where all sums are even
abbrev pub test_of : Bool → Amp → Bool
test_of true = is_root2_times
test_of false = has_even_sum

-- the place that tells what is left
abbrev pub telling : List Amp → ℕ
telling xs = first_failing (test_of (list_all has_even_sum xs)) xs

-- a place tells that something is over
abbrev pub IsTold : List Amp → Type 0
IsTold xs = (telling xs < length xs) × IsOver (list_all has_even_sum xs) (telling xs) (amp_at xs)

-- where root 2 doesn't divide all
pub told : (xs : List Amp) → list_all is_root2_times xs ≡ false → IsTold xs
told xs h = ⊎_elim
    (λ (t : list_all has_even_sum xs ≡ true).
    let there = fails_there is_root2_times xs h in
    rw t (there.0, (λ i. not-true (has_odd_sum (amp_at xs i)) (passes_at has_even_sum xs i refl t), there.1)))
    (λ (t : list_all has_even_sum xs ≡ false).
    let there = fails_there has_even_sum xs t in
    rw t (there.0, not-false (has_odd_sum (amp_at xs (first_failing has_even_sum xs))) there.1))
    (cases_Bool (list_all has_even_sum xs))
