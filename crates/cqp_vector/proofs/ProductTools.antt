-- Products of numerators that may be 0, and lists of numbers, for the product of the pieces of a split.
use Rattle.std.proofs.Common.{◌≡◌, ◌≢◌, ◌⊎◌, inl, inr, ℕ, zero, suc, ◌+◌, ◌*◌, ◌<◌, ◌≤◌, List, [], ◌∷◌, ◌++◌, length, map}
use Rattle.std.proofs.Common.{refl, sym, ap, ◌∙◌, arith, subst, true, false, ⊎_elim}
use Rattle.std.specs.Prelude.{◌==◌, ◌&&◌, Bool, filter, cond, if◌then◌else◌}
use Rattle.std.specs.List.{range_with_len, list_all}
use Rattle.std.proofs.lemmas.Int.{ints}
use Rattle.std.proofs.lemmas.Bool.{and_parts, cases_eq, eqb-true, ltb-true}
use Rattle.cqp_ring.specs.declared.amp.Amp.{Amp}
use Rattle.cqp_ring.specs.Amp.{amp_product, one_amp, zero_amp}
use Rattle.cqp_ring.proofs.NormLemmas.{amp_product_assoc}
use Rattle.cqp_ring.proofs.Integers.{same_amp}
use Rattle.cqp_syntax.specs.Lists.{are_below, stands_in}
use Rattle.cqp_vector.specs.State.{amp_at, qubit_bit}
use Rattle.cqp_vector.specs.Group.{Group}
use Rattle.cqp_vector.specs.Products.{AreBits, amp_with, place_after, place_with, product_with}
use Rattle.cqp_vector.proofs.PlaceBits.{or_cases}

-- ---- products with 0 and 1
-- 1 times a numerator is it
pub one_times : (x : Amp) → amp_product one_amp x ≡ x
one_times x = same_amp (omega (arith, ints)) (omega (arith, ints)) (omega (arith, ints)) (omega (arith, ints))

-- and on the other side
pub times_one : (x : Amp) → amp_product x one_amp ≡ x
times_one x = same_amp (omega (arith, ints)) (omega (arith, ints)) (omega (arith, ints)) (omega (arith, ints))

-- 0 times a numerator is 0
pub zero_times : (x : Amp) → amp_product zero_amp x ≡ zero_amp
zero_times x = same_amp (omega (arith, ints)) (omega (arith, ints)) (omega (arith, ints)) (omega (arith, ints))

-- and on the other side
times_zero : (x : Amp) → amp_product x zero_amp ≡ zero_amp
times_zero x = same_amp (omega (arith, ints)) (omega (arith, ints)) (omega (arith, ints)) (omega (arith, ints))

-- a product of two that may be 0
pub product_if : (s t : Bool) (x y : Amp) → amp_product (if s then x else zero_amp) (if t then y else zero_amp) ≡ (if s && t then amp_product x y else zero_amp)
product_if true true x y = refl
product_if true false x y = times_zero x
product_if false t x y = zero_times (if t then y else zero_amp)

-- one group more behind some
pub product_last : (b : ℕ → ℕ) (gs : List Group) (f : Group) → product_with b (gs ++ f ∷ []) ≡ amp_product (product_with b gs) (amp_with b f)
product_last b [] f = times_one (amp_with b f) ∙ sym (one_times (amp_with b f))
product_last b (g ∷ gs) f = ap (amp_product (amp_with b g)) (product_last b gs f) ∙ sym (amp_product_assoc (amp_with b g) (product_with b gs) (amp_with b f))

-- ---- lists
-- two tests that pass together
both_true : (s t : Bool) → s ≡ true → t ≡ true → (s && t) ≡ true
both_true true t e f = f
both_true false t e f = e

-- tests that pass alike are equal
pub bool_same : (s t : Bool) → (s ≡ true → t ≡ true) → (t ≡ true → s ≡ true) → s ≡ t
bool_same true t f g = sym (f refl)
bool_same false true f g = g refl
bool_same false false f g = refl

-- a test that passes at each number passes at all
pub all_range : (f : ℕ → Bool) (n a : ℕ) → ((q : ℕ) → q < a + n → f q ≡ true) → list_all f (range_with_len a n) ≡ true
all_range f zero a e = refl
all_range f (suc n) a e = both_true (f a) (list_all f (range_with_len (a + 1) n)) (e a (omega arith)) (all_range f n (a + 1) (λ q h. e q (omega arith)))

-- and the other way round
pub each_range : (f : ℕ → Bool) (n a q : ℕ) → list_all f (range_with_len a n) ≡ true → a ≤ q → q < a + n → f q ≡ true
each_range f zero a q e low high = absurd (omega arith)
each_range f (suc n) a q e low high =
    let parts = and_parts _ _ e in
    ⊎_elim
    (λ (s : a ≡ q). subst (λ t. f t ≡ true) s parts.0)
    (λ (s : a ≢ q). let more : a + 1 ≤ q = omega arith in each_range f n (a + 1) q parts.1 more (omega arith))
    (cases_eq a q)

-- tests that agree keep the same numbers
pub same_filters : (f h : ℕ → Bool) (n a : ℕ) → ((k : ℕ) → k < a + n → f k ≡ h k) → filter f (range_with_len a n) ≡ filter h (range_with_len a n)
same_filters f h zero a e = refl
same_filters f h (suc n) a e =
    ap (λ s. cond s (a ∷ filter f (range_with_len (a + 1) n)) (filter f (range_with_len (a + 1) n))) (e a (omega arith))
    ∙ ap (λ t. cond (h a) (a ∷ t) t) (same_filters f h n (a + 1) (λ k less. e k (omega arith)))

-- what a function makes of a number
pub made_at : (f : ℕ → Amp) (n a j : ℕ) → j < n → amp_at (map f (range_with_len a n)) j ≡ f (a + j)
made_at f zero a j h = absurd (omega arith)
made_at f (suc n) a zero h = let here : a ≡ a + 0 = omega arith in ap f here
made_at f (suc n) a (suc j) h = let on : a + 1 + j ≡ a + suc j = omega arith in made_at f n (a + 1) j (omega arith) ∙ ap f on

-- bits of what a function makes
pub place_map : (b f : ℕ → ℕ) (m : ℕ) (xs : List ℕ) → place_after b m (map f xs) ≡ place_after (λ j. b (f j)) m xs
place_map b f m [] = refl
place_map b f m (x ∷ xs) = place_map b f (2 * m + b (f x)) xs

-- no qubit has the place 0
pub no_place : (c : ℕ → ℕ) (xs : List ℕ) → length xs ≡ 0 → place_with c xs ≡ 0
no_place c [] e = refl
no_place c (x ∷ xs) e = absurd (omega arith)

-- what stands in places of n is below n
pub stands_below : (n : ℕ) (ps : List ℕ) (q : ℕ) → are_below n ps ≡ true → stands_in ps q ≡ true → q < n
stands_below n [] q e h = let f : false ≡ true = h in cc
stands_below n (p ∷ ps) q e h =
    let parts = and_parts _ _ e in
    ⊎_elim
    (λ (s : (q == p) ≡ true). let same = eqb-true q p s in let less = ltb-true p n parts.0 in omega arith)
    (λ (s : stands_in ps q ≡ true). stands_below n ps q parts.1 s)
    (or_cases (q == p) (stands_in ps q) h)

-- a bit is below 2
pub bits_small : (n k : ℕ) → AreBits (λ p. qubit_bit n p k)
bits_small n k p = omega arith

-- the numerator of one qubit at a bit
pub single_at : (d v : ℕ) (x : Amp) → (d ≡ 0) ⊎ (d ≡ 1) → (v ≡ 0) ⊎ (v ≡ 1)
    → amp_at (if d == 1 then zero_amp ∷ x ∷ [] else x ∷ zero_amp ∷ []) (2 * 0 + v) ≡ (if d == v then x else zero_amp)
single_at d v x (inl e) (inl f) = rw (e, f) refl
single_at d v x (inl e) (inr f) = rw (e, f) refl
single_at d v x (inr e) (inl f) = rw (e, f) refl
single_at d v x (inr e) (inr f) = rw (e, f) refl
