-- Distinct places are at most as many as there are qubits.
use Rattle.std.proofs.Common.{◌≡◌, ◌≢◌, ℕ, zero, suc, ◌<◌, ◌≤◌, List, [], ◌∷◌, length, refl, ap, ◌∙◌, arith}
use Rattle.std.proofs.Common.{true, false, inl, inr, ◌⊎◌}
use Rattle.std.specs.Prelude.{◌==◌, if◌then◌else◌}
use Rattle.std.proofs.lemmas.Bool.{and_parts, and_from, not-true, not_from_false, or_parts, or_from, cases_Bool, eqb-true, eqb-false, ltb-true, lt-ltb}
use Rattle.cqp_syntax.specs.Lists.{are_below, is_distinct, stands_in}
use Rattle.cqp_vector.specs.Places.{ArePlaces}

-- the list without the first x
dropped : ℕ → List ℕ → List ℕ
dropped x [] = []
dropped x (y ∷ ys) = if x == y then ys else y ∷ dropped x ys

-- leaving out a number takes at most one off the length
one_less : (x : ℕ) (ys : List ℕ) → length ys ≤ suc (length (dropped x ys))
unfolding dropped
one_less x [] = omega arith
one_less x (y ∷ ys) = by_cases (one_less x ys) (cases_Bool (x == y))
  where
    by_cases : length ys ≤ suc (length (dropped x ys)) → ((x == y) ≡ true) ⊎ ((x == y) ≡ false)
        → suc (length ys) ≤ suc (length (if x == y then ys else y ∷ dropped x ys))
    by_cases h (inl e) = rw e (omega arith)
    by_cases h (inr e) = rw e (omega arith)

-- another number that isn't there still isn't
still_absent : (x z : ℕ) (ys : List ℕ) → stands_in ys z ≡ false → stands_in (dropped x ys) z ≡ false
unfolding dropped
still_absent x z [] e = refl
still_absent x z (y ∷ ys) e = by_cases (still_absent x z ys (or_parts _ _ e).1) (cases_Bool (x == y))
  where
    by_cases : stands_in (dropped x ys) z ≡ false → ((x == y) ≡ true) ⊎ ((x == y) ≡ false) → stands_in (if x == y then ys else y ∷ dropped x ys) z ≡ false
    by_cases h (inl f) = rw f (or_parts _ _ e).1
    by_cases h (inr f) = rw f (or_from _ _ (or_parts _ _ e).0 h)

-- what is left of a distinct list is distinct
still_distinct : (x : ℕ) (ys : List ℕ) → is_distinct ys ≡ true → is_distinct (dropped x ys) ≡ true
unfolding dropped
still_distinct x [] e = refl
still_distinct x (y ∷ ys) e = by_cases (still_distinct x ys (and_parts _ _ e).1) (still_absent x y ys (not-true _ (and_parts _ _ e).0)) (cases_Bool (x == y))
  where
    by_cases : is_distinct (dropped x ys) ≡ true → stands_in (dropped x ys) y ≡ false → ((x == y) ≡ true) ⊎ ((x == y) ≡ false)
        → is_distinct (if x == y then ys else y ∷ dropped x ys) ≡ true
    by_cases h g (inl f) = rw f (and_parts _ _ e).1
    by_cases h g (inr f) = rw f (and_from _ _ (not_from_false _ g) h)

-- numbers below n + 1, none of which is n
lower : (n : ℕ) (ys : List ℕ) → are_below (suc n) ys ≡ true → stands_in ys n ≡ false → are_below n ys ≡ true
lower n [] b e = refl
lower n (y ∷ ys) b e =
    let t = and_parts _ _ b in
    let u = or_parts _ _ e in
    let less : y < suc n = ltb-true y (suc n) t.0 in
    let other : n ≢ y = eqb-false n y u.0 in
    let below : y < n = omega arith in
    and_from _ _ (lt-ltb y n below) (lower n ys t.1 u.1)

-- a distinct list below n + 1 is below n without n
below_without : (n : ℕ) (ys : List ℕ) → is_distinct ys ≡ true → are_below (suc n) ys ≡ true → are_below n (dropped n ys) ≡ true
unfolding dropped
below_without n [] d b = refl
below_without n (y ∷ ys) d b = by_cases (below_without n ys (and_parts _ _ d).1 (and_parts _ _ b).1) (cases_Bool (n == y))
  where
    absent : (n == y) ≡ true → stands_in ys n ≡ false
    absent f = ap (stands_in ys) (eqb-true n y f) ∙ not-true _ (and_parts _ _ d).0

    by_cases : are_below n (dropped n ys) ≡ true → ((n == y) ≡ true) ⊎ ((n == y) ≡ false) → are_below n (if n == y then ys else y ∷ dropped n ys) ≡ true
    by_cases h (inl f) = rw f (lower n ys (and_parts _ _ b).1 (absent f))
    by_cases h (inr f) =
        let less : y < suc n = ltb-true y (suc n) (and_parts _ _ b).0 in
        let other : n ≢ y = eqb-false n y f in
        let below : y < n = omega arith in
        rw f (and_from _ _ (lt-ltb y n below) h)

-- no number is below 0
none_below_zero : (ys : List ℕ) → are_below 0 ys ≡ true → length ys ≤ 0
none_below_zero [] b = omega arith
none_below_zero (y ∷ ys) b = let less : y < 0 = ltb-true y 0 (and_parts _ _ b).0 in absurd (omega arith)

-- distinct numbers below n are at most n
pub at_most_all : (n : ℕ) (ys : List ℕ) → is_distinct ys ≡ true → are_below n ys ≡ true → length ys ≤ n
at_most_all zero ys d b = none_below_zero ys b
at_most_all (suc n) ys d b =
    let h = at_most_all n (dropped n ys) (still_distinct n ys d) (below_without n ys d b) in
    let g = one_less n ys in
    omega arith

-- there are at most as many places as qubits
pub places_at_most : (n : ℕ) (ps : List ℕ) → ArePlaces n ps → length ps ≤ n
places_at_most n ps p = at_most_all n ps p.distinct p.below
