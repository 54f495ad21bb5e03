-- Distinct qubits of a group have distinct places in it.
use Rattle.std.proofs.Common.{◌≡◌, ℕ, ◌+◌, List, [], ◌∷◌, ◌==◌, not, nat_lt, true, false, length, refl, sym, arith, ne_eqb, ◌∙◌, ⊎_elim}
use Rattle.std.specs.List.{list_all}
use Rattle.std.proofs.lemmas.Bool.{cases_Bool, and_parts, and_from, or_from, eqb-true, eqb-false, not_from_false, lt-ltb, or_parts}
use Rattle.cqp_book.specs.Keys.{has}
use Rattle.cqp_syntax.specs.Lists.{stands_in, is_distinct, are_below}
use Rattle.cqp_vector.specs.Places.{ArePlaces}
use Rattle.cqp_machine.specs.Factors.{index_of, places_in}
use Rattle.cqp_places.specs.Places.{IsDistinct}
use Rattle.cqp_places.proofs.PlaceLemmas.{index_within}

-- numbers of one place are one
pub one_index : (xs : List ℕ) (q r : ℕ) → has q xs ≡ true → has r xs ≡ true → index_of q xs ≡ index_of r xs → q ≡ r
one_index [] q r a b e = cc
one_index (x ∷ xs) q r a b e = ⊎_elim
    (λ (t : (q == x) ≡ true). ⊎_elim
    (λ (u : (r == x) ≡ true). eqb-true q x t ∙ sym (eqb-true r x u))
    (λ (u : (r == x) ≡ false). let none : 0 ≡ index_of r xs + 1 = rw (t, u) at e in absurd (omega arith))
    (cases_Bool (r == x)))
    (λ (t : (q == x) ≡ false). ⊎_elim
    (λ (u : (r == x) ≡ true). let none : index_of q xs + 1 ≡ 0 = rw (t, u) at e in absurd (omega arith))
    (λ (u : (r == x) ≡ false).
    let same : index_of q xs + 1 ≡ index_of r xs + 1 = rw (t, u) at e in
    one_index xs q r (rw t at a) (rw u at b) (omega arith))
    (cases_Bool (r == x)))
    (cases_Bool (q == x))

-- another number has another place
not_among : (xs : List ℕ) (q : ℕ) (qs : List ℕ) → has q xs ≡ true → list_all (λ r. has r xs) qs ≡ true → has q qs ≡ false
    → stands_in (places_in xs qs) (index_of q xs) ≡ false
not_among xs q [] a h n = refl
not_among xs q (r ∷ qs) a h n =
    let parts = and_parts (has r xs) (list_all (λ r. has r xs) qs) h in
    let others = or_parts (q == r) (has q qs) n in
    or_from (index_of q xs == index_of r xs) (stands_in (places_in xs qs) (index_of q xs))
    (ne_eqb (index_of q xs) (index_of r xs) (λ e. eqb-false q r others.0 (one_index xs q r a parts.0 e)))
    (not_among xs q qs a parts.1 others.1)

-- distinct qubits have distinct places
distinct_places : (xs qs : List ℕ) → IsDistinct qs → list_all (λ r. has r xs) qs ≡ true → is_distinct (places_in xs qs) ≡ true
distinct_places xs [] d h = refl
distinct_places xs (q ∷ qs) d h =
    let parts = and_parts (has q xs) (list_all (λ r. has r xs) qs) h in
    and_from (not (stands_in (places_in xs qs) (index_of q xs))) (is_distinct (places_in xs qs))
    (not_from_false (stands_in (places_in xs qs) (index_of q xs)) (not_among xs q qs parts.0 parts.1 d.0))
    (distinct_places xs qs d.1 parts.1)

-- and places within the group
places_below : (xs qs : List ℕ) → list_all (λ r. has r xs) qs ≡ true → are_below (length xs) (places_in xs qs) ≡ true
places_below xs [] h = refl
places_below xs (q ∷ qs) h =
    let parts = and_parts (has q xs) (list_all (λ r. has r xs) qs) h in
    and_from (nat_lt (index_of q xs) (length xs)) (are_below (length xs) (places_in xs qs))
    (lt-ltb (index_of q xs) (length xs) (index_within q xs parts.0)) (places_below xs qs parts.1)

-- so they are places
pub own_places : (xs qs : List ℕ) → IsDistinct qs → list_all (λ r. has r xs) qs ≡ true → ArePlaces (length xs) (places_in xs qs)
own_places xs qs d h = record { distinct = distinct_places xs qs d h; below = places_below xs qs h }
