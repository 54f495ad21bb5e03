-- Qubits that have distinct places in a group are distinct qubits of it.
use Rattle.std.proofs.Common.{◌≡◌, ℕ, ◌+◌, ◌<◌, List, [], ◌∷◌, ◌==◌, not, nat_lt, true, false, length, ap, arith, refl, ne_eqb, ⊎_elim}
use Rattle.std.specs.List.{list_all}
use Rattle.std.proofs.lemmas.Bool.{cases_Bool, and_parts, and_from, or_from, or_left, or_right, or_parts, eqb-false, ltb-true, not-true}
use Rattle.cqp_book.specs.Keys.{has}
use Rattle.cqp_syntax.specs.Lists.{stands_in, is_distinct, are_below}
use Rattle.cqp_vector.specs.Places.{ArePlaces}
use Rattle.cqp_machine.specs.Factors.{index_of, places_in}
use Rattle.cqp_places.specs.Places.{IsDistinct}

-- a number whose place is one of the list's stands there
index_there : (q : ℕ) (xs : List ℕ) → index_of q xs < length xs → has q xs ≡ true
index_there q [] h = absurd (omega arith)
index_there q (x ∷ xs) h = ⊎_elim
    (λ (t : (q == x) ≡ true). or_left (q == x) (has q xs) t)
    (λ (t : (q == x) ≡ false).
    let behind : index_of q xs + 1 < length (x ∷ xs) = rw t at h in
    or_right (q == x) (has q xs) (index_there q xs (omega arith)))
    (cases_Bool (q == x))

-- so do all
all_there : (xs qs : List ℕ) → are_below (length xs) (places_in xs qs) ≡ true → list_all (λ q. has q xs) qs ≡ true
all_there xs [] h = refl
all_there xs (q ∷ qs) h =
    let parts = and_parts (nat_lt (index_of q xs) (length xs)) (are_below (length xs) (places_in xs qs)) h in
    and_from (has q xs) (list_all (λ q. has q xs) qs)
    (index_there q xs (ltb-true (index_of q xs) (length xs) parts.0)) (all_there xs qs parts.1)

-- a place that isn't among others is that of another number
other_number : (xs : List ℕ) (q : ℕ) (qs : List ℕ) → stands_in (places_in xs qs) (index_of q xs) ≡ false → has q qs ≡ false
other_number xs q [] h = refl
other_number xs q (r ∷ qs) h =
    let parts = or_parts (index_of q xs == index_of r xs) (stands_in (places_in xs qs) (index_of q xs)) h in
    or_from (q == r) (has q qs)
    (ne_eqb q r (λ e. eqb-false (index_of q xs) (index_of r xs) parts.0 (ap (λ z. index_of z xs) e)))
    (other_number xs q qs parts.1)

-- distinct places are those of distinct numbers
distinct_there : (xs qs : List ℕ) → is_distinct (places_in xs qs) ≡ true → IsDistinct qs
distinct_there xs [] h = tt
distinct_there xs (q ∷ qs) h =
    let parts = and_parts (not (stands_in (places_in xs qs) (index_of q xs))) (is_distinct (places_in xs qs)) h in
    (other_number xs q qs (not-true (stands_in (places_in xs qs) (index_of q xs)) parts.0), distinct_there xs qs parts.1)

-- both, of places in a group
pub held_qubits : (xs qs : List ℕ) → ArePlaces (length xs) (places_in xs qs) → IsDistinct qs × (list_all (λ q. has q xs) qs ≡ true)
held_qubits xs qs places = (distinct_there xs qs places.distinct, all_there xs qs places.below)
