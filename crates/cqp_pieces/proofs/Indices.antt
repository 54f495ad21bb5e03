-- Numbers of a list by their places in it.
use Rattle.std.proofs.Common.{◌≡◌, ℕ, zero, suc, ◌+◌, ◌<◌, ◌==◌, ◌||◌, not, Bool, true, false, List, [], ◌∷◌, map, filter, length, refl, sym, ap, subst, arith}
use Rattle.std.proofs.Common.{eq-eqb, ne_eqb, ◌∙◌, ⊎_elim}
use Rattle.std.specs.Prelude.{slice_index}
use Rattle.std.specs.List.{range_with_len, list_all}
use Rattle.std.proofs.lemmas.Bool.{cases_Bool, and_from, or_left, or_right, eqb-true, eqb-false, both_ways, false_from_ne_true}
use Rattle.cqp_book.specs.Keys.{has}
use Rattle.cqp_syntax.specs.Lists.{stands_in}
use Rattle.cqp_machine.specs.Factors.{index_of, places_in}
use Rattle.cqp_places.specs.Places.{IsDistinct}
use Rattle.cqp_places.proofs.PlacesKept.{one_index}
use Rattle.cqp_pieces.proofs.Ranges.{filter_made, same_tests}

-- tests that hold alike
pub bool_same : (x y : Bool) → (x ≡ true → y ≡ true) → (y ≡ true → x ≡ true) → x ≡ y
bool_same true y f g = sym (f refl)
bool_same false true f g = g refl
bool_same false false f g = refl

-- all are in the list, by the test
pub all_inside : (xs qs : List ℕ) → ((q : ℕ) → has q qs ≡ true → has q xs ≡ true) → list_all (λ r. has r xs) qs ≡ true
all_inside xs [] h = refl
all_inside xs (q ∷ qs) h =
    and_from (has q xs) (list_all (λ r. has r xs) qs) (h q (or_left (q == q) (has q qs) (eq-eqb q q refl)))
    (all_inside xs qs (λ r t. h r (or_right (r == q) (has r qs) t)))

-- the number at the place of a number
pub at_index : (xs : List ℕ) (q : ℕ) → has q xs ≡ true → slice_index xs (index_of q xs) ≡ q
at_index [] q h = cc
at_index (x ∷ xs) q h = ⊎_elim
    (λ (t : (q == x) ≡ true). rw t (sym (eqb-true q x t)))
    (λ (t : (q == x) ≡ false).
    let up : index_of q xs + 1 ≡ suc (index_of q xs) = omega arith in
    rw (t, up) (at_index xs q (rw t at h)))
    (cases_Bool (q == x))

-- what is at a place is in the list
has_at : (xs : List ℕ) (p : ℕ) → p < length xs → has (slice_index xs p) xs ≡ true
has_at [] p h = absurd (omega arith)
has_at (x ∷ xs) zero h = or_left (x == x) (has x xs) (eq-eqb x x refl)
has_at (x ∷ xs) (suc p) h = or_right (slice_index xs p == x) (has (slice_index xs p) xs) (has_at xs p (omega arith))

-- the place of the number at a place
pub index_at : (xs : List ℕ) → IsDistinct xs → (p : ℕ) → p < length xs → index_of (slice_index xs p) xs ≡ p
index_at [] d p h = absurd (omega arith)
index_at (x ∷ xs) d zero h = let same : (x == x) ≡ true = eq-eqb x x refl in rw same refl
index_at (x ∷ xs) d (suc p) h =
    let there = has_at xs p (omega arith) in
    let other : (slice_index xs p == x) ≡ false = false_from_ne_true (slice_index xs p == x) (λ z. both_ways (has x xs) d.0 (subst (λ y. has y xs
    ≡ true) (eqb-true (slice_index xs p) x z) there)) in
    let later = index_at xs d.1 p (omega arith) in
    rw other (omega (arith, later))

-- a list is its numbers at its places
all_at : (f : ℕ → ℕ) (xs : List ℕ) (a : ℕ) → ((k : ℕ) → f (a + k) ≡ slice_index xs k) → map f (range_with_len a (length xs)) ≡ xs
all_at f [] a h = refl
all_at f (x ∷ xs) a h =
    let start : a ≡ a + 0 = omega arith in
    let first : f a ≡ x = ap f start ∙ h 0 in
    let rest = all_at f xs (a + 1) (λ k. ap f (shift a k) ∙ h (suc k)) in
    λ i. first i ∷ rest i
  where
    shift : (a k : ℕ) → a + 1 + k ≡ a + suc k
    shift a k = omega arith

-- from place 0 on
pub by_index : (xs : List ℕ) → map (slice_index xs) (range_with_len 0 (length xs)) ≡ xs
by_index xs = all_at (slice_index xs) xs 0 (λ k. let none : 0 + k ≡ k = omega arith in ap (slice_index xs) none)

-- functions of places and of numbers
pub by_places_of : {X : Type 0} (f : ℕ → X) (g : ℕ → X) (qs : List ℕ) (a : ℕ) → IsDistinct qs → ((q : ℕ) → has q qs ≡ true → f (a + index_of q qs) ≡ g q)
    → map f (range_with_len a (length qs)) ≡ map g qs
by_places_of f g [] a d h = refl
by_places_of f g (q ∷ qs) a d h =
    let here : (q == q) ≡ true = eq-eqb q q refl in
    let zero_there : index_of q (q ∷ qs) ≡ 0 = rw here refl in
    let start : a ≡ a + index_of q (q ∷ qs) = omega arith in
    let first : f a ≡ g q = ap f start ∙ h q (or_left (q == q) (has q qs) here) in
    let rest = by_places_of f g qs (a + 1) d.1 (λ r t.
    let other : (r == q) ≡ false = false_from_ne_true (r == q) (λ z. both_ways (has q qs) d.0 (subst (λ y. has y qs ≡ true) (eqb-true r q z) t)) in
    let later : index_of r (q ∷ qs) ≡ index_of r qs + 1 = rw other refl in
    let on : a + 1 + index_of r qs ≡ a + index_of r (q ∷ qs) = omega arith in
    ap f on ∙ h r (or_right (r == q) (has r qs) t)) in
    λ i. first i ∷ rest i

-- the places of qubits in a group
module _ (xs : List ℕ) where
  -- one of them has its place among the places
  pub place_of : (qs : List ℕ) (q : ℕ) → has q qs ≡ true → slice_index (places_in xs qs) (index_of q qs) ≡ index_of q xs
  place_of [] q h = cc
  place_of (x ∷ qs) q h = ⊎_elim
      (λ (t : (q == x) ≡ true). rw t (ap (λ z. index_of z xs) (sym (eqb-true q x t))))
      (λ (t : (q == x) ≡ false).
      let up : index_of q qs + 1 ≡ suc (index_of q qs) = omega arith in
      rw (t, up) (place_of qs q (rw t at h)))
      (cases_Bool (q == x))

  -- its place stands among the places
  pub place_there : (qs : List ℕ) (q : ℕ) → has q qs ≡ true → has (index_of q xs) (places_in xs qs) ≡ true
  place_there [] q h = cc
  place_there (x ∷ qs) q h = ⊎_elim
      (λ (t : (q == x) ≡ true).
      or_left (index_of q xs == index_of x xs) (has (index_of q xs) (places_in xs qs))
      (eq-eqb (index_of q xs) (index_of x xs) (ap (λ z. index_of z xs) (eqb-true q x t))))
      (λ (t : (q == x) ≡ false). or_right (index_of q xs == index_of x xs) (has (index_of q xs) (places_in xs qs)) (place_there qs q (rw t at h)))
      (cases_Bool (q == x))

  -- its place among the places is its own among the qubits
  pub index_of_place : (qs : List ℕ) → ((q : ℕ) → has q qs ≡ true → has q xs ≡ true) → (q : ℕ) → has q qs ≡ true
      → index_of (index_of q xs) (places_in xs qs) ≡ index_of q qs
  index_of_place [] inside q h = cc
  index_of_place (x ∷ qs) inside q h = ⊎_elim
      (λ (t : (q == x) ≡ true).
      let same : (index_of q xs == index_of x xs) ≡ true = eq-eqb (index_of q xs) (index_of x xs) (ap (λ z. index_of z xs) (eqb-true q x t)) in
      rw (t, same) refl)
      (λ (t : (q == x) ≡ false).
      let apart : (index_of q xs == index_of x xs) ≡ false = ne_eqb (index_of q xs) (index_of x xs) (λ e.
      eqb-false q x t (one_index xs q x (inside q h) (inside x (or_left (x == x) (has x qs) (eq-eqb x x refl))) e)) in
      let later = index_of_place qs (λ r u. inside r (or_right (r == x) (has r qs) u)) q (rw t at h) in
      rw (t, apart) (ap (λ n. n + 1) later))
      (cases_Bool (q == x))

  -- a place stands among them where its qubit is one of them
  module _ (d : IsDistinct xs) where
    -- one place is a qubit's exactly where the qubit stands there
    one_test : (p q : ℕ) → p < length xs → has q xs ≡ true → (p == index_of q xs) ≡ (slice_index xs p == q)
    one_test p q small there = bool_same (p == index_of q xs) (slice_index xs p == q)
        (λ t. eq-eqb (slice_index xs p) q (ap (slice_index xs) (eqb-true p (index_of q xs) t) ∙ at_index xs q there))
        (λ t. eq-eqb p (index_of q xs) (sym (index_at xs d p small) ∙ ap (λ z. index_of z xs) (eqb-true (slice_index xs p) q t)))

    -- several places are those of qubits exactly where they stand there
    stands_test : (qs : List ℕ) → ((q : ℕ) → has q qs ≡ true → has q xs ≡ true) → (p : ℕ) → p < length xs
        → stands_in (places_in xs qs) p ≡ has (slice_index xs p) qs
    stands_test [] inside p small = refl
    stands_test (q ∷ qs) inside p small =
        let first = one_test p q small (inside q (or_left (q == q) (has q qs) (eq-eqb q q refl))) in
        let rest = stands_test qs (λ r t. inside r (or_right (r == q) (has r qs) t)) p small in
        λ i. first i || rest i

    -- the qubits that aren't among them are those at the other places
    pub others_are : (qs : List ℕ) → ((q : ℕ) → has q qs ≡ true → has q xs ≡ true)
        → filter (λ q. not (has q qs)) xs ≡ map (slice_index xs) (filter (λ p. not (stands_in (places_in xs qs) p)) (range_with_len 0 (length xs)))
    others_are qs inside =
        ap (filter (λ q. not (has q qs))) (sym (by_index xs))
        ∙ (filter_made (λ q. not (has q qs)) (slice_index xs) (range_with_len 0 (length xs))
        ∙ ap (map (slice_index xs)) (same_tests (λ p. not (has (slice_index xs p) qs)) (λ p. not (stands_in (places_in xs qs) p)) 0 (length xs)
        (λ p small. ap not (sym (stands_test qs inside p (omega arith))))))
