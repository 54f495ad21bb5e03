-- A group whose due qubits are fixed is projected on their outcome, and the rest of it as a factor is its rest.
use Rattle.std.proofs.Common.{◌≡◌, ◌⊎◌, ℕ, suc, ◌+◌, ◌*◌, ◌^◌, ◌<◌, ◌==◌, ◌||◌, not, Bool, true, false, List, [], ◌∷◌, map, length, if◌then◌else◌, refl, sym}
use Rattle.std.proofs.Common.{ap, subst, arith, eq-eqb, ◌∙◌, ⊎_elim}
use Rattle.std.specs.List.{range_with_len, list_all}
use Rattle.std.proofs.lemmas.Bool.{cases_Bool, and_parts, and_from, or_left, or_right, eqb-true, eqb-false, both_ways}
use Rattle.cqp_ring.specs.declared.amp.Amp.{Amp}
use Rattle.cqp_ring.specs.Amp.{zero_amp}
use Rattle.cqp_book.specs.Keys.{has}
use Rattle.cqp_vector.specs.State.{amp_at, qubit_bit}
use Rattle.cqp_vector.specs.Measurement.{outcome_at, outcome_after, is_zero_amp}
use Rattle.cqp_vector.specs.Pieces.{IsProjectedOn, agreeing}
use Rattle.cqp_vector.specs.Pieces as factor
use Rattle.cqp_vector.proofs.Bits.{bit_cases}
use Rattle.cqp_machine.specs.Factors.{Held, factor_of, index_of, places_in, first_place, bit_in, rest_of, rest_group, outcome_in}
use Rattle.cqp_places.specs.Places.{IsDistinct}
use Rattle.cqp_products.specs.Reads.{IsShaped}
use Rattle.cqp_products.specs.Reads.{IsFixed}
use Rattle.cqp_products.proofs.FixedLemmas.{zero_numerator}
use Rattle.cqp_places.proofs.SplitBits.{bits_told}
use Rattle.cqp_pieces.proofs.Ranges.{same_tests, map_made}
use Rattle.cqp_pieces.proofs.AgreeingPlaces.{fits, agrees_at, agreeing_places}
use Rattle.cqp_pieces.proofs.AgreeingPlaces as agree
use Rattle.cqp_pieces.proofs.Indices.{bool_same, place_there, others_are}

-- a list is told by its numerators
told_by_places : (g : ℕ → Amp) (xs : List Amp) (a : ℕ) → ((i : ℕ) → i < length xs → amp_at xs i ≡ g (a + i)) → map g (range_with_len a (length xs)) ≡ xs
told_by_places g [] a h = refl
told_by_places g (x ∷ xs) a h =
    let start : a ≡ a + 0 = omega arith in
    let first : g a ≡ x = ap g start ∙ sym (h 0 (omega arith)) in
    let rest = told_by_places g xs (a + 1) (λ i small. h (suc i) (omega arith) ∙ ap g (shift a i)) in
    λ i. first i ∷ rest i
  where
    shift : (a i : ℕ) → a + suc i ≡ a + 1 + i
    shift a i = omega arith

-- a test that all pass, and one that passes where all do
all_pass : (p : ℕ → Bool) (xs : List ℕ) → ((q : ℕ) → p q ≡ true) → list_all p xs ≡ true
all_pass p [] h = refl
all_pass p (x ∷ xs) h = and_from (p x) (list_all p xs) (h x) (all_pass p xs h)

-- one of them passes where all do
one_passes : (p : ℕ → Bool) (xs : List ℕ) → list_all p xs ≡ true → (q : ℕ) → has q xs ≡ true → p q ≡ true
one_passes p [] h q t = cc
one_passes p (x ∷ xs) h q t = let parts = and_parts (p x) (list_all p xs) h in ⊎_elim
    (λ (u : (q == x) ≡ true). ap p (eqb-true q x u) ∙ parts.0)
    (λ (u : (q == x) ≡ false). one_passes p xs parts.1 q (rw u at t))
    (cases_Bool (q == x))

-- places with the same bits have one outcome
one_outcome : (m n : ℕ) (ps : List ℕ) (a b : ℕ) → ((p : ℕ) → has p ps ≡ true → qubit_bit n p a ≡ qubit_bit n p b)
    → outcome_after m n ps a ≡ outcome_after m n ps b
one_outcome m n [] a b h = refl
one_outcome m n (p ∷ ps) a b h =
    ap (λ x. outcome_after (2 * m + x) n ps a) (h p (or_left (p == p) (has p ps) (eq-eqb p p refl)))
    ∙ one_outcome (2 * m + qubit_bit n p b) n ps a b (λ q t. h q (or_right (q == p) (has q ps) t))

module _ (G : Held) (qs : List ℕ) (distinct : IsDistinct qs) (inside : (q : ℕ) → has q qs ≡ true → has q G.qubits ≡ true)
    (shape : IsShaped G) (due : G.due ≡ qs) (fixed : IsFixed G) where
  -- how many qubits the group has
  abbrev n : ℕ
  n = length G.qubits

  -- the places of the measured ones
  abbrev ps : List ℕ
  ps = places_in G.qubits qs

  -- the first place whose numerator isn't 0
  abbrev k0 : ℕ
  k0 = first_place G.nums

  -- the outcome there
  abbrev m : ℕ
  m = outcome_in qs G

  -- the bits that the outcome gives
  abbrev given : ℕ → ℕ
  given q = bit_in G.qubits q (first_place G.nums)

  -- they are bits
  given_bits : (q : ℕ) → (given q ≡ 0) ⊎ (given q ≡ 1)
  given_bits q = bit_cases (length G.qubits) (index_of q G.qubits) (first_place G.nums)

  -- a place has the outcome where its bits are those
  abbrev agrees : ℕ → ℕ → Bool
  agrees k q = agrees_at (λ q. has q qs) given given_bits G.qubits k q

  -- where the outcome is the same, each measured bit is
  agrees_from : (k : ℕ) → outcome_at n ps k ≡ m → (q : ℕ) → agrees k q ≡ true
  agrees_from k e q = ⊎_elim
      (λ (t : has q qs ≡ true).
      rw t (eq-eqb (bit_in G.qubits q k) (given q) (bits_told n ps k k0 e (index_of q G.qubits) (place_there G.qubits qs q t))))
      (λ (t : has q qs ≡ false). rw t refl)
      (cases_Bool (has q qs))

  -- where a place fits, each measured bit is the given one
  bit_from : (k : ℕ) → fits (λ q. has q qs) given given_bits G.qubits k ≡ true → (q : ℕ) → has q qs ≡ true → bit_in G.qubits q k ≡ given q
  bit_from k h q t =
      let passes : (not (has q qs) || (bit_in G.qubits q k == given q)) ≡ true = one_passes (agrees k) G.qubits h q (inside q t) in
      eqb-true (bit_in G.qubits q k) (given q) (rw t at passes)

  -- and so by places
  bits_of_places : (k : ℕ) → ((q : ℕ) → has q qs ≡ true → bit_in G.qubits q k ≡ given q) → (rs : List ℕ) → ((q : ℕ) → has q rs ≡ true → has q qs ≡ true)
      → (p : ℕ) → has p (places_in G.qubits rs) ≡ true → qubit_bit n p k ≡ qubit_bit n p k0
  bits_of_places k h [] sub p t = cc
  bits_of_places k h (q ∷ rs) sub p t = ⊎_elim
      (λ (u : (p == index_of q G.qubits) ≡ true).
      let same = eqb-true p (index_of q G.qubits) u in
      ap (λ z. qubit_bit n z k) same ∙ (h q (sub q (or_left (q == q) (has q rs) (eq-eqb q q refl))) ∙ ap (λ z. qubit_bit n z k0) (sym same)))
      (λ (u : (p == index_of q G.qubits) ≡ false). bits_of_places k h rs (λ r v. sub r (or_right (r == q) (has r rs) v)) p (rw u at t))
      (cases_Bool (p == index_of q G.qubits))

  -- the outcome is the same exactly where the place fits
  outcome_test : (k : ℕ) → (outcome_at n ps k == m) ≡ fits (λ q. has q qs) given given_bits G.qubits k
  outcome_test k = bool_same (outcome_at n ps k == m) (fits (λ q. has q qs) given given_bits G.qubits k)
      (λ t. all_pass (agrees k) G.qubits (agrees_from k (eqb-true (outcome_at n ps k) m t)))
      (λ t. eq-eqb (outcome_at n ps k) m (one_outcome 0 n ps k k0 (bits_of_places k (bit_from k t) qs (λ q u. u))))

  -- a numerator stays where its place has the outcome
  kept_at : (k : ℕ) → k < 2 ^ n → amp_at G.nums k ≡ (if outcome_at n ps k == m then amp_at G.nums k else zero_amp)
  kept_at k small = ⊎_elim
      (λ (t : (outcome_at n ps k == m) ≡ true). rw t refl)
      (λ (t : (outcome_at n ps k == m) ≡ false). rw t (⊎_elim
      (λ (u : is_zero_amp (amp_at G.nums k) ≡ true). zero_numerator (amp_at G.nums k) u)
      (λ (u : is_zero_amp (amp_at G.nums k) ≡ false).
      let told = fixed k small (λ e. both_ways (is_zero_amp (amp_at G.nums k)) u (ap is_zero_amp e)) in
      let same : outcome_at n ps k ≡ m = subst (λ ds. outcome_at n (places_in G.qubits ds) k ≡ outcome_at n (places_in G.qubits ds) k0) due told in
      absurd (eqb-false (outcome_at n ps k) m t same))
      (cases_Bool (is_zero_amp (amp_at G.nums k)))))
      (cases_Bool (outcome_at n ps k == m))

  -- so the projection is the group
  pub is_projected : IsProjectedOn ps m (factor_of G)
  is_projected =
      let nums : map (λ k. if outcome_at n ps k == m then amp_at G.nums k else zero_amp) (range_with_len 0 (2 ^ n)) ≡ G.nums =
      ap (λ x. map (λ k. if outcome_at n ps k == m then amp_at G.nums k else zero_amp) (range_with_len 0 x)) (sym shape.whole)
      ∙ told_by_places (λ k. if outcome_at n ps k == m then amp_at G.nums k else zero_amp) G.nums 0
      (λ i small. let none : i ≡ 0 + i = omega arith in kept_at i (subst (λ x. i < x) shape.whole small)
      ∙ ap (λ k. if outcome_at n ps k == m then amp_at G.nums k else zero_amp) none) in
      λ i. record { qubits = G.qubits; nums = nums i; h = G.h }

  -- the numerators that agree are those of the rest
  pub agreeing_are : agreeing ps m (factor_of G) ≡ (rest_group qs G).nums
  agreeing_are =
      ap (map (amp_at G.nums))
      (same_tests (λ k. outcome_at n ps k == m) (fits (λ q. has q qs) given given_bits G.qubits) 0 (2 ^ n) (λ k t. outcome_test k)
      ∙ agreeing_places (λ q. has q qs) given given_bits G.qubits shape.distinct)
      ∙ map_made (amp_at G.nums) (agree.place_there (λ q. has q qs) given given_bits G.qubits (rest_of G.qubits qs))
      (range_with_len 0 (2 ^ length (rest_of G.qubits qs)))

  -- the rest, as a factor
  pub rest_is : factor.rest_of ps m (factor_of G) ≡ factor_of (rest_group qs G)
  rest_is =
      let qubits = sym (others_are G.qubits shape.distinct qs inside) in
      λ i. record { qubits = qubits i; nums = agreeing_are i; h = G.h }
