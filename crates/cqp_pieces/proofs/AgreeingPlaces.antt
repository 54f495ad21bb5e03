-- The places of a group with given bits of some qubits, rising: by the bits of the others.
use Rattle.std.proofs.Common.{◌≡◌, ◌⊎◌, inl, inr, ℕ, ◌+◌, ◌*◌, ◌^◌, ◌/◌, ◌%◌, ◌<◌, ◌==◌, ◌&&◌, ◌||◌, not, Bool, true, false, List, [], ◌∷◌, ◌++◌, map, filter}
use Rattle.std.proofs.Common.{length, if◌then◌else◌, refl, sym, ap, subst, arith, eq-eqb, ◌∙◌, ⊎_elim}
use Rattle.std.specs.List.{range_with_len, list_all}
use Rattle.std.proofs.lemmas.Bool.{cases_Bool, or_left, or_right, eqb-true, both_ways, false_from_ne_true}
use Rattle.std.proofs.lemmas.List.{length-map}
use Rattle.std.proofs.lemmas.Nat.{pow_pos}
use Rattle.cqp_book.specs.Keys.{has}
use Rattle.cqp_vector.specs.State.{weight_of}
use Rattle.cqp_vector.proofs.Pairs.{whole, weight_positive}
use Rattle.cqp_machine.specs.Factors.{index_of, bit_in, with_bits}
use Rattle.cqp_places.specs.Places.{IsDistinct}
use Rattle.cqp_places.proofs.PlaceLemmas.{index_within, first_weight, later_weight, first_index, later_bit, one_longer}
use Rattle.cqp_norms.proofs.NormHalf.{has-filter}
use Rattle.cqp_places.proofs.SplitBits.{bits_behind, same_map}
use Rattle.cqp_pieces.proofs.Ranges.{filter_halved, map_halved, same_tests, same_maps, map_made}

-- the first bit of a place in a list that is one longer
first_of : (q : ℕ) (xs : List ℕ) (b k : ℕ) → (b ≡ 0) ⊎ (b ≡ 1) → k < 2 ^ length xs → bit_in (q ∷ xs) q (b * 2 ^ length xs + k) ≡ b
first_of q xs b k c small =
    let here : (q == q) ≡ true = eq-eqb q q refl in
    rw here (first_index b k (2 ^ length xs) (weight_of (length (q ∷ xs)) 0) (first_weight q xs) (pow_pos (length xs)) small c)

-- the bits of the others are those of the second half of the place
later_of : (q : ℕ) (xs : List ℕ) (b k r : ℕ) → has q xs ≡ false → has r xs ≡ true → bit_in (q ∷ xs) r (b * 2 ^ length xs + k) ≡ bit_in xs r k
later_of q xs b k r apart there =
    let other : (r == q) ≡ false = false_from_ne_true (r == q) (λ z. both_ways (has q xs) apart (subst (λ y. has y xs ≡ true) (eqb-true r q z) there)) in
    rw other
    (ap (λ w. (b * 2 ^ length xs + k) / w % 2) (later_weight q (index_of r xs) xs)
    ∙ later_bit b (2 ^ length xs) (weight_of (length xs) (index_of r xs)) (2 ^ index_of r xs) k
    (whole (length xs) (index_of r xs) (index_within r xs there)) (weight_positive (length xs) (index_of r xs)))

-- given bits b of the qubits with t
module _ (t : ℕ → Bool) (b : ℕ → ℕ) (bits : (q : ℕ) → (b q ≡ 0) ⊎ (b q ≡ 1)) where
  -- the bit of a qubit at a place agrees
  abbrev pub agrees_at : List ℕ → ℕ → ℕ → Bool
  agrees_at xs k q = not (t q) || (bit_in xs q k == b q)

  -- the place has the given bits
  abbrev pub fits : List ℕ → ℕ → Bool
  fits xs k = list_all (agrees_at xs k) xs

  -- the other qubits, and the place that has their bits of place j of theirs
  abbrev pub stays : List ℕ → List ℕ
  stays xs = filter (λ q. not (t q)) xs

  -- the bit of a qubit that stays, in the rest's place
  abbrev pub bit_there : List ℕ → ℕ → ℕ → ℕ
  bit_there rest j q = if t q then b q else bit_in rest q j

  -- the group's place with the measured bits and those of the rest's place
  abbrev pub place_there : List ℕ → List ℕ → ℕ → ℕ
  place_there xs rest j = with_bits 0 (map (bit_there rest j) xs)

  -- all such places, rising
  abbrev half_fits : ℕ → ℕ → Bool
  half_fits x q = not (t q) || (x == b q)

  -- the places of qubits in the group
  abbrev places : List ℕ → List ℕ
  places [] = 0 ∷ []
  places (q ∷ xs) = (if half_fits 0 q then places xs else []) ++ map (λ k. 2 ^ length xs + k) (if half_fits 1 q then places xs else [])

  -- tests that agree on a list
  all_same : (p q : ℕ → Bool) (xs : List ℕ) → ((r : ℕ) → has r xs ≡ true → p r ≡ q r) → list_all p xs ≡ list_all q xs
  all_same p q [] h = refl
  all_same p q (x ∷ xs) h =
      let first = h x (or_left (x == x) (has x xs) (eq-eqb x x refl)) in
      let rest = all_same p q xs (λ r u. h r (or_right (r == x) (has r xs) u)) in
      λ i. first i && rest i

  -- in a half
  fits_half : (q : ℕ) (xs : List ℕ) (x k : ℕ) → (x ≡ 0) ⊎ (x ≡ 1) → has q xs ≡ false → k < 2 ^ length xs
      → fits (q ∷ xs) (x * 2 ^ length xs + k) ≡ (half_fits x q && fits xs k)
  fits_half q xs x k c apart small =
      let first = first_of q xs x k c small in
      let rest = all_same (agrees_at (q ∷ xs) (x * 2 ^ length xs + k)) (agrees_at xs k) xs
      (λ r u. ap (λ y. not (t r) || (y == b r)) (later_of q xs x k r apart u)) in
      λ i. (not (t q) || (first i == b q)) && rest i

  -- a test with a fixed half
  filter_both : (c : Bool) (p : ℕ → Bool) (xs : List ℕ) → filter (λ k. c && p k) xs ≡ (if c then filter p xs else [])
  filter_both true p xs = refl
  filter_both false p xs = none xs
    where
      none : (ys : List ℕ) → filter (λ k. false) ys ≡ []
      none [] = refl
      none (y ∷ ys) = none ys

  -- the places that fit are those
  pub filter_places : (xs : List ℕ) → IsDistinct xs → filter (fits xs) (range_with_len 0 (2 ^ length xs)) ≡ places xs
  filter_places [] d = refl
  filter_places (q ∷ xs) d =
      let size : 2 ^ length (q ∷ xs) ≡ 2 ^ length xs + 2 ^ length xs = one_longer q xs ∙ omega arith in
      let later = filter_places xs d.1 in
      let low : filter (fits (q ∷ xs)) (range_with_len 0 (2 ^ length xs)) ≡ (if half_fits 0 q then places xs else []) =
      same_tests (fits (q ∷ xs)) (λ k. half_fits 0 q && fits xs k) 0 (2 ^ length xs)
      (λ k u. let same : k ≡ 0 * 2 ^ length xs + k = omega arith in ap (fits (q ∷ xs)) same ∙ fits_half q xs 0 k (inl refl) d.0 (omega arith))
      ∙ (filter_both (half_fits 0 q) (fits xs) (range_with_len 0 (2 ^ length xs)) ∙ ap (λ ys. if half_fits 0 q then ys else []) later) in
      let high : filter (λ k. fits (q ∷ xs) (2 ^ length xs + k)) (range_with_len 0 (2 ^ length xs)) ≡ (if half_fits 1 q then places xs else []) =
      same_tests (λ k. fits (q ∷ xs) (2 ^ length xs + k)) (λ k. half_fits 1 q && fits xs k) 0 (2 ^ length xs)
      (λ k u. let same : 2 ^ length xs + k ≡ 1 * 2 ^ length xs + k = omega arith in ap (fits (q ∷ xs)) same ∙ fits_half q xs 1 k (inr refl) d.0 (omega arith))
      ∙ (filter_both (half_fits 1 q) (fits xs) (range_with_len 0 (2 ^ length xs)) ∙ ap (λ ys. if half_fits 1 q then ys else []) later) in
      filter_halved (fits (q ∷ xs)) (2 ^ length xs) (2 ^ length (q ∷ xs)) size
      ∙ (λ i. low i ++ map (λ k. 2 ^ length xs + k) (high i))

  -- the first bit in front
  in_front : (q : ℕ) (xs rest : List ℕ) (j x : ℕ) → bit_there rest j q ≡ x → place_there (q ∷ xs) rest j ≡ x * 2 ^ length xs + place_there xs rest j
  in_front q xs rest j x e =
      let size : length (map (bit_there rest j) xs) ≡ length xs = length-map xs (bit_there rest j) in
      let start : 2 * 0 + bit_there rest j q ≡ x = omega (arith, e) in
      bits_behind (2 * 0 + bit_there rest j q) (map (bit_there rest j) xs)
      ∙ (λ i. start i * 2 ^ size i + place_there xs rest j)

  -- a function that changes nothing
  numbers : (f : ℕ → ℕ) (xs : List ℕ) → ((k : ℕ) → f k ≡ k) → map f xs ≡ xs
  numbers f [] h = refl
  numbers f (x ∷ xs) h = let first = h x in let rest = numbers f xs h in λ i. first i ∷ rest i

  -- a list with nothing behind it
  append_none : (xs : List ℕ) → xs ++ [] ≡ xs
  append_none [] = refl
  append_none (x ∷ xs) = ap (λ ys. x ∷ ys) (append_none xs)

  -- a given first bit
  given_half : (x p c : ℕ) (ys : List ℕ) → (x ≡ 0) ⊎ (x ≡ 1) → c ≡ x
      → map (λ k. x * p + k) ys ≡ (if 0 == c then ys else []) ++ map (λ k. p + k) (if 1 == c then ys else [])
  given_half x p c ys (inl e) f = let z : c ≡ 0 = f ∙ e in rw (z, e) (numbers (λ k. 0 * p + k) ys (λ k. omega arith) ∙ sym (append_none ys))
  given_half x p c ys (inr e) f = let z : c ≡ 1 = f ∙ e in let same : (k : ℕ) → 1 * p + k ≡ p + k = λ k. omega arith in rw (z, e) (λ i. map (λ k. same k i) ys)

  -- the places by the bits of the others are those too
  pub place_places : (xs : List ℕ) → IsDistinct xs → map (place_there xs (stays xs)) (range_with_len 0 (2 ^ length (stays xs))) ≡ places xs
  place_places [] d = refl
  place_places (q ∷ xs) d = let later = place_places xs d.1 in ⊎_elim
      (λ (u : t q ≡ true).
      let here : (j : ℕ) → place_there (q ∷ xs) (stays xs) j ≡ b q * 2 ^ length xs + place_there xs (stays xs) j =
      λ j. in_front q xs (stays xs) j (b q) (rw u refl) in
      rw u (
      same_maps (place_there (q ∷ xs) (stays xs)) (λ j. b q * 2 ^ length xs + place_there xs (stays xs) j) 0 (2 ^ length (stays xs)) (λ j z. here j)
      ∙ (sym (map_made (λ k. b q * 2 ^ length xs + k) (place_there xs (stays xs)) (range_with_len 0 (2 ^ length (stays xs))))
      ∙ (ap (map (λ k. b q * 2 ^ length xs + k)) later ∙ given_half (b q) (2 ^ length xs) (b q) (places xs) (bits q) refl))))
      (λ (u : t q ≡ false).
      let rest = stays xs in
      let size : 2 ^ length (q ∷ rest) ≡ 2 ^ length rest + 2 ^ length rest = one_longer q rest ∙ omega arith in
      let apart : has q rest ≡ false = false_from_ne_true (has q (stays xs)) (λ z. both_ways (has q xs) d.0 (kept q xs z)) in
      let here : (x j : ℕ) → (x ≡ 0) ⊎ (x ≡ 1) → j < 2 ^ length (stays xs)
      → place_there (q ∷ xs) (q ∷ stays xs) (x * 2 ^ length (stays xs) + j) ≡ x * 2 ^ length xs + place_there xs (stays xs) j =
      λ x j c z.
      in_front q xs (q ∷ stays xs) (x * 2 ^ length (stays xs) + j) x (rw u (first_of q (stays xs) x j c z))
      ∙ ap (λ ys. x * 2 ^ length xs + with_bits 0 ys)
      (same_map (bit_there (q ∷ stays xs) (x * 2 ^ length (stays xs) + j)) (bit_there (stays xs) j) xs
      (λ r v. same_bit (t r) r x j refl apart (λ w. stay_there r xs v w))) in
      let low = same_maps (place_there (q ∷ xs) (q ∷ stays xs)) (place_there xs (stays xs)) 0 (2 ^ length (stays xs))
      (λ j z. let same : j ≡ 0 * 2 ^ length (stays xs) + j = omega arith in
      let none : 0 * 2 ^ length xs + place_there xs (stays xs) j ≡ place_there xs (stays xs) j = omega arith in
      ap (place_there (q ∷ xs) (q ∷ stays xs)) same ∙ (here 0 j (inl refl) (omega arith) ∙ none)) in
      let high = same_maps (λ j. place_there (q ∷ xs) (q ∷ stays xs) (2 ^ length (stays xs) + j)) (λ j. 2 ^ length xs + place_there xs (stays xs) j) 0
      (2 ^ length (stays xs))
      (λ j z. let same : 2 ^ length (stays xs) + j ≡ 1 * 2 ^ length (stays xs) + j = omega arith in
      let one : 1 * 2 ^ length xs + place_there xs (stays xs) j ≡ 2 ^ length xs + place_there xs (stays xs) j = omega arith in
      ap (place_there (q ∷ xs) (q ∷ stays xs)) same ∙ (here 1 j (inr refl) (omega arith) ∙ one)) in
      rw u (
      map_halved (place_there (q ∷ xs) (q ∷ stays xs)) (2 ^ length (stays xs)) (2 ^ length (q ∷ stays xs)) size
      ∙ ((λ i. low i ++ high i)
      ∙ (ap (λ ys. map (place_there xs (stays xs)) (range_with_len 0 (2 ^ length (stays xs))) ++ ys)
      (sym (map_made (λ k. 2 ^ length xs + k) (place_there xs (stays xs)) (range_with_len 0 (2 ^ length (stays xs)))))
      ∙ (λ i. later i ++ map (λ k. 2 ^ length xs + k) (later i))))))
      (cases_Bool (t q))
    where
      kept : (r : ℕ) (ys : List ℕ) → has r (stays ys) ≡ true → has r ys ≡ true
      kept r ys z = ⊎_elim
          (λ (v : has r ys ≡ true). v)
          (λ (v : has r ys ≡ false). absurd (both_ways (has r (stays ys)) (has-filter (λ q. not (t q)) r ys ∙ rw v refl) z))
          (cases_Bool (has r ys))

      stay_there : (r : ℕ) (ys : List ℕ) → has r ys ≡ true → t r ≡ false → has r (stays ys) ≡ true
      stay_there r ys v w = has-filter (λ q. not (t q)) r ys ∙ rw (v, w) refl

      same_bit : (c : Bool) (r x j : ℕ) → t r ≡ c → has q (stays xs) ≡ false → (t r ≡ false → has r (stays xs) ≡ true)
          → bit_there (q ∷ stays xs) (x * 2 ^ length (stays xs) + j) r ≡ bit_there (stays xs) j r
      same_bit true r x j e apart h = rw e refl
      same_bit false r x j e apart h = rw e (later_of q (stays xs) x j r apart (h e))

  -- the places with the given bits are those
  pub agreeing_places : (xs : List ℕ) → IsDistinct xs
      → filter (fits xs) (range_with_len 0 (2 ^ length xs)) ≡ map (place_there xs (stays xs)) (range_with_len 0 (2 ^ length (stays xs)))
  agreeing_places xs d = filter_places xs d ∙ sym (place_places xs d)
