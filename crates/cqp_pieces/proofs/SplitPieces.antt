-- A split is that of the group as a factor: the same pieces, with the outcome that the due qubits have.
use Rattle.std.proofs.Common.{◌≡◌, ◌≢◌, ◌⊎◌, inl, inr, ℕ, ◌+◌, ◌^◌, ◌≤◌, ◌<◌, ◌==◌, not, nat_lt, Bool, true, false, List, [], ◌∷◌, ◌++◌, map, length}
use Rattle.std.proofs.Common.{if◌then◌else◌, refl, sym, ap, subst, arith, eq-eqb, ne_eqb, ◌∙◌, ⊎_elim}
use Rattle.std.specs.Prelude.{slice_index}
use Rattle.std.specs.List.{range_with_len, list_all}
use Rattle.std.proofs.lemmas.Bool.{cases_Bool, eqb-true, both_ways, ltb-true, ltb-false}
use Rattle.std.proofs.lemmas.List.{length-map}
use Rattle.std.proofs.lemmas.List.FromFn.{get_or-map-range_with_len}
use Rattle.std.proofs.lemmas.Nat.{pow_pos}
use Rattle.cqp_ring.specs.declared.amp.Amp.{Amp}
use Rattle.cqp_ring.specs.Amp.{zero_amp, one_amp}
use Rattle.cqp_ring.specs.Root.{norm_sum, zero_root}
use Rattle.cqp_book.specs.Keys.{has}
use Rattle.cqp_vector.specs.State.{amp_at, qubit_bit}
use Rattle.cqp_vector.specs.Measurement.{is_zero_amp}
use Rattle.cqp_vector.specs.Group.{Group}
use Rattle.cqp_vector.specs.Pieces.{single, measured, singles, agreeing, other_places, pieces_of}
use Rattle.cqp_vector.specs.Pieces as factor
use Rattle.cqp_vector.proofs.Bits.{bit_cases}
use Rattle.cqp_vector.proofs.OtherPlaces.{others_count}
use Rattle.cqp_machine.specs.Factors.{Held, factor_of, index_of, places_in, first_place, bit_in, with_bits, rest_of, rest_group, alone_with, has_scalar}
use Rattle.cqp_machine.specs.Factors.{piece_of, outcome_in, split_pieces}
use Rattle.cqp_pieces.specs.Splitting.{SplitsRightly}
use Rattle.cqp_places.specs.Places.{IsDistinct}
use Rattle.cqp_places.proofs.PlaceLemmas.{bit_at_index}
use Rattle.cqp_places.proofs.PlacesKept.{own_places}
use Rattle.cqp_norms.proofs.NormHalf.{has-filter}
use Rattle.cqp_products.specs.Reads.{IsShaped}
use Rattle.cqp_products.specs.Reads.{IsFixed}
use Rattle.cqp_products.proofs.FixedLemmas.{first_within}
use Rattle.cqp_norms.proofs.OutcomeHalf.{all_none}
use Rattle.cqp_products.proofs.Remainders.{first_failing, fails_there}
use Rattle.cqp_places.proofs.SplitBits.{own_bits, same_map}
use Rattle.cqp_pieces.proofs.AgreeingPlaces.{bit_there}
use Rattle.cqp_pieces.proofs.AgreeingPlaces as agree
use Rattle.cqp_pieces.proofs.Indices.{all_inside, at_index, by_places_of, place_of, place_there, index_of_place, others_are}
use Rattle.cqp_pieces.proofs.SplitTests.{is_projected, agreeing_are, rest_is}

-- a qubit by itself, in both words
alone_is : (x : Amp) (h q b : ℕ) → (b ≡ 0) ⊎ (b ≡ 1) → factor_of (alone_with x h q b) ≡ single q b x h
alone_is x h q b (inl e) = rw e refl
alone_is x h q b (inr e) = rw e refl

module _ (G : Held) (qs : List ℕ) (distinct : IsDistinct qs) (inside : (q : ℕ) → has q qs ≡ true → has q G.qubits ≡ true)
    (shape : IsShaped G) (due : G.due ≡ qs) (fixed : IsFixed G) (some : norm_sum G.nums ≢ zero_root) where
  -- how many qubits the group has
  abbrev n : ℕ
  n = length G.qubits

  -- the places of the measured ones
  abbrev ps : List ℕ
  ps = places_in G.qubits qs

  -- the first place whose numerator isn't 0
  abbrev k0 : ℕ
  k0 = first_place G.nums

  -- the outcome there
  abbrev m : ℕ
  m = outcome_in qs G

  -- the bits that the outcome gives
  abbrev given : ℕ → ℕ
  given q = bit_in G.qubits q (first_place G.nums)

  -- they are bits
  given_bits : (q : ℕ) → (given q ≡ 0) ⊎ (given q ≡ 1)
  given_bits q = bit_cases (length G.qubits) (index_of q G.qubits) (first_place G.nums)

  -- a measured qubit by itself, with the bit it has
  abbrev alone : Amp → ℕ → ℕ → Group
  alone x h q = single q (given q) x h

  -- a measured qubit, as a factor
  measured_is : (x : Amp) (h q : ℕ) → has q qs ≡ true → measured ps m G.qubits (index_of q qs) x h ≡ alone x h q
  measured_is x h q t =
      let place = place_of G.qubits qs q t in
      let qubit : slice_index G.qubits (slice_index ps (index_of q qs)) ≡ q = ap (slice_index G.qubits) place ∙ at_index G.qubits q (inside q t) in
      let bit : qubit_bit (length ps) (index_of q qs) m ≡ given q =
      ap (λ i. qubit_bit (length ps) i m) (sym (index_of_place G.qubits qs inside q t))
      ∙ bit_at_index n (index_of q G.qubits) ps k0 (place_there G.qubits qs q t) in
      λ i. single (qubit i) (bit i) x h

  -- a piece with a scalar or with 1, by its bit
  abbrev one_piece : Bool → Amp → ℕ → ℕ → Group
  one_piece c x h q = if c then alone x h q else alone one_amp 0 q

  -- all measured qubits
  singles_are : (x : Amp) (h : ℕ) → singles ps m G.qubits x h ≡ map (λ q. one_piece (index_of q qs == 0) x h q) qs
  singles_are x h =
      let size : length ps ≡ length qs = length-map qs (λ q. index_of q G.qubits) in
      ap (λ k. map (λ i. if i == 0 then measured ps m G.qubits i x h else measured ps m G.qubits i one_amp 0) (range_with_len 0 k)) size
      ∙ by_places_of (λ i. if i == 0 then measured ps m G.qubits i x h else measured ps m G.qubits i one_amp 0)
      (λ q. one_piece (index_of q qs == 0) x h q) qs 0 distinct
      (λ q t.
      let none : 0 + index_of q qs ≡ index_of q qs = omega arith in
      let first = measured_is x h q t in
      let other = measured_is one_amp 0 q t in
      ap (λ i. if i == 0 then measured ps m G.qubits i x h else measured ps m G.qubits i one_amp 0) none
      ∙ (λ i. if index_of q qs == 0 then first i else other i))

  -- a piece, as a factor
  piece_is : (q : ℕ) → factor_of (piece_of qs G q) ≡ one_piece (has_scalar qs G q) (amp_at G.nums k0) G.h q
  piece_is q = ⊎_elim
      (λ (t : has_scalar qs G q ≡ true). rw t (alone_is (amp_at G.nums k0) G.h q (given q) (given_bits q)))
      (λ (t : has_scalar qs G q ≡ false). rw t (alone_is one_amp 0 q (given q) (given_bits q)))
      (cases_Bool (has_scalar qs G q))

  -- functions that agree
  map_same : (f g : ℕ → Group) (rs : List ℕ) → ((q : ℕ) → f q ≡ g q) → map f rs ≡ map g rs
  map_same f g [] h = refl
  map_same f g (q ∷ rs) h = let first = h q in let rest = map_same f g rs h in λ i. first i ∷ rest i

  -- where qubits stay no piece has the scalar
  plain_pieces : (length (rest_of G.qubits qs) == 0) ≡ false → singles ps m G.qubits one_amp 0 ≡ map (λ q. factor_of (piece_of qs G q)) qs
  plain_pieces e =
      singles_are one_amp 0
      ∙ map_same (λ q. one_piece (index_of q qs == 0) one_amp 0 q) (λ q. factor_of (piece_of qs G q)) qs
      (λ q. either (index_of q qs == 0) (alone one_amp 0 q) ∙ sym (piece_is q ∙ rw e refl))
    where
      either : (c : Bool) (x : Group) → (if c then x else x) ≡ x
      either true x = refl
      either false x = refl

  -- where none stays, the first has it
  first_place_small : first_place G.nums < 2 ^ n
  first_place_small = ⊎_elim
      (λ (t : list_all is_zero_amp G.nums ≡ true). absurd (some (all_none G.nums t)))
      (λ (t : list_all is_zero_amp G.nums ≡ false).
      let there = fails_there is_zero_amp G.nums t in
      subst (λ k. first_place G.nums < k) shape.whole
      (first_within G.nums (first_failing is_zero_amp G.nums)
      (λ e. both_ways (is_zero_amp (amp_at G.nums (first_failing is_zero_amp G.nums))) there.1 (ap is_zero_amp e))))
      (cases_Bool (list_all is_zero_amp G.nums))

  -- the one numerator that has the outcome
  scalar_is : (length (rest_of G.qubits qs) == 0) ≡ true → amp_at (agreeing ps m (factor_of G)) 0 ≡ amp_at G.nums k0
  scalar_is e =
      let none = eqb-true (length (rest_of G.qubits qs)) 0 e in
      let all : (q : ℕ) → has q G.qubits ≡ true → has q qs ≡ true = λ q t. ⊎_elim
      (λ (u : has q qs ≡ true). u)
      (λ (u : has q qs ≡ false).
      let there : has q (rest_of G.qubits qs) ≡ true = has-filter (λ r. not (has r qs)) q G.qubits ∙ rw (t, u) refl in
      absurd (nothing_there q (rest_of G.qubits qs) none there))
      (cases_Bool (has q qs)) in
      let place : agree.place_there (λ q. has q qs) given given_bits G.qubits (rest_of G.qubits qs) 0 ≡ k0 =
      ap (with_bits 0) (same_map (bit_there (λ q. has q qs) given given_bits (rest_of G.qubits qs) 0) given G.qubits (λ q t. rw (all q t) refl))
      ∙ own_bits G.qubits shape.distinct k0 first_place_small in
      ap (λ xs. amp_at xs 0) (agreeing_are G qs distinct inside shape due fixed)
      ∙ (get_or-map-range_with_len (λ j. amp_at G.nums (agree.place_there (λ q. has q qs) given given_bits G.qubits (rest_of G.qubits qs) j)) 0
      (2 ^ length (rest_of G.qubits qs)) 0 0 zero_amp (pow_pos (length (rest_of G.qubits qs))) refl
      ∙ ap (amp_at G.nums) place)
    where
      nothing_there : (q : ℕ) (xs : List ℕ) → length xs ≡ 0 → has q xs ≡ true → ⊥
      nothing_there q [] e t = cc
      nothing_there q (x ∷ xs) e t = omega arith

  -- the pieces where no qubit stays
  scalar_pieces : (length (rest_of G.qubits qs) == 0) ≡ true
      → singles ps m G.qubits (amp_at (agreeing ps m (factor_of G)) 0) G.h ≡ map (λ q. factor_of (piece_of qs G q)) qs
  scalar_pieces e =
      ap (λ x. singles ps m G.qubits x G.h) (scalar_is e)
      ∙ (singles_are (amp_at G.nums k0) G.h
      ∙ map_same (λ q. one_piece (index_of q qs == 0) (amp_at G.nums k0) G.h q) (λ q. factor_of (piece_of qs G q)) qs
      (λ q. sym (piece_is q ∙ rw e refl)))

  -- the pieces that come of a factor
  abbrev of_factor : Bool → List Group
  of_factor c =
      if c then singles ps m G.qubits (amp_at (agreeing ps m (factor_of G)) 0) G.h
      else singles ps m G.qubits one_amp 0 ++ factor.rest_of ps m (factor_of G) ∷ []

  -- a list with nothing behind it
  append_none : (xs : List Group) → xs ++ [] ≡ xs
  append_none [] = refl
  append_none (x ∷ xs) = ap (λ ys. x ∷ ys) (append_none xs)

  -- the rest and the measured qubits are all
  counted : length (rest_of G.qubits qs) + length ps ≡ n
  counted =
      let places = own_places G.qubits qs distinct (all_inside G.qubits qs inside) in
      let count = others_count n ps places.below places.distinct in
      let same : length (rest_of G.qubits qs) ≡ length (other_places n ps) =
      ap length (others_are G.qubits shape.distinct qs inside) ∙ length-map (other_places n ps) (slice_index G.qubits) in
      omega arith

  -- the pieces are the factor's
  pieces_are : pieces_of ps m (factor_of G) ≡ split_pieces qs G
  pieces_are = let count = counted in ⊎_elim
      (λ (t : nat_lt 0 (length (rest_of G.qubits qs)) ≡ true).
      let some_stay : 0 < length (rest_of G.qubits qs) = ltb-true 0 (length (rest_of G.qubits qs)) t in
      let apart : (length ps == n) ≡ false = ne_eqb (length ps) n (λ z. omega arith) in
      let staying : (length (rest_of G.qubits qs) == 0) ≡ false = ne_eqb (length (rest_of G.qubits qs)) 0 (λ z. omega arith) in
      let first = plain_pieces staying in
      let rest = rest_is G qs distinct inside shape due fixed in
      let all : singles ps m G.qubits one_amp 0 ++ factor.rest_of ps m (factor_of G) ∷ []
      ≡ map (λ q. factor_of (piece_of qs G q)) qs ++ factor_of (rest_group qs G) ∷ [] =
      λ i. first i ++ rest i ∷ [] in
      ap of_factor apart ∙ (all ∙ sym (ap (λ (c : Bool). map (λ q. factor_of (piece_of qs G q)) qs ++ (if c then factor_of (rest_group qs G) ∷ [] else [])) t)))
      (λ (t : nat_lt 0 (length (rest_of G.qubits qs)) ≡ false).
      let none : length (rest_of G.qubits qs) ≤ 0 = ltb-false 0 (length (rest_of G.qubits qs)) t in
      let whole : (length ps == n) ≡ true = eq-eqb (length ps) n (omega arith) in
      let leaving : (length (rest_of G.qubits qs) == 0) ≡ true = eq-eqb (length (rest_of G.qubits qs)) 0 (omega arith) in
      ap of_factor whole
      ∙ (scalar_pieces leaving ∙ (sym (append_none (map (λ q. factor_of (piece_of qs G q)) qs))
      ∙ sym (ap (λ (c : Bool). map (λ q. factor_of (piece_of qs G q)) qs ++ (if c then factor_of (rest_group qs G) ∷ [] else [])) t))))
      (cases_Bool (nat_lt 0 (length (rest_of G.qubits qs))))

  -- all that a factor's split asks and gives
  pub splits_rightly : 0 < length qs → SplitsRightly qs G
  splits_rightly more = record {
    places = own_places G.qubits qs distinct (all_inside G.qubits qs inside);
    some = let size = length-map qs (λ q. index_of q G.qubits) in omega arith;
    projected = is_projected G qs distinct inside shape due fixed;
    pieces = pieces_are;
  }
