-- The pieces of a split multiply to the group, at each assignment of bits to the qubits.
use Rattle.std.proofs.Common.{◌≡◌, ◌≢◌, ℕ, zero, suc, ◌+◌, ◌/◌, ◌^◌, ◌<◌, List, length, map}
use Rattle.std.proofs.Common.{refl, sym, ap, ◌∙◌, arith, subst, true, false, ⊎_elim}
use Rattle.std.specs.Prelude.{◌==◌, ◌&&◌, ◌||◌, not, Bool, if◌then◌else◌, slice_index}
use Rattle.std.specs.List.{range_with_len, list_all}
use Rattle.std.proofs.lemmas.Bool.{cases_Bool, cases_eq, eq-eqb, eqb-true, ne_eqb}
use Rattle.std.proofs.Math.Nat.{div-eq_of_lt}
use Rattle.cqp_ring.specs.declared.amp.Amp.{Amp}
use Rattle.cqp_ring.specs.Amp.{amp_product, one_amp, zero_amp}
use Rattle.cqp_syntax.specs.Lists.{are_below, stands_in}
use Rattle.cqp_vector.specs.State.{amp_at, qubit_bit}
use Rattle.cqp_vector.specs.Measurement.{outcome_at}
use Rattle.cqp_vector.specs.Group.{Group, IsGroup}
use Rattle.cqp_vector.specs.Pieces.{IsProjectedOn, agreeing, measured, other_places, pieces_of, rest_of, singles}
use Rattle.cqp_vector.specs.Places.{ArePlaces}
use Rattle.cqp_vector.specs.Products.{AreBits, amp_with, place_with, product_with}
use Rattle.cqp_vector.proofs.AgreeingPlaces.{agrees_with, before_place, fits, fits_bits, nth_passing, passing}
use Rattle.cqp_vector.proofs.OtherPlaces.{others_count}
use Rattle.cqp_vector.proofs.PieceLemmas.{outcome_below, pieces_apart, pieces_whole}
use Rattle.cqp_vector.proofs.PlaceBits.{bit_is, bit_of_place, by_places, outcome_is, own_bits, place_small, same_bits, same_places}
use Rattle.cqp_vector.proofs.ProductTools.{all_range, bits_small, bool_same, each_range, made_at, no_place, one_times, place_map}
use Rattle.cqp_vector.proofs.ProductTools.{product_if, product_last, same_filters, single_at, stands_below, times_one, zero_times}

-- ---- a group that is projected, at bits b of its qubits
module _ (g : Group) (ps : List ℕ) (m : ℕ) (b : ℕ → ℕ) (bits : AreBits b) where
  -- the bits by the places of the qubits
  abbrev bit_there : ℕ → ℕ
  bit_there j = b (slice_index g.qubits j)

  -- the place with these bits
  abbrev place : ℕ
  place = place_with b g.qubits

  -- these are bits
  there_small : AreBits bit_there
  there_small j = bits (slice_index g.qubits j)

  -- the place's outcome is the place of the bits of the measured qubits
  outcome_there : are_below (length g.qubits) ps ≡ true → outcome_at (length g.qubits) ps place ≡ place_with bit_there ps
  outcome_there below =
      outcome_is 0 (length g.qubits) ps place
      ∙ same_places (λ p. qubit_bit (length g.qubits) p place) bit_there 0 ps
      (λ q s. bit_of_place b bits g.qubits q (stands_below (length g.qubits) ps q below s))

  -- a place has these bits of the measured qubits
  abbrev there : ℕ → Bool
  there = fits (stands_in ps) bit_there there_small (range_with_len 0 (length g.qubits))

  -- the places with the outcome are those with the bits of the measured qubits
  tests_agree : are_below (length g.qubits) ps ≡ true → m ≡ place_with bit_there ps → (j : ℕ) → j < 2 ^ length g.qubits
      → (outcome_at (length g.qubits) ps j == m) ≡ there j
  tests_agree below e j h =
      let none : 0 ≡ j / 2 ^ length g.qubits = sym (div-eq_of_lt h) in
      let own = own_bits (length g.qubits) j (length g.qubits) 0 0 (omega arith) none in
      bool_same (outcome_at (length g.qubits) ps j == m)
      (list_all (λ p. agrees_with (stands_in ps) bit_there there_small p (qubit_bit (length g.qubits) p j)) (range_with_len 0 (length g.qubits)))
      (λ t. all_range _ (length g.qubits) 0 (λ q less. agree t q (stands_in ps q) refl))
      (λ t. eq-eqb _ _ (outcome_is 0 (length g.qubits) ps j
      ∙ (same_places (λ p. qubit_bit (length g.qubits) p j) bit_there 0 ps (λ q s. told t q s) ∙ sym e)))
      ∙ (sym (fits_bits (stands_in ps) bit_there there_small (λ p. qubit_bit (length g.qubits) p j) (bits_small (length g.qubits) j)
      (range_with_len 0 (length g.qubits)))
      ∙ ap there own)
    where
      agree : (outcome_at (length g.qubits) ps j == m) ≡ true → (q : ℕ) (s : Bool) → stands_in ps q ≡ s
          → (not s || (qubit_bit (length g.qubits) q j == bit_there q)) ≡ true
      agree t q false f = refl
      agree t q true f =
          eq-eqb _ _ (same_bits (λ p. qubit_bit (length g.qubits) p j) bit_there (bits_small (length g.qubits) j) there_small ps
          (sym (outcome_is 0 (length g.qubits) ps j) ∙ (eqb-true (outcome_at (length g.qubits) ps j) m t ∙ e)) q f)

      told : list_all (λ p. agrees_with (stands_in ps) bit_there there_small p (qubit_bit (length g.qubits) p j)) (range_with_len 0 (length g.qubits)) ≡ true
          → (q : ℕ) → stands_in ps q ≡ true → qubit_bit (length g.qubits) q j ≡ bit_there q
      told t q s =
          let here = each_range _ (length g.qubits) 0 q t (omega arith) (let less = stands_below (length g.qubits) ps q below s in omega arith) in
          eqb-true _ _ (subst (λ y. (not y || (qubit_bit (length g.qubits) q j == bit_there q)) ≡ true) s here)

  -- the numerator of the rest is that of the group
  rest_at : are_below (length g.qubits) ps ≡ true → m ≡ place_with bit_there ps
      → amp_at (agreeing ps m g) (place_with b (rest_of ps m g).qubits) ≡ amp_at g.nums place
  rest_at below e =
      let all = by_places b bit_there g.qubits 0 0 (λ i h. let here : 0 + i ≡ i = omega arith in ap bit_there here) in
      let start : 0 + place_with b g.qubits ≡ place_with b g.qubits = omega arith in
      let small = place_small b bits g.qubits in
      let same = same_filters (λ k. outcome_at (length g.qubits) ps k == m) there
      (2 ^ length g.qubits) 0 (λ k h. tests_agree below e k (omega arith)) in
      let here : there (0 + place) ≡ true =
      ap there start
      ∙ (sym (tests_agree below e place small) ∙ eq-eqb _ _ (outcome_there below ∙ sym e)) in
      let index : place_with b (rest_of ps m g).qubits ≡ passing there 0 place =
      place_map b (slice_index g.qubits) 0 (other_places (length g.qubits) ps)
      ∙ (sym (before_place (stands_in ps) bit_there there_small (range_with_len 0 (length g.qubits)))
      ∙ ap (passing there 0) all) in
      ap (amp_at (agreeing ps m g)) index
      ∙ (ap (λ xs. amp_at (map (amp_at g.nums) xs) (passing there 0 place)) same
      ∙ (nth_passing there (amp_at g.nums) (2 ^ length g.qubits) place 0 small here
      ∙ ap (amp_at g.nums) start))

  -- a place with another outcome has 0
  none_at : are_below (length g.qubits) ps ≡ true → IsProjectedOn ps m g → m ≢ place_with bit_there ps → amp_at g.nums place ≡ zero_amp
  none_at below e other =
      let start : 0 + place_with b g.qubits ≡ place_with b g.qubits = omega arith in
      let at : outcome_at (length g.qubits) ps (0 + place) ≢ m = λ f. other (sym f ∙ (ap (outcome_at (length g.qubits) ps) start ∙ outcome_there below)) in
      ap (λ (t : Group). amp_at t.nums place) (sym e)
      ∙ (made_at (λ k. if outcome_at (length g.qubits) ps k == m then amp_at g.nums k else zero_amp) (2 ^ length g.qubits) 0 place (place_small b bits g.qubits)
      ∙ ap (λ s. if s then amp_at g.nums (0 + place) else zero_amp) (ne_eqb _ _ at))

  -- the bit of a measured qubit is that of the outcome
  abbrev tells : ℕ → Bool
  tells j = qubit_bit (length ps) j m == bit_there (slice_index ps j)

  -- the numerator of a measured qubit
  measured_at : (j : ℕ) (x : Amp) (h : ℕ) → amp_with b (measured ps m g.qubits j x h) ≡ (if tells j then x else zero_amp)
  measured_at j x h =
      single_at (qubit_bit (length ps) j m) (bit_there (slice_index ps j)) x (bit_is _ (bits_small (length ps) m j)) (bit_is _ (there_small (slice_index ps j)))

  -- a measured qubit: the first has the numerator x, the others 1
  abbrev piece : Amp → ℕ → ℕ → Group
  piece x h j = if j == 0 then measured ps m g.qubits j x h else measured ps m g.qubits j one_amp 0

  -- the product of the later ones
  later_ones : (x : Amp) (h n a : ℕ) → 0 < a
      → product_with b (map (piece x h) (range_with_len a n)) ≡ (if list_all tells (range_with_len a n) then one_amp else zero_amp)
  later_ones x h zero a some = refl
  later_ones x h (suc n) a some =
      let other : (a == 0) ≡ false = ne_eqb a 0 (λ e. absurd (omega arith)) in
      let first : amp_with b (piece x h a) ≡ (if tells a then one_amp else zero_amp) =
      ap (λ s. amp_with b (if s then measured ps m g.qubits a x h else measured ps m g.qubits a one_amp 0)) other ∙ measured_at a one_amp 0 in
      let rest = later_ones x h n (a + 1) (omega arith) in
      (λ i. amp_product (first i) (rest i))
      ∙ (product_if (tells a) (list_all tells (range_with_len (a + 1) n)) one_amp one_amp
      ∙ ap (λ t. if tells a && list_all tells (range_with_len (a + 1) n) then t else zero_amp) (one_times one_amp))

  -- the product of all
  all_ones : (x : Amp) (h n : ℕ) → 0 < n → product_with b (map (piece x h) (range_with_len 0 n)) ≡ (if list_all tells (range_with_len 0 n) then x else zero_amp)
  all_ones x h zero some = absurd (omega arith)
  all_ones x h (suc n) some =
      let first = measured_at 0 x h in
      let rest = later_ones x h n 1 (omega arith) in
      (λ i. amp_product (first i) (rest i))
      ∙ (product_if (tells 0) (list_all tells (range_with_len 1 n)) x one_amp
      ∙ ap (λ t. if tells 0 && list_all tells (range_with_len 1 n) then t else zero_amp) (times_one x))

  -- where all bits are those of the outcome, it is the outcome
  all_tell : m < 2 ^ length ps → list_all tells (range_with_len 0 (length ps)) ≡ true → m ≡ place_with bit_there ps
  all_tell less t =
      let none : 0 ≡ m / 2 ^ length ps = sym (div-eq_of_lt less) in
      sym (own_bits (length ps) m (length ps) 0 0 (omega arith) none)
      ∙ by_places bit_there (λ j. qubit_bit (length ps) j m) ps 0 0
      (λ i h. let here : 0 + i ≡ i = omega arith in
      ap (λ j. qubit_bit (length ps) j m) here ∙ eqb-true _ _ (each_range tells (length ps) 0 i t (omega arith) (omega arith)))

  -- and the other way round
  they_tell : m ≡ place_with bit_there ps → list_all tells (range_with_len 0 (length ps)) ≡ true
  they_tell e = all_range tells (length ps) 0 (λ q h. eq-eqb _ _ (ap (qubit_bit (length ps) q) e ∙ bit_of_place bit_there there_small ps q (omega arith)))

  -- where the bits are those of the outcome, the product is the numerator
  when_told : IsGroup g → ArePlaces (length g.qubits) ps → 0 < length ps → m ≡ place_with bit_there ps
      → product_with b (pieces_of ps m g) ≡ amp_at g.nums place
  when_told i p some e = ⊎_elim
      (λ (all : length ps ≡ length g.qubits).
      let none : length (other_places (length g.qubits) ps) ≡ 0 = let count = others_count (length g.qubits) ps p.below p.distinct in omega arith in
      let first : place_with b (rest_of ps m g).qubits ≡ 0 =
      place_map b (slice_index g.qubits) 0 (other_places (length g.qubits) ps) ∙ no_place bit_there (other_places (length g.qubits) ps) none in
      ap (product_with b) (sym (pieces_whole ps m g all))
      ∙ (all_ones (amp_at (agreeing ps m g) 0) g.h (length ps) some
      ∙ (ap (λ s. if s then amp_at (agreeing ps m g) 0 else zero_amp) (they_tell e)
      ∙ (ap (amp_at (agreeing ps m g)) (sym first) ∙ rest_at p.below e))))
      (λ (apart : length ps ≢ length g.qubits).
      ap (product_with b) (sym (pieces_apart ps m g apart))
      ∙ (product_last b (singles ps m g.qubits one_amp 0) (rest_of ps m g)
      ∙ (ap (λ t. amp_product t (amp_with b (rest_of ps m g))) (all_ones one_amp 0 (length ps) some ∙ ap (λ s. if s then one_amp else zero_amp) (they_tell e))
      ∙ (one_times (amp_with b (rest_of ps m g)) ∙ rest_at p.below e))))
      (cases_eq (length ps) (length g.qubits))

  -- where they aren't, it is 0
  when_other : ArePlaces (length g.qubits) ps → 0 < length ps → list_all tells (range_with_len 0 (length ps)) ≡ false
      → product_with b (pieces_of ps m g) ≡ zero_amp
  when_other p some t = ⊎_elim
      (λ (all : length ps ≡ length g.qubits).
      ap (product_with b) (sym (pieces_whole ps m g all))
      ∙ (all_ones (amp_at (agreeing ps m g) 0) g.h (length ps) some ∙ ap (λ s. if s then amp_at (agreeing ps m g) 0 else zero_amp) t))
      (λ (apart : length ps ≢ length g.qubits).
      ap (product_with b) (sym (pieces_apart ps m g apart))
      ∙ (product_last b (singles ps m g.qubits one_amp 0) (rest_of ps m g)
      ∙ (ap (λ t. amp_product t (amp_with b (rest_of ps m g))) (all_ones one_amp 0 (length ps) some ∙ ap (λ s. if s then one_amp else zero_amp) t)
      ∙ zero_times (amp_with b (rest_of ps m g)))))
      (cases_eq (length ps) (length g.qubits))

  -- so the product of the pieces is the numerator at each place
  pub pieces_product : IsGroup g → ArePlaces (length g.qubits) ps → 0 < length ps → IsProjectedOn ps m g → product_with b (pieces_of ps m g) ≡ amp_with b g
  pieces_product i p some e = ⊎_elim
      (λ (t : list_all tells (range_with_len 0 (length ps)) ≡ true). when_told i p some (all_tell (outcome_below ps m g i e) t))
      (λ (t : list_all tells (range_with_len 0 (length ps)) ≡ false).
      let other : m ≢ place_with bit_there ps = λ f. let told = they_tell f in let no : true ≡ false = sym told ∙ t in cc in
      when_other p some t ∙ sym (none_at p.below e other))
      (cases_Bool (list_all tells (range_with_len 0 (length ps))))
