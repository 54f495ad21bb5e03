-- A split changes nothing of the whole state.
use Rattle.std.proofs.lemmas.Bool.{and_from, ltb-true, ltb-false, cases_Bool, and_parts, and_cases, or_left, or_right, eqb-true, both_ways, false_from_ne_true}
use Rattle.cqp_places.proofs.PlaceLemmas.{index_within, outcome_small, bit_at_index}
use Rattle.cqp_places.specs.Places.{IsDistinct}
use Rattle.cqp_products.specs.Reads.{IsShaped}
use Rattle.cqp_products.proofs.GateEvent.{state_at}
use Rattle.cqp_products.specs.Reads.{IsFixed}
use Rattle.cqp_products.proofs.FixedLemmas.{zero_numerator, first_some, first_within}
use Rattle.cqp_norms.proofs.NormHalf.{has-filter}
use Rattle.std.proofs.Common.{◌≡◌, ◌≢◌, ℕ, true, false, Bool, List, [], ◌∷◌, ◌==◌, ◌+◌, ◌^◌, ◌≤◌, ◌<◌, not, nat_lt, if◌then◌else◌, length, refl, sym, ap, subst}
use Rattle.std.proofs.Common.{arith, eq-eqb, ne_eqb, ◌∙◌, ⊎_elim}
use Rattle.std.specs.List.{list_all}
use Rattle.cqp_ring.specs.declared.amp.Amp.{Amp}
use Rattle.cqp_ring.specs.Amp.{zero_amp, one_amp, amp_product}
use Rattle.cqp_ring.proofs.NormLemmas.{amp_product_comm}
use Rattle.cqp_book.specs.Keys.{has}
use Rattle.cqp_vector.specs.State.{amp_at, qubit_bit}
use Rattle.cqp_vector.specs.Measurement.{outcome_at, is_zero_amp}
use Rattle.cqp_machine.specs.Factors.{Held, index_of, places_in, first_place, bit_in, with_bits, rest_of, place_with, rest_group, alone_with, has_scalar}
use Rattle.cqp_vector.proofs.Bits.{bit_cases}
use Rattle.cqp_places.proofs.GateHalf.{times_zero}
use Rattle.cqp_products.proofs.ProductHalf.{one_times, times_one}
use Rattle.cqp_splits.proofs.SplitProducts.{piece_amp, pieces_amp}
use Rattle.cqp_places.proofs.SplitBits.{bits_told, bits_together, alone_at, same_map, own_bits}

-- the group's numerator is the product of the rest's and the pieces'
module _ (n k : ℕ) (qs : List ℕ) (G : Held) (shaped : IsShaped G) (distinct : IsDistinct qs) (in_group : (q : ℕ) → has q qs ≡ true → has q G.qubits ≡ true)
    (due : G.due ≡ qs) (fixed : IsFixed G) where
  -- the first place of the group whose numerator isn't 0
  abbrev first : ℕ
  first = first_place G.nums

  -- the bit of a measured qubit there
  abbrev fixed_bit : ℕ → ℕ
  fixed_bit q = bit_in G.qubits q (first_place G.nums)

  -- the group's own place of place k
  abbrev own_place : ℕ
  own_place = outcome_at n G.qubits k

  -- whether a qubit's bit in place k is the one that was measured
  abbrev agrees : ℕ → Bool
  agrees q = fixed_bit q == qubit_bit n q k

  -- whether qubits stay
  abbrev pub stay : Bool
  stay = nat_lt 0 (length (rest_of G.qubits qs))

  -- where each bit agrees the test of all passes
  all_agree : (rs : List ℕ) → ((q : ℕ) → has q rs ≡ true → fixed_bit q ≡ qubit_bit n q k) → list_all agrees rs ≡ true
  all_agree [] h = refl
  all_agree (q ∷ rs) h =
      and_from (agrees q) (list_all agrees rs) (eq-eqb (fixed_bit q) (qubit_bit n q k) (h q (or_left (q == q) (has q rs) (eq-eqb q q refl))))
      (all_agree rs (λ r t. h r (or_right (r == q) (has r rs) t)))

  -- where the test of all passes each agrees
  each_agrees : (rs : List ℕ) → list_all agrees rs ≡ true → (q : ℕ) → has q rs ≡ true → fixed_bit q ≡ qubit_bit n q k
  each_agrees [] h q t = cc
  each_agrees (x ∷ rs) h q t = let parts = and_parts (agrees x) (list_all agrees rs) h in ⊎_elim
      (λ (u : (q == x) ≡ true). rw (eqb-true q x u) (eqb-true (fixed_bit x) (qubit_bit n x k) parts.0))
      (λ (u : (q == x) ≡ false). each_agrees rs parts.1 q (rw u at t))
      (cases_Bool (q == x))

  -- a measured qubit's place is among those measured
  index_there : (rs : List ℕ) (q : ℕ) → has q rs ≡ true → has (index_of q G.qubits) (places_in G.qubits rs) ≡ true
  index_there [] q t = cc
  index_there (x ∷ rs) q t = ⊎_elim
      (λ (u : (q == x) ≡ true).
      or_left (index_of q G.qubits == index_of x G.qubits) (has (index_of q G.qubits) (places_in G.qubits rs))
      (eq-eqb (index_of q G.qubits) (index_of x G.qubits) (ap (λ z. index_of z G.qubits) (eqb-true q x u))))
      (λ (u : (q == x) ≡ false).
      or_right (index_of q G.qubits == index_of x G.qubits) (has (index_of q G.qubits) (places_in G.qubits rs)) (index_there rs q (rw u at t)))
      (cases_Bool (q == x))

  -- where a bit is another, the group has nothing
  none_where_other : list_all agrees qs ≡ false → amp_at G.nums (outcome_at n G.qubits k) ≡ zero_amp
  none_where_other h = ⊎_elim
      (λ (t : is_zero_amp (amp_at G.nums (outcome_at n G.qubits k)) ≡ true). zero_numerator (amp_at G.nums (outcome_at n G.qubits k)) t)
      (λ (t : is_zero_amp (amp_at G.nums (outcome_at n G.qubits k)) ≡ false).
      let some : amp_at G.nums (outcome_at n G.qubits k) ≢ zero_amp =
      λ e. both_ways (is_zero_amp (amp_at G.nums (outcome_at n G.qubits k))) t (ap is_zero_amp e) in
      let told = fixed (outcome_at n G.qubits k) (outcome_small n G.qubits k) some in
      let same = subst (λ ds. outcome_at (length G.qubits) (places_in G.qubits ds) (outcome_at n G.qubits k)
      ≡ outcome_at (length G.qubits) (places_in G.qubits ds) (first_place G.nums)) due told in
      absurd (both_ways (list_all agrees qs) h (all_agree qs (λ q u.
      sym (bits_told (length G.qubits) (places_in G.qubits qs) (outcome_at n G.qubits k) (first_place G.nums) same (index_of q G.qubits) (index_there qs q u))
      ∙ bit_at_index n q G.qubits k (in_group q u)))))
      (cases_Bool (is_zero_amp (amp_at G.nums (outcome_at n G.qubits k))))

  -- what a piece has at the place
  abbrev scalar_at : ℕ → Amp
  scalar_at q = if has_scalar qs G q then amp_at G.nums (first_place G.nums) else one_amp

  -- a piece has its scalar where its bit agrees, and 0 elsewhere
  piece_at : (q : ℕ) → piece_amp n k qs G q ≡ (if fixed_bit q == qubit_bit n q k then scalar_at q else zero_amp)
  piece_at q =
      let place : outcome_at n (q ∷ []) k ≡ qubit_bit n q k = omega arith in
      ⊎_elim
      (λ (t : has_scalar qs G q ≡ true).
      rw t (ap (amp_at (alone_with (amp_at G.nums (first_place G.nums)) G.h q (fixed_bit q)).nums) place
      ∙ alone_at (amp_at G.nums (first_place G.nums)) G.h q (fixed_bit q) (qubit_bit n q k)
      (bit_cases (length G.qubits) (index_of q G.qubits) (first_place G.nums)) (bit_cases n q k)))
      (λ (t : has_scalar qs G q ≡ false).
      rw t (ap (amp_at (alone_with one_amp 0 q (fixed_bit q)).nums) place
      ∙ alone_at one_amp 0 q (fixed_bit q) (qubit_bit n q k)
      (bit_cases (length G.qubits) (index_of q G.qubits) (first_place G.nums)) (bit_cases n q k)))
      (cases_Bool (has_scalar qs G q))

  -- where its bit agrees it has its scalar
  piece_agrees : (q : ℕ) → fixed_bit q ≡ qubit_bit n q k → piece_amp n k qs G q ≡ scalar_at q
  piece_agrees q e = piece_at q ∙ chosen_true (fixed_bit q == qubit_bit n q k) (scalar_at q) (eq-eqb (fixed_bit q) (qubit_bit n q k) e)
    where
      chosen_true : (b : Bool) (x : Amp) → b ≡ true → (if b then x else zero_amp) ≡ x
      chosen_true b x h = rw h refl

  -- elsewhere it has 0
  piece_other : (q : ℕ) → (fixed_bit q == qubit_bit n q k) ≡ false → piece_amp n k qs G q ≡ zero_amp
  piece_other q e = piece_at q ∙ chosen_false (fixed_bit q == qubit_bit n q k) (scalar_at q) e
    where
      chosen_false : (b : Bool) (x : Amp) → b ≡ false → (if b then x else zero_amp) ≡ zero_amp
      chosen_false b x h = rw h refl

  -- where a bit is another, so have the pieces
  pieces_none : (rs : List ℕ) → list_all agrees rs ≡ false → pieces_amp n k qs G rs ≡ zero_amp
  pieces_none [] h = cc
  pieces_none (q ∷ rs) h = ⊎_elim
      (λ (t : agrees q ≡ false).
      ap (λ x. amp_product x (pieces_amp n k qs G rs)) (piece_other q t)
      ∙ (amp_product_comm zero_amp (pieces_amp n k qs G rs) ∙ times_zero (pieces_amp n k qs G rs)))
      (λ (t : list_all agrees rs ≡ false). ap (amp_product (piece_amp n k qs G q)) (pieces_none rs t) ∙ times_zero (piece_amp n k qs G q))
      (and_cases (agrees q) (list_all agrees rs) h)

  -- where all agree, pieces without a scalar are 1
  pieces_one : (rs : List ℕ) → ((q : ℕ) → has q rs ≡ true → fixed_bit q ≡ qubit_bit n q k) → ((q : ℕ) → has q rs ≡ true → has_scalar qs G q ≡ false)
      → pieces_amp n k qs G rs ≡ one_amp
  pieces_one [] h plainly = refl
  pieces_one (q ∷ rs) h plainly =
      let here : has q (q ∷ rs) ≡ true = or_left (q == q) (has q rs) (eq-eqb q q refl) in
      let none : scalar_at q ≡ one_amp = plain (has_scalar qs G q) (amp_at G.nums (first_place G.nums)) (plainly q here) in
      ap (λ x. amp_product x (pieces_amp n k qs G rs)) (piece_agrees q (h q here) ∙ none)
      ∙ (one_times (pieces_amp n k qs G rs) ∙ pieces_one rs (λ r t. h r (or_right (r == q) (has r rs) t)) (λ r t. plainly r (or_right (r == q) (has r rs) t)))
    where
      plain : (b : Bool) (x : Amp) → b ≡ false → (if b then x else one_amp) ≡ one_amp
      plain b x e = rw e refl

  -- the rest reads the group at its place
  abbrev pub rest_value : Amp
  rest_value = amp_at (rest_group qs G).nums (outcome_at n (rest_of G.qubits qs) k)

  -- where all bits agree the rest has the group's numerator
  rest_reads : ((q : ℕ) → has q qs ≡ true → fixed_bit q ≡ qubit_bit n q k)
      → amp_at (rest_group qs G).nums (outcome_at n (rest_of G.qubits qs) k) ≡ amp_at G.nums (outcome_at n G.qubits k)
  rest_reads h =
      let rest = rest_of G.qubits qs in
      let bit : (q : ℕ) → has q G.qubits ≡ true
      → (if has q qs then bit_in G.qubits q (first_place G.nums) else bit_in (rest_of G.qubits qs) q (outcome_at n (rest_of G.qubits qs) k)) ≡ qubit_bit n q k =
      λ q t. ⊎_elim
      (λ (u : has q qs ≡ true). rw u (h q u))
      (λ (u : has q qs ≡ false).
      let there : has q (rest_of G.qubits qs) ≡ true = has-filter (λ r. not (has r qs)) q G.qubits ∙ rw (t, u) refl in
      rw u (bit_at_index n q (rest_of G.qubits qs) k there))
      (cases_Bool (has q qs)) in
      state_at (length (rest_of G.qubits qs)) (outcome_at n (rest_of G.qubits qs) k)
      (λ j. amp_at G.nums (place_with G.qubits qs (first_place G.nums) j)) (outcome_small n (rest_of G.qubits qs) k)
      ∙ ap (amp_at G.nums) (bits_together 0 n G.qubits k
      (λ q. if has q qs then bit_in G.qubits q (first_place G.nums) else bit_in (rest_of G.qubits qs) q (outcome_at n (rest_of G.qubits qs) k)) bit)

  -- with a rest
  pub with_a_rest : stay ≡ true → amp_at G.nums (outcome_at n G.qubits k) ≡ amp_product rest_value (pieces_amp n k qs G qs)
  with_a_rest s = ⊎_elim
      (λ (t : list_all agrees qs ≡ true).
      let all = each_agrees qs t in
      let some : 0 < length (rest_of G.qubits qs) = ltb-true 0 (length (rest_of G.qubits qs)) s in
      let counted : (length (rest_of G.qubits qs) == 0) ≡ false = ne_eqb (length (rest_of G.qubits qs)) 0 (λ z. omega arith) in
      let ones = pieces_one qs all (λ q u. rw counted refl) in
      sym (ap (amp_product rest_value) ones ∙ (times_one rest_value ∙ rest_reads all)))
      (λ (t : list_all agrees qs ≡ false).
      none_where_other t ∙ sym (ap (amp_product rest_value) (pieces_none qs t) ∙ times_zero rest_value))
      (cases_Bool (list_all agrees qs))

  -- without one, the first place is the group's own
  own_is_first : stay ≡ false → ((q : ℕ) → has q qs ≡ true → fixed_bit q ≡ qubit_bit n q k) → first_place G.nums < 2 ^ length G.qubits
      → outcome_at n G.qubits k ≡ first_place G.nums
  own_is_first s all small =
      let none : length (rest_of G.qubits qs) ≤ 0 = ltb-false 0 (length (rest_of G.qubits qs)) s in
      let measured : (q : ℕ) → has q G.qubits ≡ true → has q qs ≡ true = λ q t. ⊎_elim
      (λ (u : has q qs ≡ true). u)
      (λ (u : has q qs ≡ false).
      let there : has q (rest_of G.qubits qs) ≡ true = has-filter (λ r. not (has r qs)) q G.qubits ∙ rw (t, u) refl in
      absurd (let within = index_within q (rest_of G.qubits qs) there in omega arith))
      (cases_Bool (has q qs)) in
      let bits = same_map (λ q. bit_in G.qubits q (outcome_at n G.qubits k)) (λ q. bit_in G.qubits q (first_place G.nums)) G.qubits
      (λ q t. bit_at_index n q G.qubits k t ∙ sym (all q (measured q t))) in
      sym (own_bits G.qubits shaped.distinct (outcome_at n G.qubits k) (outcome_small n G.qubits k))
      ∙ (ap (with_bits 0) bits ∙ own_bits G.qubits shaped.distinct (first_place G.nums) small)

  -- where no qubit stays the group's numerator there is the scalar
  own_is_scalar : stay ≡ false → ((q : ℕ) → has q qs ≡ true → fixed_bit q ≡ qubit_bit n q k)
      → amp_at G.nums (outcome_at n G.qubits k) ≡ amp_at G.nums (first_place G.nums)
  own_is_scalar s all = ⊎_elim
      (λ (t : is_zero_amp (amp_at G.nums (first_place G.nums)) ≡ true).
      let zero_there = zero_numerator (amp_at G.nums (first_place G.nums)) t in
      ⊎_elim
      (λ (u : is_zero_amp (amp_at G.nums (outcome_at n G.qubits k)) ≡ true). zero_numerator (amp_at G.nums (outcome_at n G.qubits k)) u ∙ sym zero_there)
      (λ (u : is_zero_amp (amp_at G.nums (outcome_at n G.qubits k)) ≡ false).
      absurd
      (first_some G.nums (outcome_at n G.qubits k) (λ e. both_ways (is_zero_amp (amp_at G.nums (outcome_at n G.qubits k))) u (ap is_zero_amp e)) zero_there))
      (cases_Bool (is_zero_amp (amp_at G.nums (outcome_at n G.qubits k)))))
      (λ (t : is_zero_amp (amp_at G.nums (first_place G.nums)) ≡ false).
      let within = first_within G.nums (first_place G.nums) (λ e. both_ways (is_zero_amp (amp_at G.nums (first_place G.nums))) t (ap is_zero_amp e)) in
      ap (amp_at G.nums) (own_is_first s all (subst (λ m. first_place G.nums < m) shaped.whole within)))
      (cases_Bool (is_zero_amp (amp_at G.nums (first_place G.nums))))

  -- the pieces of a group that was measured whole
  whole_pieces : (q : ℕ) (rs : List ℕ) → qs ≡ q ∷ rs → stay ≡ false → ((r : ℕ) → has r qs ≡ true → fixed_bit r ≡ qubit_bit n r k)
      → pieces_amp n k qs G (q ∷ rs) ≡ amp_at G.nums (first_place G.nums)
  whole_pieces q rs e s all =
      let none : length (rest_of G.qubits qs) ≤ 0 = ltb-false 0 (length (rest_of G.qubits qs)) s in
      let counted : (length (rest_of G.qubits qs) == 0) ≡ true = eq-eqb (length (rest_of G.qubits qs)) 0 (omega arith) in
      let apart : IsDistinct (q ∷ rs) = subst IsDistinct e distinct in
      let in_qs : (r : ℕ) → has r (q ∷ rs) ≡ true → has r qs ≡ true = λ r t. subst (λ xs. has r xs ≡ true) (sym e) t in
      let here : has q (q ∷ rs) ≡ true = or_left (q == q) (has q rs) (eq-eqb q q refl) in
      let index : (index_of q qs == 0) ≡ true = ap (λ xs. index_of q xs == 0) e ∙ (let same : (q == q) ≡ true = eq-eqb q q refl in rw same refl) in
      let scalar : has_scalar qs G q ≡ true = rw (counted, index) refl in
      let value : scalar_at q ≡ amp_at G.nums (first_place G.nums) = taken (has_scalar qs G q) (amp_at G.nums (first_place G.nums)) scalar in
      let ones = pieces_one rs (λ r t. all r (in_qs r (or_right (r == q) (has r rs) t))) (λ r t.
      let other : (r == q) ≡ false = false_from_ne_true (r == q) (λ z. both_ways (has q rs) apart.0 (subst (λ y. has y rs ≡ true) (eqb-true r q z) t)) in
      let later : (index_of r qs == 0) ≡ false = ap (λ xs. index_of r xs == 0) e ∙ rw other (ne_eqb (index_of r rs + 1) 0 (λ z. omega arith)) in
      rw (counted, later) refl) in
      ap (λ x. amp_product x (pieces_amp n k qs G rs)) (piece_agrees q (all q (in_qs q here)) ∙ value)
      ∙ (ap (amp_product (amp_at G.nums (first_place G.nums))) ones ∙ times_one (amp_at G.nums (first_place G.nums)))
    where
      taken : (b : Bool) (x : Amp) → b ≡ true → (if b then x else one_amp) ≡ x
      taken b x h = rw h refl

  -- with no rest the group's numerator is the product of the pieces'
  pub without_rest : (q : ℕ) (rs : List ℕ) → qs ≡ q ∷ rs → stay ≡ false → amp_at G.nums (outcome_at n G.qubits k) ≡ pieces_amp n k qs G qs
  without_rest q rs e s = ⊎_elim
      (λ (t : list_all agrees qs ≡ true).
      let all = each_agrees qs t in
      own_is_scalar s all ∙ sym (ap (pieces_amp n k qs G) e ∙ whole_pieces q rs e s all))
      (λ (t : list_all agrees qs ≡ false). none_where_other t ∙ sym (pieces_none qs t))
      (cases_Bool (list_all agrees qs))
