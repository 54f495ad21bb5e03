-- The exponents of pieces, and that they are good.
use Rattle.cqp_ring.specs.declared.amp.Amp.{Amp}
use Rattle.cqp_ring.specs.Amp.{zero_amp, one_amp}
use Rattle.cqp_vector.specs.State.{amp_at}
use Rattle.std.proofs.Common.{◌≡◌, ◌≢◌, ℕ, true, false, List, [], ◌∷◌, ◌==◌, ◌+◌, ◌^◌, ◌<◌, not, if◌then◌else◌, length, Some, None, refl, sym, ap, subst, arith}
use Rattle.std.proofs.Common.{eq-eqb, ne_eqb, ◌∙◌, ⊎_elim}
use Rattle.std.proofs.lemmas.Bool.{cases_Bool, or_left, or_right}
use Rattle.std.proofs.lemmas.List.FromFn.{length-map-range_with_len}
use mathlib.Core.Logic.{dite}
use native.Mathlib.Decide.{ℕ_discrete}
use Rattle.cqp_book.specs.Keys.{has}
use Rattle.cqp_machine.specs.Factors.{Held, rest_of, rest_group, piece_of, has_scalar, bit_in, first_place}
use Rattle.cqp_machine.specs.Cells.{with_at}
use Rattle.cqp_machine.specs.After.{with_pieces}
use Rattle.cqp_machine.specs.Sums.{sum_below, h_in}
use Rattle.cqp_local.proofs.PlacedLemmas.{with_at_in, with_at_out}
use Rattle.cqp_places.specs.Places.{IsDistinct}
use Rattle.cqp_fresh.specs.Partition.{Groups}
use Rattle.cqp_fresh.proofs.Splits.{piece_qubits, piece_due}
use Rattle.cqp_local.proofs.GroupMaps.{pieces_out}
use Rattle.cqp_norms.proofs.NormHalf.{filter_distinct}
use Rattle.cqp_products.proofs.FixedLemmas.{nothing_fixed}
use Rattle.cqp_norms.specs.StateStands.{IsGood}
use Rattle.cqp_machine.proofs.SumLemmas.{sum_changed}

-- sums of exponents
abbrev pub sum : ℕ → Groups → ℕ
sum n m = sum_below n (λ i. h_in (m i))

-- a group that is put adds its exponent
pub sum_put : (n q : ℕ) (X : Held) (m : Groups) → q < n → m q ≡ None → sum n (with_at q (Some X) m) ≡ X.h + sum n m
sum_put n q X m h e =
    let all = sum_changed n q (λ i. h_in (m i)) (λ i. h_in (with_at q (Some X) m i)) h (λ i x. ap h_in (with_at_out q i (Some X) m (ne_eqb i q x))) in
    let old : h_in (m q) ≡ 0 = ap h_in e in
    let new : h_in (with_at q (Some X) m q) ≡ X.h = ap h_in (with_at_in q q (Some X) m (eq-eqb q q refl)) in
    omega arith

-- a group that is taken away takes its exponent
pub sum_taken : (n q : ℕ) (X : Held) (m : Groups) → q < n → m q ≡ Some X → sum n m ≡ X.h + sum n (with_at q None m)
sum_taken n q X m h e =
    let all = sum_changed n q (λ i. h_in (m i)) (λ i. h_in (with_at q None m i)) h (λ i x. ap h_in (with_at_out q i None m (ne_eqb i q x))) in
    let old : h_in (m q) ≡ X.h = ap h_in e in
    let new : h_in (with_at q None m q) ≡ 0 = ap h_in (with_at_in q q None m (eq-eqb q q refl)) in
    omega arith

-- the sum of the pieces' exponents
abbrev pub pieces_h : List ℕ → Held → List ℕ → ℕ
pieces_h qs G [] = 0
pieces_h qs G (q ∷ rs) = (piece_of qs G q).h + pieces_h qs G rs

-- the pieces add theirs to the sum
pub pieces_sum : (n : ℕ) (qs : List ℕ) (G : Held) (rs : List ℕ) (m : Groups) → IsDistinct rs → ((q : ℕ) → has q rs ≡ true → q < n)
    → ((q : ℕ) → has q rs ≡ true → m q ≡ None)
    → sum n (with_pieces qs G rs m) ≡ pieces_h qs G rs + sum n m
pieces_sum n qs G [] m d b e = omega arith
pieces_sum n qs G (q ∷ rs) m d b e =
    let here : has q (q ∷ rs) ≡ true = or_left (q == q) (has q rs) (eq-eqb q q refl) in
    let later = pieces_sum n qs G rs m d.1 (λ r t. b r (or_right (r == q) (has r rs) t)) (λ r t. e r (or_right (r == q) (has r rs) t)) in
    let one = sum_put n q (piece_of qs G q) (with_pieces qs G rs m) (b q here) (pieces_out qs G rs m q d.0 ∙ e q here) in
    omega arith

-- a piece's exponent, and that it is good
pub plain_h : (qs : List ℕ) (G : Held) (q : ℕ) → has_scalar qs G q ≡ false → (piece_of qs G q).h ≡ 0
plain_h qs G q t = rw t refl

-- the piece with the scalar has the group's exponent
pub scalar_h : (qs : List ℕ) (G : Held) (q : ℕ) → has_scalar qs G q ≡ true → (piece_of qs G q).h ≡ G.h
scalar_h qs G q t = rw t refl

-- pieces without the scalar have exponent 0
pub no_exponents : (qs : List ℕ) (G : Held) (rs : List ℕ) → ((q : ℕ) → has q rs ≡ true → has_scalar qs G q ≡ false) → pieces_h qs G rs ≡ 0
no_exponents qs G [] h = refl
no_exponents qs G (q ∷ rs) h =
    let one = plain_h qs G q (h q (or_left (q == q) (has q rs) (eq-eqb q q refl))) in
    let later = no_exponents qs G rs (λ r t. h r (or_right (r == q) (has r rs) t)) in
    omega arith

-- either of two lists of two numerators has two
two_of : (b : ℕ) (x y z w : Amp) → length (if b == 0 then x ∷ y ∷ [] else z ∷ w ∷ []) ≡ 2
two_of b x y z w = ⊎_elim (λ (t : (b == 0) ≡ true). rw t refl) (λ (t : (b == 0) ≡ false). rw t refl) (cases_Bool (b == 0))

-- a piece has two places
pub two_places : (qs : List ℕ) (G : Held) (q : ℕ) → length (piece_of qs G q).nums ≡ 2
two_places qs G q = ⊎_elim
    (λ (t : has_scalar qs G q ≡ true).
    let x = amp_at G.nums (first_place G.nums) in
    rw t (two_of (bit_in G.qubits q (first_place G.nums)) (amp_at G.nums (first_place G.nums)) zero_amp zero_amp (amp_at G.nums (first_place G.nums))))
    (λ (t : has_scalar qs G q ≡ false). rw t (two_of (bit_in G.qubits q (first_place G.nums)) one_amp zero_amp zero_amp one_amp))
    (cases_Bool (has_scalar qs G q))

-- a piece has all its places, and nothing is due in it
pub piece_good : (qs : List ℕ) (G : Held) (q : ℕ) → IsGood (piece_of qs G q)
piece_good qs G q = record {
  shape = record {
    distinct = subst IsDistinct (sym (piece_qubits qs G q)) (refl, tt);
    whole = two_places qs G q ∙ sym (ap (λ xs. 2 ^ length xs) (piece_qubits qs G q));
  };
  fixed = nothing_fixed (piece_of qs G q) (piece_due qs G q);
  apart = subst IsDistinct (sym (piece_due qs G q)) tt;
}

-- so is the rest
pub rest_good : (qs : List ℕ) (G : Held) → IsGood G → IsGood (rest_group qs G)
rest_good qs G g = record {
  shape = record {
    distinct = filter_distinct (λ q. not (has q qs)) G.qubits g.shape.distinct;
    whole = length-map-range_with_len _ 0 (2 ^ length (rest_of G.qubits qs));
  };
  fixed = nothing_fixed (rest_group qs G) refl;
  apart = tt;
}

-- at a measured qubit its piece stands
pub pieces_at : (qs : List ℕ) (G : Held) (rs : List ℕ) (m : Groups) (q : ℕ) → has q rs ≡ true → with_pieces qs G rs m q ≡ Some (piece_of qs G q)
pieces_at qs G [] m q h = cc
pieces_at qs G (r ∷ rs) m q h = dite (ℕ_discrete q r)
    (λ (e : q ≡ r). with_at_in r q (Some (piece_of qs G r)) (with_pieces qs G rs m) (eq-eqb q r e) ∙ ap (λ z. Some (piece_of qs G z)) (sym e))
    (λ (e : q ≢ r).
    let later : has q rs ≡ true = rw (ne_eqb q r e) at h in
    with_at_out r q (Some (piece_of qs G r)) (with_pieces qs G rs m) (ne_eqb q r e) ∙ pieces_at qs G rs m q later)
