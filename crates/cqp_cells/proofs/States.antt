-- Along a path a state has all its numerators, and isn't 0.
use Rattle.std.proofs.Common.{◌≡◌, ◌≢◌, ◌⊎◌, ℕ, ◌+◌, ◌*◌, ◌^◌, ◌<◌, List, [], ◌∷◌, true, false, not, refl, sym, ap, ◌∙◌, subst, arith, inl, inr}
use Rattle.std.proofs.Common.{pow_pos}
use Rattle.std.specs.Prelude.{ℤ, pos, ◌+ℤ◌, ◌≤ℤ◌, nat_abs, Some}
use Rattle.std.specs.List.{list_all}
use Rattle.std.proofs.lemmas.Int.{ints}
use Rattle.std.proofs.lemmas.List.FromFn.{length-map-range_with_len}
use Rattle.cqp_ring.specs.declared.amp.Amp.{Amp}
use Rattle.cqp_ring.specs.declared.root.Root.{Root}
use Rattle.cqp_ring.specs.Amp.{zero_amp}
use Rattle.cqp_ring.specs.Root.{norm_of, norm_sum, root_product, zero_root}
use Rattle.cqp_ring.specs.Weight.{power_root}
use Rattle.cqp_ring.proofs.Integers.{same_amp}
use Rattle.cqp_ring.proofs.OrderLemmas.{square_is, square_zero}
use Rattle.cqp_ring.proofs.OrderProducts.{zero_product}
use Rattle.cqp_syntax.specs.Trees.{Process}
use Rattle.cqp_trace.specs.declared.deed.Deed.{Deed}
use Rattle.cqp_trace.specs.declared.deed.Deed.TheVariants as deed
use Rattle.cqp_trace.specs.declared.entry.Entry.{Entry}
use Rattle.cqp_vector.specs.State.{State, state_by, norm_of_state}
use Rattle.cqp_vector.specs.Measurement.{projected, is_outcome, is_zero_amp}
use Rattle.cqp_vector.proofs.StateNorms.{grown_keeps}
use Rattle.cqp_cells.proofs.GateNorms.{gate_norm}
use Rattle.cqp_cells.specs.Config.{Config}
use Rattle.cqp_cells.specs.Step.{next}
use Rattle.cqp_vector.specs.State.{HasEachPlace}
use Rattle.cqp_cells.specs.Norms.{IsState}
use Rattle.cqp_cells.specs.Path.{h_count}
use Rattle.cqp_cells.specs.Step.{state_after}
use Rattle.cqp_cells.specs.Rows.{Fits, fits_qbit, fits_new, fits_act, fits_add, fits_pick, fits_gate, fits_measure, fits_yes, fits_no, IsAlone}
use Rattle.cqp_cells.specs.Rows.{IsMeeting}
use Rattle.cqp_cells.proofs.Inversion.{inverted}

-- a state that is given place by place has all its numerators
pub by_whole : (n : ℕ) (f : ℕ → Amp) → HasEachPlace (state_by n f)
by_whole n f = length-map-range_with_len f 0 (2 ^ n)

-- the whole part of a norm is a sum of squares
pub whole_part : (x : Amp) → pos 0 ≤ℤ (norm_of x).p
whole_part x = rw (square_is x.a, square_is x.b, square_is x.c, square_is x.d)
    (at_least (nat_abs x.a * nat_abs x.a) (nat_abs x.b * nat_abs x.b) (nat_abs x.c * nat_abs x.c) (nat_abs x.d * nat_abs x.d))
  where
    at_least : (a b c d : ℕ) → pos 0 ≤ℤ (pos a +ℤ pos b +ℤ pos c +ℤ pos d)
    at_least a b c d = omega (arith, ints)

-- the whole part of a norm isn't negative
pub whole_sum : (xs : List Amp) → pos 0 ≤ℤ (norm_sum xs).p
whole_sum [] = omega (arith, ints)
whole_sum (x ∷ xs) = let one = whole_part x in let more = whole_sum xs in omega (arith, ints)

-- a norm whose whole part is 0 is that of 0
zero_part : (x : Amp) → (norm_of x).p ≡ pos 0 → x ≡ zero_amp
zero_part x e =
    let g = squares_none _ _ _ _ (rw (square_is x.a, square_is x.b, square_is x.c, square_is x.d) at e) in
    same_amp (abs_zero x.a g.0) (abs_zero x.b g.1) (abs_zero x.c g.2) (abs_zero x.d g.3)
  where
    abs_zero : (z : ℤ) → nat_abs z ≡ 0 → z ≡ pos 0
    abs_zero z h = omega (arith, ints)

    squares_none : (a b c d : ℕ) → (pos (a * a) +ℤ pos (b * b) +ℤ pos (c * c) +ℤ pos (d * d)) ≡ pos 0 → (a ≡ 0) × (b ≡ 0) × (c ≡ 0) × (d ≡ 0)
    squares_none a b c d h =
        let none : a * a + b * b + c * c + d * d ≡ 0 = omega (arith, ints) in
        (square_zero a (omega arith), square_zero b (omega arith), square_zero c (omega arith), square_zero d (omega arith))

-- a sum of norms is 0 only where all numerators are
pub zero_sum : (xs : List Amp) → (norm_sum xs).p ≡ pos 0 → list_all is_zero_amp xs ≡ true
zero_sum [] e = refl
zero_sum (x ∷ xs) e =
    let one = whole_part x in
    let more = whole_sum xs in
    let first : (norm_of x).p ≡ pos 0 = omega (arith, ints) in
    let rest : (norm_sum xs).p ≡ pos 0 = omega (arith, ints) in
    let is : x ≡ zero_amp = zero_part x first in
    rw is (zero_sum xs rest)

-- an outcome leaves something
pub outcome_norm : (qs : List ℕ) (m : ℕ) (s : State) → is_outcome qs s m ≡ true → norm_of_state (projected qs m s) ≢ zero_root
outcome_norm qs m s h e = wrong (sym h ∙ ap not (zero_sum (projected qs m s).nums (ap (λ (r : Root). r.p) e)))
  where
    wrong : true ≡ false → ⊥
    wrong f = cc

-- 2 to a power isn't 0
pub power_nonzero : (k : ℕ) → power_root k ≢ zero_root
power_nonzero k e = let h : pos (2 ^ k) ≡ pos 0 = ap (λ (r : Root). r.p) e in let more : 0 < 2 ^ k = pow_pos k in let none : 2 ^ k ≡ 0 = omega
    (arith, ints) in omega arith

-- a product of norms that aren't 0 isn't 0
pub product_nonzero : (x y : Root) → x ≢ zero_root → y ≢ zero_root → root_product x y ≢ zero_root
product_nonzero x y a b e = of_either (zero_product x y e)
  where
    of_either : (x ≡ zero_root) ⊎ (y ≡ zero_root) → ⊥
    of_either (inl h) = a h
    of_either (inr h) = b h

-- what a deed of one part does to a state
pub state_goes_on : {s : State} {k : ℕ} {p : Process} {d : Deed} → Fits s k p d → IsState s → IsState (state_after d s)
state_goes_on {s} (fits_qbit same) is = record {
  whole = by_whole (s.qubits + 1) _;
  nonzero = subst (λ r. r ≢ zero_root)
      (sym (grown_keeps s is.whole)) is.nonzero;
}
state_goes_on (fits_new same) is = is
state_goes_on fits_act is = is
state_goes_on (fits_add at same) is = is
state_goes_on (fits_pick at same) is = is
state_goes_on {s} (fits_gate {o = o} {qs = qs} at have places operands) is = record {
  whole = by_whole s.qubits _;
  nonzero = subst (λ r. r ≢ zero_root) (sym (gate_norm o qs s is.whole places operands))
      (product_nonzero (power_root (h_count (deed.Gate o qs))) (norm_of_state s) (power_nonzero (h_count (deed.Gate o qs))) is.nonzero);
}
state_goes_on {s} (fits_measure {qs = qs} {m = m} at have operands below outcome) is =
    record { whole = by_whole s.qubits _; nonzero = outcome_norm qs m s outcome }
state_goes_on (fits_yes same) is = is
state_goes_on (fits_no differs) is = is

-- a reduction keeps a state whole and not 0
pub next_state : (c : Config) (e : Entry) (d : Config) → next c e ≡ Some d → IsState c.state → IsState d.state
next_state c e d h is = by_row (inverted c e d h)
  where
    by_row : IsAlone c e d ⊎ IsMeeting c e d → IsState d.state
    by_row (inl alone) = subst (λ (b : Config). IsState b.state) (sym alone.becomes) (state_goes_on alone.fits is)
    by_row (inr met) = subst (λ (b : Config). IsState b.state) (sym met.becomes) is
