-- No entry but H makes the exponent greater, and H by one at most.
use Rattle.std.proofs.Common.{◌≡◌, ◌⊎◌, ℕ, zero, suc, ◌+◌, ◌-◌, ◌<◌, ◌≤◌, ◌^◌, ◌%◌, ◌/◌, List, [], ◌∷◌, map, Bool, true, false, refl, sym, ap, ◌∙◌, subst}
use Rattle.std.proofs.Common.{arith, inl, inr}
use Rattle.std.specs.Prelude.{◌==◌, if◌then◌else◌, Some, None, Option}
use Rattle.std.specs.Option.{option_and_then}
use Rattle.std.specs.List.{AllByRecursion, range_with_len}
use Rattle.std.proofs.lemmas.Bool.Decides.{nat_tests}
use Rattle.std.proofs.lemmas.Int.{ints}
use Rattle.cqp_ring.specs.declared.amp.Amp.{Amp}
use Rattle.cqp_ring.specs.Amp.{amp_product, amp_sum, amp_difference, zero_amp, w_power}
use Rattle.cqp_ring.proofs.Integers.{same_amp}
use Rattle.cqp_ring.proofs.NormLemmas.{amp_product_assoc, amp_product_comm, amp_product_over_difference}
use Rattle.cqp_ring.proofs.NormLemmas.{amp_product_over_sum}
use Rattle.cqp_syntax.specs.declared.op.Op.{Op}
use Rattle.cqp_syntax.specs.declared.op.Op.TheVariants as op
use Rattle.cqp_syntax.specs.Trees.{Process}
use Rattle.cqp_trace.specs.declared.deed.Deed.{Deed}
use Rattle.cqp_trace.specs.declared.deed.Deed.TheVariants as deed
use Rattle.cqp_trace.specs.declared.entry.Entry.{Entry}
use Rattle.cqp_vector.specs.Least.{root2_power}
use Rattle.cqp_vector.specs.State.{State, amp_at, state_by, spread_at, qubit_bit, with_zero, with_one, exchanged}
use Rattle.cqp_vector.specs.Gate.{after_single, are_ones, after_controlled, swapped, after_gate}
use Rattle.cqp_vector.specs.Measurement.{outcome_at}
use Rattle.cqp_cells.specs.Config.{Config, start_of}
use Rattle.cqp_cells.specs.Exponent.{IsPowerTimes, exponent_of}
use Rattle.cqp_cells.specs.Path.{after, h_count, h_total, is_below_limit, some_passes, keeps_limit, IsPath}
use Rattle.cqp_cells.specs.Step.{state_after}
use Rattle.cqp_cells.specs.Rows.{Fits, fits_qbit, fits_new, fits_act, fits_add, fits_pick, fits_gate, fits_measure, fits_yes, fits_no, IsAlone}
use Rattle.cqp_cells.specs.Rows.{IsMeeting}
use Rattle.cqp_cells.specs.Step.{next}
use Rattle.cqp_cells.proofs.Exponents.{exponent_is}
use Rattle.cqp_cells.proofs.Inversion.{inverted}
use Rattle.cqp_cells.proofs.Options.{both_true}

-- a numerator times 0 is 0
over_zero : (x : Amp) → amp_product x zero_amp ≡ zero_amp
over_zero x = same_amp (omega (arith, ints)) (omega (arith, ints)) (omega (arith, ints)) (omega (arith, ints))

module _ (j : ℕ) where
  -- 0 is a multiple of each power of root 2
  times_zero : IsPowerTimes j zero_amp
  times_zero = (zero_amp, over_zero (root2_power j))

  -- a sum of multiples is one
  times_sum : (x y : Amp) → IsPowerTimes j x → IsPowerTimes j y → IsPowerTimes j (amp_sum x y)
  times_sum x y (u, p) (v, q) = (
    amp_sum u v,
    amp_product_over_sum (root2_power j) u v ∙ ap (λ t. amp_sum t (amp_product (root2_power j) v)) p ∙ ap
        (λ t. amp_sum x t) q,
  )

  -- so is a difference
  times_difference : (x y : Amp) → IsPowerTimes j x → IsPowerTimes j y → IsPowerTimes j (amp_difference x y)
  times_difference x y (u, p) (v, q) = (
    amp_difference u v,
    amp_product_over_difference (root2_power j) u v ∙ ap (λ t. amp_difference t (amp_product (root2_power j) v)) p ∙ ap
        (λ t. amp_difference x t) q,
  )

  -- so is a multiple times a numerator
  times_product : (z x : Amp) → IsPowerTimes j x → IsPowerTimes j (amp_product z x)
  times_product z x (u, p) = (
    amp_product z u,
    sym (amp_product_assoc (root2_power j) z u) ∙ ap (λ t. amp_product t u) (amp_product_comm (root2_power j) z)
        ∙ amp_product_assoc z (root2_power j) u ∙ ap (λ t. amp_product z t) p,
  )

  -- a list of multiples has one at each place
  times_at : (xs : List Amp) → AllByRecursion (IsPowerTimes j) xs → (k : ℕ) → IsPowerTimes j (amp_at xs k)
  times_at [] all k = times_zero
  times_at (x ∷ xs) all zero = all.0
  times_at (x ∷ xs) all (suc k) = times_at xs all.1 k

  -- either of two multiples is one
  times_if : (b : Bool) (x y : Amp) → IsPowerTimes j x → IsPowerTimes j y → IsPowerTimes j (if b then x else y)
  times_if true x y p q = p
  times_if false x y p q = q

  -- a list made of multiples has them alone
  all_by : (f : ℕ → Amp) → ((k : ℕ) → IsPowerTimes j (f k)) → (m a : ℕ) → AllByRecursion (IsPowerTimes j) (map f (range_with_len a m))
  all_by f each zero a = tt
  all_by f each (suc m) a = (each a, all_by f each m (a + 1))

  module _ (xs : List Amp) (all : AllByRecursion (IsPowerTimes j) xs) where
    -- so has each place
    at : (k : ℕ) → IsPowerTimes j (amp_at xs k)
    at = times_at xs all

    -- a gate of one place keeps multiples
    after_one : (o : Op) (n q k : ℕ) → IsPowerTimes j (after_single o n q xs k)
    after_one op.I n q k = at k
    after_one op.X n q k = at (exchanged n q k)
    after_one op.Y n q k =
        let up = times_product (w_power 2) (amp_at xs (with_one n q k)) (at (with_one n q k)) in
        times_if (qubit_bit n q k == 0) _ _ (times_difference zero_amp (amp_product (w_power 2) (amp_at xs (with_one n q k))) times_zero up)
        (times_product (w_power 2) (amp_at xs (with_zero n q k)) (at (with_zero n q k)))
    after_one op.Z n q k = times_if (qubit_bit n q k == 0) _ _ (at k) (times_product (w_power 4) (amp_at xs k) (at k))
    after_one op.S n q k = times_if (qubit_bit n q k == 0) _ _ (at k) (times_product (w_power 2) (amp_at xs k) (at k))
    after_one op.T n q k = times_if (qubit_bit n q k == 0) _ _ (at k) (times_product (w_power 1) (amp_at xs k) (at k))
    after_one op.H n q k =
        times_if (qubit_bit n q k == 0) _ _ (times_sum (amp_at xs k) (amp_at xs (with_one n q k)) (at k) (at (with_one n q k)))
        (times_difference (amp_at xs (with_zero n q k)) (amp_at xs k) (at (with_zero n q k)) (at k))
    after_one op.CNot n q k = at k
    after_one op.CZ n q k = at k
    after_one op.Swap n q k = at k
    after_one op.Toffoli n q k = at k

    -- so does one under controls
    controlled : (o : Op) (n : ℕ) (cs : List ℕ) (q k : ℕ) → IsPowerTimes j (after_controlled o n cs q xs k)
    controlled o n cs q k = times_if (are_ones n cs k) _ _ (after_one o n q k) (at k)

  -- so does each gate
  gate_times : (o : Op) (qs : List ℕ) (s : State) → AllByRecursion (IsPowerTimes j) s.nums → (k : ℕ) → IsPowerTimes j (after_gate o qs s k)
  gate_times op.CNot (q ∷ r ∷ []) s all k = controlled s.nums all op.X s.qubits (q ∷ []) r k
  gate_times op.CZ (q ∷ r ∷ []) s all k = controlled s.nums all op.Z s.qubits (q ∷ []) r k
  gate_times op.Swap (q ∷ r ∷ []) s all k = at s.nums all (swapped s.qubits q r k)
  gate_times op.Toffoli (q ∷ r ∷ t ∷ []) s all k = controlled s.nums all op.X s.qubits (q ∷ r ∷ []) t k
  gate_times o (q ∷ []) s all k = after_one s.nums all o s.qubits q k
  gate_times o qs s all k = at s.nums all k

-- what a deed does to the exponent
exponent_most : (k : ℕ) (s : State) (e : ℕ) → e ≤ k → AllByRecursion (IsPowerTimes (k - e)) s.nums → exponent_of k s ≤ e
exponent_most k s e le all = (exponent_is k s).least e le all

-- where each place keeps its powers of root 2, the exponent rises by the H alone
by_places : (k n h : ℕ) (s : State) (f : ℕ → Amp) → ((j : ℕ) → AllByRecursion (IsPowerTimes j) s.nums → (i : ℕ) → IsPowerTimes j (f i))
    → exponent_of (k + h) (state_by n f) ≤ exponent_of k s + h
by_places k n h s f each =
    let is = exponent_is k s in
    let same : k - exponent_of k s ≡ k + h - (exponent_of k s + h) = omega (arith, is.within) in
    let le : exponent_of k s + h ≤ k + h = omega (arith, is.within) in
    exponent_most (k + h) (state_by n f) (exponent_of k s + h) le
    (subst (λ j. AllByRecursion (IsPowerTimes j) (state_by n f).nums) same
    (all_by (k - exponent_of k s) f (each (k - exponent_of k s) is.divided) (2 ^ n) 0))

-- what does nothing keeps the exponent
kept : (k : ℕ) (s : State) → exponent_of (k + 0) s ≤ exponent_of k s + 0
kept k s = let none : k + 0 ≡ k = omega arith in rw none (omega arith)

-- a deed raises the exponent by at most 1, and only H does
row_exponent : {s : State} {m : ℕ} {p : Process} {d : Deed} (k : ℕ) → Fits s m p d → exponent_of (k + h_count d) (state_after d s) ≤ exponent_of k s + h_count d
row_exponent {s} k (fits_qbit same) =
    by_places k (s.qubits + 1) 0 s (spread_at s.nums) (λ j all i. times_if j (i % 2 == 0) _ _ (times_at j s.nums all (i / 2)) (times_zero j))
row_exponent {s} k (fits_new same) = kept k s
row_exponent {s} k fits_act = kept k s
row_exponent {s} k (fits_add at same) = kept k s
row_exponent {s} k (fits_pick at same) = kept k s
row_exponent {s} k (fits_gate {o = o} {qs = qs} at have places operands) =
    by_places k s.qubits (h_count (deed.Gate o qs)) s (after_gate o qs s) (λ j all i. gate_times j o qs s all i)
row_exponent {s} k (fits_measure {qs = qs} {m = m} at have operands below outcome) =
    by_places k s.qubits 0 s (λ i. if outcome_at s.qubits qs i == m then amp_at s.nums i else zero_amp)
    (λ j all i. times_if j (outcome_at s.qubits qs i == m) _ _ (times_at j s.nums all i) (times_zero j))
row_exponent {s} k (fits_yes same) = kept k s
row_exponent {s} k (fits_no differs) = kept k s

-- so does a reduction
next_exponent : (k : ℕ) (c : Config) (e : Entry) (d : Config) → next c e ≡ Some d
    → exponent_of (k + h_count e.deed) d.state ≤ exponent_of k c.state + h_count e.deed
next_exponent k c e d h = by_row (inverted c e d h)
  where
    by_row : IsAlone c e d ⊎ IsMeeting c e d → exponent_of (k + h_count e.deed) d.state ≤ exponent_of k c.state + h_count e.deed
    by_row (inl alone) =
        subst (λ (b : Config). exponent_of (k + h_count e.deed) b.state ≤ exponent_of k c.state + h_count e.deed) (sym alone.becomes)
        (row_exponent k alone.fits)
    by_row (inr met) =
        subst (λ b. exponent_of (k + h_count b) d.state ≤ exponent_of k c.state + h_count b) (sym met.deed_is)
        (subst (λ (b : Config). exponent_of (k + 0) b.state ≤ exponent_of k c.state + 0) (sym met.becomes) (kept k c.state))

-- within the limit
limit_kept : (k : ℕ) (s : State) (d : Deed) → is_below_limit k s d ≡ true → exponent_of k s ≤ 90 → exponent_of k s + h_count d ≤ 90
limit_kept k s (deed.Gate op.H qs) below le = let less : exponent_of k s < 90 = grind (arith, nat_tests) in omega arith
limit_kept k s _ below le = omega arith

-- entries that keep to the limit keep the exponent within 90
within_along : (es : List Entry) (k : ℕ) (c d : Config) → after c es ≡ Some d → keeps_limit k c es ≡ true → exponent_of k c.state ≤ 90
    → exponent_of (k + h_total es) d.state ≤ 90
within_along [] k c d leads below le =
    let none : k + 0 ≡ k = omega arith in
    subst (λ n. exponent_of n d.state ≤ 90) (sym none) (subst (λ (b : Config). exponent_of k b.state ≤ 90) (same leads) le)
  where
    same : Some c ≡ Some d → c ≡ d
    same e = cc
within_along (e ∷ es) k c d leads below le =
    let tests = both_true (is_below_limit k c.state e.deed) (some_passes (λ b. keeps_limit (k + h_count e.deed) b es) (next c e)) below in
    by_next (next c e) refl leads tests.1 (limit_kept k c.state e.deed tests.0 le) (λ b h g l. within_along es (k + h_count e.deed) b d h g l)
  where
    by_next : (o : Option Config) → next c e ≡ o → option_and_then (λ b. after b es) o ≡ Some d
        → some_passes (λ b. keeps_limit (k + h_count e.deed) b es) o ≡ true
        → exponent_of k c.state + h_count e.deed ≤ 90
        → ((b : Config) → after b es ≡ Some d → keeps_limit (k + h_count e.deed) b es ≡ true → exponent_of (k + h_count e.deed) b.state ≤ 90 → exponent_of
        (k + h_count e.deed + h_total es) d.state ≤ 90)
        → exponent_of (k + (h_count e.deed + h_total es)) d.state ≤ 90
    by_next None fits h g l more = absurd (wrong h)
      where
        wrong : None ≡ Some d → ⊥
        wrong f = cc
    by_next (Some b) fits h g l more =
        let one = next_exponent k c e b fits in
        let sum : k + h_count e.deed + h_total es ≡ k + (h_count e.deed + h_total es) = omega arith in
        subst (λ n. exponent_of n d.state ≤ 90) sum (more b h g (omega (arith, one, l)))

-- the exponent of a path is at most 90
pub path_exponent : (p : Process) (es : List Entry) (c : Config) → IsPath p es c → exponent_of (h_total es) c.state ≤ 90
path_exponent p es c path =
    let none : 0 + h_total es ≡ h_total es = omega arith in
    subst (λ n. exponent_of n c.state ≤ 90) none (within_along es 0 (start_of p) c path.leads path.below start)
  where
    start : exponent_of 0 (start_of p).state ≤ 90
    start = omega arith
