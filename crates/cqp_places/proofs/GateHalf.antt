-- A gate on a group is the gate on the whole state.
use Rattle.std.proofs.Common.{◌≡◌, ℕ, true, false, List, ◌==◌, sym, ap, arith, ◌∙◌, ⊎_elim}
use Rattle.std.proofs.lemmas.Bool.{cases_Bool}
use Rattle.std.proofs.lemmas.Int.{ints}
use Rattle.cqp_ring.specs.declared.amp.Amp.{Amp}
use Rattle.cqp_ring.specs.Amp.{zero_amp, amp_sum, amp_difference, amp_product, amp_negative, w_power}
use Rattle.cqp_ring.proofs.Integers.{same_amp, distributed, sums}
use Rattle.cqp_ring.proofs.NormLemmas.{amp_product_comm, amp_product_assoc}
use Rattle.cqp_syntax.specs.declared.op.Op.{Op}
use Rattle.cqp_syntax.specs.declared.op.Op.TheVariants as op
use Rattle.cqp_vector.specs.State.{amp_at, qubit_bit, with_zero, with_one, exchanged}
use Rattle.cqp_vector.specs.Gate.{by_bit, phased, after_single}

-- products with sums, differences, negatives and other factors
pub times_sum : (r x y : Amp) → amp_product r (amp_sum x y) ≡ amp_sum (amp_product r x) (amp_product r y)
times_sum r x y = same_amp
    (simp distributed (omega (arith, sums)))
    (simp distributed (omega (arith, sums)))
    (simp distributed (omega (arith, sums)))
    (simp distributed (omega (arith, sums)))

-- a factor goes into a difference
pub times_difference : (r x y : Amp) → amp_product r (amp_difference x y) ≡ amp_difference (amp_product r x) (amp_product r y)
times_difference r x y = same_amp
    (simp distributed (omega (arith, sums)))
    (simp distributed (omega (arith, sums)))
    (simp distributed (omega (arith, sums)))
    (simp distributed (omega (arith, sums)))

-- a factor times 0 is 0
pub times_zero : (r : Amp) → amp_product r zero_amp ≡ zero_amp
times_zero r = same_amp (omega (arith, ints)) (omega (arith, ints)) (omega (arith, ints)) (omega (arith, ints))

-- a factor goes into a negative
pub times_negative : (r x : Amp) → amp_product r (amp_negative x) ≡ amp_negative (amp_product r x)
times_negative r x = times_difference r zero_amp x ∙ ap (λ z. amp_difference z (amp_product r x)) (times_zero r)

-- two factors change places
pub factor_first : (w r x : Amp) → amp_product w (amp_product r x) ≡ amp_product r (amp_product w x)
factor_first w r x = sym (amp_product_assoc w r x) ∙ (ap (λ t. amp_product t x) (amp_product_comm w r) ∙ amp_product_assoc r w x)

-- A state S of n qubits whose numerators at place k, and at k with the bit of qubit q put, are r times
-- those of N at place j, and at j with the bit of qubit p put.
pub record IsRead (n m q p k j : ℕ) (r : Amp) (s xs : List Amp) : Type 0 where
  pub bit : qubit_bit m p j ≡ qubit_bit n q k
  pub here : amp_at s k ≡ amp_product r (amp_at xs j)
  pub zero : amp_at s (with_zero n q k) ≡ amp_product r (amp_at xs (with_zero m p j))
  pub one : amp_at s (with_one n q k) ≡ amp_product r (amp_at xs (with_one m p j))

module _ (n m q p k j : ℕ) (r : Amp) (s xs : List Amp) (h : IsRead n m q p k j r s xs) where
  -- a choice by the bit
  pub chosen : (x y u v : Amp) → x ≡ amp_product r u → y ≡ amp_product r v → by_bit n q k x y ≡ amp_product r (by_bit m p j u v)
  chosen x y u v e f = ⊎_elim
      (λ (t : (qubit_bit n q k == 0) ≡ true).
      let own : (qubit_bit m p j == 0) ≡ true = ap (λ b. b == 0) h.bit ∙ t in
      rw (t, own) e)
      (λ (t : (qubit_bit n q k == 0) ≡ false).
      let own : (qubit_bit m p j == 0) ≡ false = ap (λ b. b == 0) h.bit ∙ t in
      rw (t, own) f)
      (cases_Bool (qubit_bit n q k == 0))

  -- the numerator with the other bit
  pub at_other : amp_at s (exchanged n q k) ≡ amp_product r (amp_at xs (exchanged m p j))
  at_other = ⊎_elim
      (λ (t : (qubit_bit n q k == 0) ≡ true).
      let own : (qubit_bit m p j == 0) ≡ true = ap (λ b. b == 0) h.bit ∙ t in
      rw (t, own) h.one)
      (λ (t : (qubit_bit n q k == 0) ≡ false).
      let own : (qubit_bit m p j == 0) ≡ false = ap (λ b. b == 0) h.bit ∙ t in
      rw (t, own) h.zero)
      (cases_Bool (qubit_bit n q k == 0))

  -- a power of w may be taken after the factor
  turned : (i : ℕ) → amp_product (w_power i) (amp_at s k) ≡ amp_product r (amp_product (w_power i) (amp_at xs j))
  turned i = ap (amp_product (w_power i)) h.here ∙ factor_first (w_power i) r (amp_at xs j)

  -- so may a power of w where the bit is 1
  phase : (i : ℕ) → phased i n q k (amp_at s k) ≡ amp_product r (phased i m p j (amp_at xs j))
  phase i = chosen _ _ _ _ h.here (turned i)

  -- a gate of one qubit
  pub single : (o : Op) → after_single o n q s k ≡ amp_product r (after_single o m p xs j)
  single op.I = h.here
  single op.X = at_other
  single op.Y = chosen _ _ _ _
      (ap (λ x. amp_negative (amp_product (w_power 2) x)) h.one
      ∙ (ap amp_negative (factor_first (w_power 2) r (amp_at xs (with_one m p j)))
      ∙ sym (times_negative r (amp_product (w_power 2) (amp_at xs (with_one m p j))))))
      (ap (amp_product (w_power 2)) h.zero ∙ factor_first (w_power 2) r (amp_at xs (with_zero m p j)))
  single op.Z = phase 4
  single op.S = phase 2
  single op.T = phase 1
  single op.H = chosen _ _ _ _
      (rw (h.here, h.one) (sym (times_sum r (amp_at xs j) (amp_at xs (with_one m p j)))))
      (rw (h.here, h.zero) (sym (times_difference r (amp_at xs (with_zero m p j)) (amp_at xs j))))
  single op.CNot = h.here
  single op.CZ = h.here
  single op.Swap = h.here
  single op.Toffoli = h.here
