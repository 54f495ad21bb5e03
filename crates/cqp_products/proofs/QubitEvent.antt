-- A new group of a new qubit is the whole state with that qubit.
use Rattle.std.proofs.Common.{◌≡◌, ℕ, suc, true, false, Bool, List, [], ◌∷◌, ◌==◌, ◌+◌, ◌-◌, ◌*◌, ◌/◌, ◌%◌, ◌^◌, ◌<◌, if◌then◌else◌, Option, Some, None, refl}
use Rattle.std.proofs.Common.{sym, ap, arith, eq-eqb, ne_eqb, ◌∙◌, ⊎_elim, pow-add}
use Rattle.std.proofs.lemmas.Bool.{cases_Bool, eqb-true, eqb-false}
use Rattle.std.proofs.Math.Nat.{div-div-eq-div-mul}
use Rattle.cqp_ring.specs.declared.amp.Amp.{Amp}
use Rattle.cqp_ring.specs.Amp.{zero_amp, one_amp, amp_product}
use Rattle.cqp_vector.specs.State.{State, amp_at, weight_of, qubit_bit, spread_at, grown}
use Rattle.cqp_vector.specs.Measurement.{outcome_at}
use Rattle.cqp_machine.specs.Factors.{Held, new_group}
use Rattle.cqp_machine.specs.Cells.{Cells, with_at}
use Rattle.cqp_vector.specs.Least.{root2_power}
use Rattle.cqp_machine.specs.Sums.{whole_amp, amp_in, product_below}
use Rattle.cqp_places.specs.Places.{AreBelow}
use Rattle.cqp_places.proofs.PlaceLemmas.{outcome_first}
use Rattle.cqp_fresh.specs.Partition.{IsPartition}
use Rattle.cqp_places.proofs.GateHalf.{times_zero}
use Rattle.cqp_products.proofs.ProductHalf.{all_below, same_product, times_one}
use Rattle.cqp_local.proofs.PlacedLemmas.{with_at_in, with_at_out}
use Rattle.cqp_products.specs.Reads.{Reads}
use Rattle.cqp_products.proofs.GateEvent.{state_at}

-- a bit of an old qubit, with a new one behind
old_bit : (n q k : ℕ) → q < n → qubit_bit (n + 1) q k ≡ qubit_bit n q (k / 2)
old_bit n q k h =
    let up : n + 1 - 1 - q ≡ 1 + (n - 1 - q) = omega arith in
    let twice : weight_of (n + 1) q ≡ 2 * weight_of n q = ap (λ t. 2 ^ t) up ∙ (pow-add 2 1 (n - 1 - q) ∙ omega arith) in
    ap (λ w. k / w % 2) twice ∙ ap (λ t. t % 2) (sym (div-div-eq-div-mul k 2 (weight_of n q)))

-- a list of old qubits has the place of the halved number
old_place : (n : ℕ) (qs : List ℕ) (k : ℕ) → AreBelow n qs → outcome_at (n + 1) qs k ≡ outcome_at n qs (k / 2)
old_place n [] k h = refl
old_place n (q ∷ qs) k h =
    let bit = old_bit n q k h.0 in
    let rest = old_place n qs k h.1 in
    outcome_first (n + 1) q qs k ∙ (rw (bit, rest) refl ∙ sym (outcome_first n q qs (k / 2)))

-- the new qubit's own place is its bit
new_place : (n k : ℕ) → outcome_at (n + 1) (n ∷ []) k ≡ k % 2
new_place n k =
    let e : n + 1 - 1 - n ≡ 0 = omega arith in
    let w : weight_of (n + 1) n ≡ 1 = ap (λ t. 2 ^ t) e in
    let b : qubit_bit (n + 1) n k ≡ k % 2 = ap (λ t. k / t % 2) w ∙ omega arith in
    ap (λ t. 2 * 0 + t) b ∙ omega arith

-- the new qubit's numerator is 1 where its bit is 0
new_amp : (n k : ℕ) → amp_at (one_amp ∷ zero_amp ∷ []) (outcome_at (n + 1) (n ∷ []) k) ≡ (if k % 2 == 0 then one_amp else zero_amp)
new_amp n k = ap (amp_at (one_amp ∷ zero_amp ∷ [])) (new_place n k) ∙ ⊎_elim
    (λ (t : (k % 2 == 0) ≡ true). let e = eqb-true (k % 2) 0 t in rw (e) refl)
    (λ (t : (k % 2 == 0) ≡ false). let x = eqb-false (k % 2) 0 t in let e : k % 2 ≡ 1 = omega arith in rw (e) refl)
    (cases_Bool (k % 2 == 0))

-- a zero stands behind each numerator
spread_reads : (t : Bool) (x p w y z : Amp) → x ≡ amp_product p w → z ≡ amp_product w (if t then one_amp else zero_amp)
    → (if t then x else zero_amp) ≡ amp_product p z
spread_reads true x p w y z e f = e ∙ ap (amp_product p) (sym (times_one w) ∙ sym f)
spread_reads false x p w y z e f = sym (ap (amp_product p) (f ∙ times_zero w) ∙ times_zero p)

module _ (s : State) (c : Cells) (own : ℕ → ℕ) (p : IsPartition s.qubits c.groups own) (e : ℕ) (h : Reads s c e) where
  -- the cells with the new qubit
  abbrev more : Cells
  more = record c { groups = with_at s.qubits (Some (new_group s.qubits)) c.groups }

  -- an old group has its numerator at the halved place
  old_amp : (k g : ℕ) (x : Option Held) → c.groups g ≡ x → amp_in (s.qubits + 1) k x ≡ amp_in s.qubits (k / 2) x
  old_amp k g None t = refl
  old_amp k g (Some G) t = ap (amp_at G.nums) (old_place s.qubits G.qubits k (all_below s.qubits G.qubits (p.each g G t).made))

  -- so the whole numerator is the old one where the new bit is 0
  grown_product : (k : ℕ) → whole_amp (s.qubits + 1) more k ≡ amp_product (whole_amp s.qubits c (k / 2)) (if k % 2 == 0 then one_amp else zero_amp)
  grown_product k =
      let up : s.qubits + 1 ≡ suc s.qubits = omega arith in
      let old : product_below s.qubits (λ g. amp_in (s.qubits + 1) k (more.groups g)) ≡ whole_amp s.qubits c (k / 2) =
      same_product s.qubits (λ g. amp_in (s.qubits + 1) k (more.groups g)) (λ g. amp_in s.qubits (k / 2) (c.groups g))
      (λ g t. ap (amp_in (s.qubits + 1) k) (with_at_out s.qubits g (Some (new_group s.qubits)) c.groups (ne_eqb g s.qubits (λ z. omega arith)))
      ∙ old_amp k g (c.groups g) refl) in
      let new : amp_in (s.qubits + 1) k (more.groups s.qubits) ≡ (if k % 2 == 0 then one_amp else zero_amp) =
      ap (amp_in (s.qubits + 1) k) (with_at_in s.qubits s.qubits (Some (new_group s.qubits)) c.groups (eq-eqb s.qubits s.qubits refl)) ∙ new_amp s.qubits k in
      ap (λ n. product_below n (λ g. amp_in (s.qubits + 1) k (more.groups g))) up
      ∙ (ap (λ x. amp_product x (amp_in (s.qubits + 1) k (more.groups s.qubits))) old ∙ ap (amp_product (whole_amp s.qubits c (k / 2))) new)

  -- a new qubit's group is the grown state
  pub qubit_event : Reads (grown s) more e
  qubit_event k small =
      let size : 2 ^ (s.qubits + 1) ≡ 2 * 2 ^ s.qubits = pow-add 2 s.qubits 1 ∙ omega arith in
      state_at (s.qubits + 1) k (spread_at s.nums) small
      ∙ spread_reads (k % 2 == 0) (amp_at s.nums (k / 2)) (root2_power e) (whole_amp s.qubits c (k / 2)) one_amp (whole_amp (s.qubits + 1) more k)
      (h (k / 2) (omega arith)) (grown_product k)
