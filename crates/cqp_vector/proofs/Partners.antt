-- Partners: two places that differ in the bit of one qubit, and what a gate makes of them.
use Rattle.std.proofs.Common.{◌≡◌, ◌≢◌, ℕ, ◌+◌, ◌-◌, ◌*◌, ◌/◌, ◌%◌, ◌<◌, List, [], ◌∷◌, refl, sym}
use Rattle.std.proofs.Common.{ap, ◌∙◌, arith}
use Rattle.std.specs.Prelude.{◌==◌, ◌&&◌, if◌then◌else◌, Bool}
use Rattle.std.proofs.lemmas.Bool.{and_parts, or_parts, ltb-true, eqb-false}
use Rattle.cqp_ring.specs.declared.amp.Amp.{Amp}
use Rattle.cqp_ring.specs.Amp.{amp_sum, amp_difference, amp_negative, amp_product, w_power}
use Rattle.cqp_syntax.specs.declared.op.Op.{Op}
use Rattle.cqp_syntax.specs.declared.op.Op.TheVariants as op
use Rattle.cqp_vector.specs.State.{amp_at, weight_of, qubit_bit, with_zero, with_one}
use Rattle.cqp_vector.specs.Gate.{after_single, after_controlled, are_ones}
use Rattle.cqp_vector.specs.Pairs.{AreControls, low_after, high_after}
use Rattle.cqp_vector.proofs.Bits.{quotient_plus, other_bit}
use Rattle.cqp_vector.proofs.Pairs.{weight_positive}

-- the bit of qubit q is 0 in the low one
pub record ArePartners (n q low high : ℕ) : Type 0 where
  pub low_is : qubit_bit n q low ≡ 0
  pub high_is : qubit_bit n q high ≡ 1
  pub apart : high ≡ low + weight_of n q

-- adding the weight to a place with bit 0 makes the bit 1
odd_above : (w k : ℕ) → 0 < w → k / w % 2 ≡ 0 → (k + w) / w % 2 ≡ 1
odd_above w k positive even =
    let e : k + w ≡ 1 * w + k = omega arith in
    let f : (k + w) / w ≡ 1 + k / w = ap (λ t. t / w) e ∙ quotient_plus 1 w k positive in
    omega arith

-- a place with bit 0 and the one above it are partners
pub partners_from : (n q k : ℕ) → qubit_bit n q k ≡ 0 → ArePartners n q k (k + weight_of n q)
partners_from n q k e = record {
  low_is = e;
  high_is = odd_above (weight_of n q) k (weight_positive n q) e;
  apart = refl;
}

-- one of two by a bit
pub choose_low : {A : Type 0} (b : ℕ) (x y : A) → b ≡ 0 → (if b == 0 then x else y) ≡ x
choose_low b x y e = rw e refl

-- bit 1 chooses the second
pub choose_high : {A : Type 0} (b : ℕ) (x y : A) → b ≡ 1 → (if b == 0 then x else y) ≡ y
choose_high b x y e = rw e refl

-- the partner of each
pub up_from : (n q low high : ℕ) → ArePartners n q low high → with_one n q low ≡ high
up_from n q low high p =
    let e : qubit_bit n q low * weight_of n q ≡ 0 = rw p.low_is (omega arith) in
    omega (arith, e, p.apart)

-- the high place of partners comes down to the low one
pub down_from : (n q low high : ℕ) → ArePartners n q low high → with_zero n q high ≡ low
down_from n q low high p =
    let e : qubit_bit n q high * weight_of n q ≡ weight_of n q = rw p.high_is (omega arith) in
    omega (arith, e, p.apart)

-- a gate on the qubit, at two partners
pub single_low : (o : Op) (nums : List Amp) (n q low high : ℕ) → ArePartners n q low high
    → after_single o n q nums low ≡ low_after o (amp_at nums low) (amp_at nums high)
single_low op.I nums n q low high p = refl
single_low op.X nums n q low high p = ap (amp_at nums) (choose_low (qubit_bit n q low) _ _ p.low_is ∙ up_from n q low high p)
single_low op.Y nums n q low high p =
    choose_low (qubit_bit n q low) _ _ p.low_is
    ∙ ap (λ k. amp_negative (amp_product (w_power 2) (amp_at nums k))) (up_from n q low high p)
single_low op.Z nums n q low high p = choose_low (qubit_bit n q low) _ _ p.low_is
single_low op.S nums n q low high p = choose_low (qubit_bit n q low) _ _ p.low_is
single_low op.T nums n q low high p = choose_low (qubit_bit n q low) _ _ p.low_is
single_low op.H nums n q low high p =
    choose_low (qubit_bit n q low) _ _ p.low_is
    ∙ ap (λ k. amp_sum (amp_at nums low) (amp_at nums k)) (up_from n q low high p)
single_low op.CNot nums n q low high p = refl
single_low op.CZ nums n q low high p = refl
single_low op.Swap nums n q low high p = refl
single_low op.Toffoli nums n q low high p = refl

-- a gate at the high place of partners, by the two numerators
pub single_high : (o : Op) (nums : List Amp) (n q low high : ℕ) → ArePartners n q low high
    → after_single o n q nums high ≡ high_after o (amp_at nums low) (amp_at nums high)
single_high op.I nums n q low high p = refl
single_high op.X nums n q low high p = ap (amp_at nums) (choose_high (qubit_bit n q high) _ _ p.high_is ∙ down_from n q low high p)
single_high op.Y nums n q low high p =
    choose_high (qubit_bit n q high) _ _ p.high_is
    ∙ ap (λ k. amp_product (w_power 2) (amp_at nums k)) (down_from n q low high p)
single_high op.Z nums n q low high p = choose_high (qubit_bit n q high) _ _ p.high_is
single_high op.S nums n q low high p = choose_high (qubit_bit n q high) _ _ p.high_is
single_high op.T nums n q low high p = choose_high (qubit_bit n q high) _ _ p.high_is
single_high op.H nums n q low high p =
    choose_high (qubit_bit n q high) _ _ p.high_is
    ∙ ap (λ k. amp_difference (amp_at nums k) (amp_at nums high)) (down_from n q low high p)
single_high op.CNot nums n q low high p = refl
single_high op.CZ nums n q low high p = refl
single_high op.Swap nums n q low high p = refl
single_high op.Toffoli nums n q low high p = refl

-- ---- controls
-- equal tests pass together alike
both_and : (a b x y : Bool) → a ≡ x → b ≡ y → (a && b) ≡ (x && y)
both_and a b x y e f = ap (λ t. t && b) e ∙ ap (λ t. x && t) f

-- they have the same bits in both places
pub ones_same : (n : ℕ) (cs : List ℕ) (q k : ℕ) → AreControls n cs q → qubit_bit n q k ≡ 0 → are_ones n cs (k + weight_of n q) ≡ are_ones n cs k
ones_same n [] q k c even = refl
ones_same n (x ∷ cs) q k c even =
    let below = and_parts _ _ c.below in
    let apart = or_parts _ _ c.apart in
    let less : x < n = ltb-true x n below.0 in
    let here : q < n = c.made in
    let other : x ≢ q = λ e. eqb-false q x apart.0 (sym e) in
    let shifts : (n - 1 - x) ≢ (n - 1 - q) = λ e. other (omega arith) in
    both_and _ _ _ _ (ap (λ t. t == 1) (other_bit (n - 1 - x) (n - 1 - q) k shifts even))
    (ones_same n cs q k (record { made = c.made; below = below.1; apart = apart.1 }) even)

-- equal first choices choose alike
if_same : {A : Type 0} (b : Bool) (x y z : A) → x ≡ y → (if b then x else z) ≡ (if b then y else z)
if_same b x y z e = ap (λ t. if b then t else z) e

-- a gate under controls at the low place of partners, by the two numerators
pub controlled_low : (o : Op) (n : ℕ) (cs : List ℕ) (q : ℕ) (nums : List Amp) (low high : ℕ) → ArePartners n q low high
    → after_controlled o n cs q nums low ≡ (if are_ones n cs low then low_after o (amp_at nums low) (amp_at nums high) else amp_at nums low)
controlled_low o n cs q nums low high p = if_same (are_ones n cs low) _ _ _ (single_low o nums n q low high p)

-- and at the high place
pub controlled_high : (o : Op) (n : ℕ) (cs : List ℕ) (q : ℕ) (nums : List Amp) (low high : ℕ) → AreControls n cs q → ArePartners n q low high
    → after_controlled o n cs q nums high ≡ (if are_ones n cs low then high_after o (amp_at nums low) (amp_at nums high) else amp_at nums high)
controlled_high o n cs q nums low high c p =
    let ones : are_ones n cs high ≡ are_ones n cs low = ap (are_ones n cs) p.apart ∙ ones_same n cs q low c p.low_is in
    ap (λ b. if b then after_single o n q nums high else amp_at nums high) ones
    ∙ if_same (are_ones n cs low) _ _ _ (single_high o nums n q low high p)
