-- What gates do to the norm of a state.
use Rattle.std.proofs.Common.{◌≡◌, ◌≢◌, ℕ, ◌+◌, ◌*◌, ◌/◌, ◌%◌, ◌^◌, ◌<◌, List, [], length, map, refl, sym}
use Rattle.std.proofs.Common.{ap, ◌∙◌, arith, zero-add, true, false}
use Rattle.std.specs.Prelude.{if◌then◌else◌, Bool}
use Rattle.std.specs.List.{range_with_len}
use Rattle.std.proofs.lemmas.Int.{ints}
use Rattle.std.proofs.lemmas.Nat.{div-mul-add}
use Rattle.cqp_ring.specs.declared.amp.Amp.{Amp}
use Rattle.cqp_ring.specs.declared.root.Root.{Root}
use Rattle.cqp_ring.specs.Root.{root_sum, norm_of, norm_sum}
use Rattle.cqp_syntax.specs.declared.op.Op.{Op}
use Rattle.cqp_syntax.specs.declared.op.Op.TheVariants as op
use Rattle.cqp_vector.specs.State.{amp_at, weight_of}
use Rattle.cqp_vector.specs.Gate.{after_controlled, are_ones}
use Rattle.cqp_vector.specs.Pairs.{AreControls, low_after, high_after}
use Rattle.cqp_vector.proofs.PairLemmas.{h_pair, kept_pair}
use Rattle.cqp_vector.proofs.Pairs.{whole}
use Rattle.cqp_vector.proofs.Partners.{ArePartners, controlled_low, controlled_high}
use Rattle.cqp_ring.proofs.Integers.{same_root}
use Rattle.cqp_vector.proofs.Sums.{sum_from, norm_by_place, norm_as_sum, KeepsSums, blocks}

-- twice a norm
abbrev pub doubled : Root → Root
doubled x = root_sum x x

-- doubling goes along sums
pub double_keeps_sums : KeepsSums doubled
double_keeps_sums = record {
  zero_is = same_root (omega (arith, ints)) (omega (arith, ints));
  sum_is = λ x y. same_root (omega (arith, ints)) (omega (arith, ints));
}

-- so does doing nothing
same_keeps_sums : KeepsSums (λ x. x)
same_keeps_sums = record { zero_is = refl; sum_is = λ x y. refl }

-- the bit at the first half of a block, and at the second
low_bit : (w j i : ℕ) → i < w → (j * (w + w) + i) / w % 2 ≡ 0
low_bit w j i below =
    let e : j * (w + w) + i ≡ (2 * j) * w + i = omega arith in
    let d : ((2 * j) * w + i) / w ≡ 2 * j = div-mul-add (2 * j) w i below in
    rw (e, d) (omega arith)

-- in the second half of a block the bit is 1
high_bit : (w j i : ℕ) → i < w → (j * (w + w) + w + i) / w % 2 ≡ 1
high_bit w j i below =
    let e : j * (w + w) + w + i ≡ (2 * j + 1) * w + i = omega arith in
    let d : ((2 * j + 1) * w + i) / w ≡ 2 * j + 1 = div-mul-add (2 * j + 1) w i below in
    rw (e, d) (omega arith)

-- the places of the two halves of a block are partners
pub partners_at : (n q j i : ℕ) → i < weight_of n q
    → ArePartners n q (0 + j * (weight_of n q + weight_of n q) + i) (0 + j * (weight_of n q + weight_of n q) + weight_of n q + i)
partners_at n q j i below = record {
  low_is = rw zero-add (low_bit (weight_of n q) j i below);
  high_is = rw zero-add (high_bit (weight_of n q) j i below);
  apart = omega arith;
}

-- a gate on qubit q maps the norm of a state as it maps that of two partners
by_partners : (F : Root → Root) → KeepsSums F → (n q : ℕ) (nums : List Amp) (g : ℕ → Amp)
    → ((low high : ℕ) → ArePartners n q low high
    → root_sum (norm_of (g low)) (norm_of (g high)) ≡ F (root_sum (norm_of (amp_at nums low)) (norm_of (amp_at nums high))))
    → q < n → length nums ≡ 2 ^ n → norm_sum (map g (range_with_len 0 (2 ^ n))) ≡ F (norm_sum nums)
by_partners F keeps n q nums g pairs below all =
    let size : 2 ^ n ≡ 2 ^ q * (weight_of n q + weight_of n q) = omega (arith, whole n q below) in
    norm_by_place 0 (2 ^ n) g
    ∙ ap (λ m. sum_from 0 m (λ k. norm_of (g k))) size
    ∙ blocks F keeps (2 ^ q) (weight_of n q) 0 (λ k. norm_of (g k)) (λ k. norm_of (amp_at nums k)) (λ j i hj hi. pairs _ _ (partners_at n q j i hi))
    ∙ ap F (ap (λ m. sum_from 0 m (λ k. norm_of (amp_at nums k))) (sym (all ∙ size)) ∙ sym (norm_as_sum nums))

-- equal numerators have equal sums of norms
both_norms : {x y z t : Amp} → x ≡ z → y ≡ t → root_sum (norm_of x) (norm_of y) ≡ root_sum (norm_of z) (norm_of t)
both_norms {y = y} {z = z} e f = ap (λ u. root_sum (norm_of u) (norm_of y)) e ∙ ap (λ u. root_sum (norm_of z) (norm_of u)) f

-- a gate that is made at a pair or not
cond_pair : (b : Bool) (o : Op) → (o ≢ op.H) → (x y : Amp)
    → root_sum (norm_of (if b then low_after o x y else x)) (norm_of (if b then high_after o x y else y)) ≡ root_sum (norm_of x) (norm_of y)
cond_pair true o n x y = kept_pair o n x y
cond_pair false o n x y = refl

-- gates but H keep the norm of a state, with controls or without
pub kept_norm : (o : Op) → (o ≢ op.H) → (n : ℕ) (cs : List ℕ) (q : ℕ) (nums : List Amp) → AreControls n cs q → length nums ≡ 2 ^ n
    → norm_sum (map (after_controlled o n cs q nums) (range_with_len 0 (2 ^ n))) ≡ norm_sum nums
kept_norm o other n cs q nums c = by_partners (λ x. x) same_keeps_sums n q nums (after_controlled o n cs q nums)
    (λ low high p. both_norms (controlled_low o n cs q nums low high p) (controlled_high o n cs q nums low high c p)
    ∙ cond_pair (are_ones n cs low) o other (amp_at nums low) (amp_at nums high)) c.made

-- H doubles it
pub h_norm : (n q : ℕ) (nums : List Amp) → AreControls n [] q → length nums ≡ 2 ^ n
    → norm_sum (map (after_controlled op.H n [] q nums) (range_with_len 0 (2 ^ n))) ≡ doubled (norm_sum nums)
h_norm n q nums c = by_partners doubled double_keeps_sums n q nums (after_controlled op.H n [] q nums)
    (λ low high p. both_norms (controlled_low op.H n [] q nums low high p) (controlled_high op.H n [] q nums low high c p)
    ∙ h_pair (amp_at nums low) (amp_at nums high)) c.made
