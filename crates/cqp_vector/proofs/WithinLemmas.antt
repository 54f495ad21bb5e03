-- Norms that are within 2^h under both signs of root 2.
use Rattle.std.proofs.Common.{◌≡◌, ◌≢◌, ℕ, ◌+◌, ◌^◌, sym, ap, ◌∙◌, arith, subst, inl, inr, ◌⊎◌}
use Rattle.std.proofs.Common.{pow-add}
use Rattle.std.specs.Prelude.{pos, ◌+ℤ◌, ◌-ℤ◌, ◌≤ℤ◌, ◌<ℤ◌}
use Rattle.std.proofs.lemmas.Int.{ints}
use Rattle.cqp_ring.specs.declared.root.Root.{Root}
use Rattle.cqp_ring.specs.Root.{IsAtLeastZero, IsAtMost, root_conjugate, zero_root}
use Rattle.cqp_ring.specs.Weight.{power_root}
use Rattle.cqp_ring.proofs.OrderSums.{at_least_sum, at_most_sums, at_most_total, at_most_both}
use Rattle.cqp_vector.specs.Group.{IsWithin}
use Rattle.cqp_vector.proofs.Norms.{doubled}
use Rattle.cqp_ring.proofs.Integers.{same_root}

-- ---- doubles
-- twice 2^h is 2^(h + 1)
double_power : (h : ℕ) → doubled (power_root h) ≡ power_root (h + 1)
double_power h = same_root (omega (arith, ints, pow-add 2 h 1)) (omega (arith, ints))

-- the other sign of root 2 goes along doubling
double_conjugate : (r : Root) → root_conjugate (doubled r) ≡ doubled (root_conjugate r)
double_conjugate r = same_root (omega (arith, ints)) (omega (arith, ints))

-- what is at most 2^h is doubled at most 2^(h + 1)
double_most : (r : Root) (h : ℕ) → IsAtMost r (power_root h) → IsAtMost (doubled r) (power_root (h + 1))
double_most r h m = subst (IsAtMost (doubled r)) (double_power h) (at_most_sums r (power_root h) r (power_root h) m m)

-- a norm within 2^h is doubled within 2^(h + 1)
pub within_doubled : (r : Root) (h : ℕ) → IsWithin r h → IsWithin (doubled r) (h + 1)
within_doubled r h w = record {
  at_least = at_least_sum r r w.at_least w.at_least;
  at_most = double_most r h w.at_most;
  other_at_least = subst IsAtLeastZero (sym (double_conjugate r)) (at_least_sum (root_conjugate r) (root_conjugate r) w.other_at_least w.other_at_least);
  other_at_most = subst (λ t. IsAtMost t (power_root (h + 1))) (sym (double_conjugate r)) (double_most (root_conjugate r) h w.other_at_most);
}

-- ---- halves
-- a norm less 0 is the norm
less_zero : (x : Root) → let y : Root = record { p = x.p -ℤ pos 0; q = x.q -ℤ pos 0 } in y ≡ x
less_zero x = same_root (omega (arith, ints)) (omega (arith, ints))

-- what is at least zero is at least the norm 0
pub above_zero : (x : Root) → IsAtLeastZero x → IsAtMost zero_root x
above_zero x h = subst IsAtLeastZero (sym (less_zero x)) h

-- and the other way round
pub from_above_zero : (x : Root) → IsAtMost zero_root x → IsAtLeastZero x
from_above_zero x h = subst IsAtLeastZero (less_zero x) h

-- only 0 is doubled 0
double_none : (r : Root) → doubled r ≡ zero_root → r ≡ zero_root
double_none r e =
    let f : r.p +ℤ r.p ≡ pos 0 = ap (λ (t : Root). t.p) e in
    let g : r.q +ℤ r.q ≡ pos 0 = ap (λ (t : Root). t.q) e in
    same_root (omega (arith, ints)) (omega (arith, ints))

-- twice 0 is 0
zero_twice : doubled zero_root ≡ zero_root
zero_twice = same_root (omega (arith, ints)) (omega (arith, ints))

-- half of what is at most twice another
at_most_half : (x y : Root) → IsAtMost (doubled x) (doubled y) → IsAtMost x y
at_most_half x y h = by_order (at_most_total x y)
  where
    same_twice : doubled x ≡ doubled y → x ≡ y
    same_twice e =
        let f : x.p +ℤ x.p ≡ y.p +ℤ y.p = ap (λ (t : Root). t.p) e in
        let g : x.q +ℤ x.q ≡ y.q +ℤ y.q = ap (λ (t : Root). t.q) e in
        same_root (omega (arith, ints)) (omega (arith, ints))

    by_order : IsAtMost x y ⊎ IsAtMost y x → IsAtMost x y
    by_order (inl m) = m
    by_order (inr m) =
        let e : x ≡ y = same_twice (at_most_both (doubled x) (doubled y) h (at_most_sums y x y x m m)) in
        subst (λ t. IsAtMost t y) (sym e) (subst (λ t. IsAtMost y t) e m)

-- where the double is at least zero, so is the norm
at_least_half : (x : Root) → IsAtLeastZero (doubled x) → IsAtLeastZero x
at_least_half x h = from_above_zero x (at_most_half zero_root x (subst (λ t. IsAtMost t (doubled x)) (sym zero_twice) (above_zero (doubled x) h)))

-- a double within 2^(h + 1) is of a norm within 2^h
pub within_halved : (r : Root) (h : ℕ) → IsWithin (doubled r) (h + 1) → IsWithin r h
within_halved r h w = record {
  at_least = at_least_half r w.at_least;
  at_most = at_most_half r (power_root h) (subst (IsAtMost (doubled r)) (sym (double_power h)) w.at_most);
  other_at_least = at_least_half (root_conjugate r) (subst IsAtLeastZero (double_conjugate r) w.other_at_least);
  other_at_most = at_most_half (root_conjugate r) (power_root h) (
      subst (IsAtMost (doubled (root_conjugate r))) (sym (double_power h)) (subst (λ t. IsAtMost t (power_root (h + 1))) (double_conjugate r) w.other_at_most));
}

-- a double that isn't 0 is of a norm that isn't
pub not_doubled : (r : Root) → doubled r ≢ zero_root → r ≢ zero_root
not_doubled r n e = n (ap doubled e ∙ zero_twice)

-- the double of a norm that isn't 0 isn't 0
pub not_half : (r : Root) → r ≢ zero_root → doubled r ≢ zero_root
not_half r n e = n (double_none r e)

-- ---- the whole part
-- a norm at least zero without a part of root 2 has a whole part of at least 0
whole_part : (x : Root) → x.q ≡ pos 0 → IsAtLeastZero x → pos 0 ≤ℤ x.p
whole_part x none (inl h) = h.0
whole_part x none (inr (inl h)) = h.0
whole_part x none (inr (inr h)) = let less : pos 0 <ℤ x.q = h.1 in absurd (omega (arith, ints))

-- the whole part of a norm within 2^h is at most 2^h
pub whole_within : (r : Root) (h : ℕ) → IsWithin r h → r.p ≤ℤ pos (2 ^ h)
whole_within r h w =
    let both = at_most_sums r (power_root h) (root_conjugate r) (power_root h) w.at_most w.other_at_most in
    let f : pos 0 ≤ℤ ((pos (2 ^ h) +ℤ pos (2 ^ h)) -ℤ (r.p +ℤ r.p)) = whole_part _ (omega (arith, ints)) both in
    omega (arith, ints)
