-- Two places that differ in the bit of one qubit.
use Rattle.std.proofs.Common.{◌≡◌, ◌≢◌, ℕ, ◌+◌, ◌-◌, ◌*◌, ◌/◌, ◌%◌, ◌^◌, ◌<◌, ◌≤◌, ap, ◌∙◌, arith}
use Rattle.std.proofs.Common.{inl, inr, ◌⊎◌}
use Rattle.std.proofs.lemmas.Bool.{cases_lt}
use Rattle.std.proofs.lemmas.Nat.{pow-add, pow_pos}
use Rattle.std.proofs.Math.Nat.{div-lt_iff_lt-mul, mul-le-mul_left, div-eq_of_lt}
use Rattle.cqp_vector.specs.State.{weight_of, qubit_bit}

-- the places are blocks of two halves
pub whole : (n q : ℕ) → q < n → 2 ^ n ≡ weight_of n q * (2 * 2 ^ q)
whole n q h = ap (λ t. 2 ^ t) split ∙ pow-add 2 (n - 1 - q) (1 + q) ∙ ap (λ t. weight_of n q * t) (pow-add 2 1 q)
  where
    split : n ≡ (n - 1 - q) + (1 + q)
    split = omega arith

-- a qubit's bit weighs at least 1
pub weight_positive : (n q : ℕ) → 0 < weight_of n q
weight_positive n q = pow_pos (n - 1 - q)

-- in blocks of 2 m w places, a place whose bit is 0 has one w above it
pub above : (w m k : ℕ) → 0 < w → k < w * (2 * m) → k / w % 2 ≡ 0 → k + w < w * (2 * m)
above w m k positive h even =
    let product : k < (2 * m) * w = omega arith in
    let d : k / w < 2 * m = (div-lt_iff_lt-mul positive).1 product in
    let e : k / w + 2 ≤ 2 * m = omega arith in
    let f : w * (k / w + 2) ≤ w * (2 * m) = mul-le-mul_left w e in
    omega arith

-- the partner of a place with bit 0 is a place
pub partner_above : (n q k : ℕ) → q < n → k < 2 ^ n → qubit_bit n q k ≡ 0 → k + weight_of n q < 2 ^ n
partner_above n q k h small even =
    let e : 2 ^ n ≡ weight_of n q * (2 * 2 ^ q) = whole n q h in
    let within : k < weight_of n q * (2 * 2 ^ q) = omega arith in
    let f : k + weight_of n q < weight_of n q * (2 * 2 ^ q) = above (weight_of n q) (2 ^ q) k (weight_positive n q) within even in
    omega arith

-- a place whose bit isn't 0 is at least the bit's weight
pub partner_below : (n q k : ℕ) → qubit_bit n q k ≢ 0 → weight_of n q ≤ k
partner_below n q k odd = by_cases (cases_lt k (weight_of n q))
  where
    by_cases : (k < weight_of n q) ⊎ (weight_of n q ≤ k) → weight_of n q ≤ k
    by_cases (inl less) = absurd (odd (ap (λ t. t % 2) (div-eq_of_lt less)))
    by_cases (inr more) = more
