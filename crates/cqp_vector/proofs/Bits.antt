-- Bits of a place, and what a change of one bit leaves of the others.
use Rattle.std.proofs.Common.{◌≡◌, ◌≢◌, ℕ, ◌+◌, ◌-◌, ◌*◌, ◌/◌, ◌%◌, ◌^◌, ◌<◌, ◌≤◌, ap, ◌∙◌, sym, arith, refl}
use Rattle.std.proofs.Common.{inl, inr, ◌⊎◌, pow-add}
use Rattle.std.proofs.lemmas.Bool.{cases_order, cases_eq}
use Rattle.std.proofs.lemmas.Nat.{div-mul-add, pow_pos}
use Rattle.std.proofs.Math.Nat.{mul-le-mul_left}
use Rattle.cqp_vector.specs.State.{weight_of, qubit_bit, with_zero}
use Rattle.cqp_vector.proofs.Pairs.{weight_positive, above}

-- a multiple of w comes out of a quotient by w
pub quotient_plus : (c w r : ℕ) → 0 < w → (c * w + r) / w ≡ c + r / w
quotient_plus c w r positive =
    let small : r % w < w = omega arith in
    let parts : r ≡ (r / w) * w + r % w = omega arith in
    let all : c * w + r ≡ (c + r / w) * w + r % w = omega arith in
    ap (λ t. t / w) all ∙ div-mul-add (c + r / w) w (r % w) small

-- what 2^t adds to bit s, where the bit t is 0
below_bit : (s d k : ℕ) → (k + 2 ^ (s + 1 + d)) / 2 ^ s % 2 ≡ k / 2 ^ s % 2
below_bit s d k =
    let w = 2 ^ s in
    let positive : 0 < 2 ^ s = pow_pos s in
    let size : 2 ^ (s + 1 + d) ≡ (2 * 2 ^ d) * 2 ^ s = pow-add 2 (s + 1) d ∙ ap (λ t. t * 2 ^ d) (pow-add 2 s 1) ∙ omega arith in
    let all : k + 2 ^ (s + 1 + d) ≡ (2 * 2 ^ d) * 2 ^ s + k = omega arith in
    ap (λ t. t / 2 ^ s % 2) all ∙ ap (λ t. t % 2) (quotient_plus (2 * 2 ^ d) (2 ^ s) k positive) ∙ omega arith

-- adding a power of two at a bit that is 0 keeps the bits above it
above_bit : (t d k : ℕ) → k / 2 ^ t % 2 ≡ 0 → (k + 2 ^ t) / 2 ^ (t + 1 + d) % 2 ≡ k / 2 ^ (t + 1 + d) % 2
above_bit t d k even =
    let size : 2 ^ (t + 1 + d) ≡ 2 ^ t * (2 * 2 ^ d) = pow-add 2 (t + 1) d ∙ ap (λ u. u * 2 ^ d) (pow-add 2 t 1) ∙ omega arith in
    let positive : 0 < 2 ^ (t + 1 + d) = pow_pos (t + 1 + d) in
    by_block (2 ^ t) (2 ^ d) (2 ^ (t + 1 + d)) k size (pow_pos t) positive even
  where
    by_block : (w m b k : ℕ) → b ≡ w * (2 * m) → 0 < w → 0 < b → k / w % 2 ≡ 0 → (k + w) / b % 2 ≡ k / b % 2
    by_block w m b k size some positive even =
        let c = k / b in
        let r = k % b in
        let small : k % b < b = omega arith in
        let parts : k ≡ (k / b) * b + k % b = omega arith in
        let wide : k ≡ ((k / b) * (2 * m)) * w + k % b = parts ∙ ap (λ t. (k / b) * t + k % b) size ∙ omega arith in
        let low : k / w ≡ (k / b) * (2 * m) + (k % b) / w = ap (λ t. t / w) wide ∙ quotient_plus ((k / b) * (2 * m)) w (k % b) some in
        let rest : (k % b) / w % 2 ≡ 0 = omega arith in
        let within : k % b < w * (2 * m) = omega arith in
        let more : k % b + w < w * (2 * m) = above w m (k % b) some within rest in
        let fits : k % b + w < b = omega arith in
        let all : k + w ≡ (k / b) * b + (k % b + w) = omega arith in
        ap (λ t. t / b % 2) all ∙ ap (λ t. t % 2) (div-mul-add (k / b) b (k % b + w) fits)

-- a change of bit t changes no other bit
pub other_bit : (s t k : ℕ) → s ≢ t → k / 2 ^ t % 2 ≡ 0 → (k + 2 ^ t) / 2 ^ s % 2 ≡ k / 2 ^ s % 2
other_bit s t k apart even = by_cases (cases_order s t)
  where
    by_cases : (s ≡ t) ⊎ ((s < t) ⊎ (t < s)) → (k + 2 ^ t) / 2 ^ s % 2 ≡ k / 2 ^ s % 2
    by_cases (inl e) = absurd (apart e)
    by_cases (inr (inl h)) =
        let e : t ≡ s + 1 + (t - s - 1) = omega arith in
        ap (λ u. (k + 2 ^ u) / 2 ^ s % 2) e ∙ below_bit s (t - s - 1) k
    by_cases (inr (inr h)) =
        let e : s ≡ t + 1 + (s - t - 1) = omega arith in
        ap (λ u. (k + 2 ^ t) / 2 ^ u % 2) e ∙ above_bit t (s - t - 1) k even ∙ ap (λ u. k / 2 ^ u % 2) (sym e)

-- ---- the pair of a place
-- a bit is 0 or 1
pub bit_cases : (n q k : ℕ) → (qubit_bit n q k ≡ 0) ⊎ (qubit_bit n q k ≡ 1)
bit_cases n q k = by_cases (cases_eq (qubit_bit n q k) 0)
  where
    by_cases : (qubit_bit n q k ≡ 0) ⊎ (qubit_bit n q k ≢ 0) → (qubit_bit n q k ≡ 0) ⊎ (qubit_bit n q k ≡ 1)
    by_cases (inl e) = inl e
    by_cases (inr e) = inr (omega arith)

-- a place is the low or the high one of its pair
pub low_place : (n q i : ℕ) → qubit_bit n q i ≡ 0 → with_zero n q i ≡ i
low_place n q i e = let f : qubit_bit n q i * weight_of n q ≡ 0 = rw e (omega arith) in omega arith

-- a place with bit 1 is the one with bit 0 and the weight
pub high_place : (n q i : ℕ) → qubit_bit n q i ≡ 1 → i ≡ with_zero n q i + weight_of n q
high_place n q i e =
    let f : qubit_bit n q i * weight_of n q ≡ weight_of n q = rw e (omega arith) in
    let positive : 0 < weight_of n q = weight_positive n q in
    let large : weight_of n q ≤ i = at_least (i / weight_of n q) (weight_of n q) i positive refl e in
    omega arith
  where
    at_least : (d w i : ℕ) → 0 < w → i / w ≡ d → i / w % 2 ≡ 1 → w ≤ i
    at_least d w i positive e odd =
        let one : 1 ≤ i / w = omega arith in
        let f : w * (i / w) + i % w ≡ i = omega arith in
        let g : w * 1 ≤ w * (i / w) = mul-le-mul_left w one in
        omega arith

-- the low place has bit 0
pub low_bit_of : (n q i : ℕ) → qubit_bit n q (with_zero n q i) ≡ 0
low_bit_of n q i = by_cases (bit_cases n q i)
  where
    odd_quotient : (w i j : ℕ) → 0 < w → i ≡ j + w → i / w % 2 ≡ 1 → j / w % 2 ≡ 0
    odd_quotient w i j positive e odd =
        let f : j + w ≡ 1 * w + j = omega arith in
        let g : i / w ≡ 1 + j / w = ap (λ t. t / w) (e ∙ f) ∙ quotient_plus 1 w j positive in
        omega arith

    by_cases : (qubit_bit n q i ≡ 0) ⊎ (qubit_bit n q i ≡ 1) → qubit_bit n q (with_zero n q i) ≡ 0
    by_cases (inl e) = ap (qubit_bit n q) (low_place n q i e) ∙ e
    by_cases (inr e) = odd_quotient (weight_of n q) i (with_zero n q i) (weight_positive n q) (high_place n q i e) e
