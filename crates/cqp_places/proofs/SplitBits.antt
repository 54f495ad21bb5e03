-- Places by their bits.
use Rattle.std.proofs.lemmas.List.{length-map}
use Rattle.std.proofs.lemmas.Nat.{pow_pos}
use Rattle.std.proofs.Math.Nat.{div-lt_iff_lt-mul}
use Rattle.cqp_vector.specs.State.{weight_of, amp_at, qubit_bit}
use Rattle.cqp_vector.proofs.Pairs.{whole, weight_positive}
use Rattle.cqp_places.proofs.PlaceLemmas.{one_longer, first_weight, later_weight, later_bit, index_within, outcome_first, outcome_small}
use Rattle.cqp_places.specs.Places.{IsDistinct}
use Rattle.std.proofs.Common.{◌≡◌, ◌⊎◌, inl, inr, ℕ, true, false, List, [], ◌∷◌, ◌==◌, ◌+◌, ◌*◌, ◌/◌, ◌%◌, ◌^◌, ◌<◌, if◌then◌else◌, length, map, refl, sym, ap}
use Rattle.std.proofs.Common.{subst, arith, eq-eqb, ◌∙◌, ⊎_elim}
use Rattle.std.proofs.lemmas.Bool.{cases_Bool, or_left, or_right, eqb-true, both_ways, false_from_ne_true}
use Rattle.cqp_ring.specs.declared.amp.Amp.{Amp}
use Rattle.cqp_ring.specs.Amp.{zero_amp}
use Rattle.cqp_book.specs.Keys.{has}
use Rattle.cqp_vector.specs.Measurement.{outcome_at, outcome_after}
use Rattle.cqp_machine.specs.Factors.{index_of, bit_in, with_bits, alone_with}
use Rattle.cqp_vector.proofs.Bits.{bit_cases}

-- a place tells its first bit and the rest of it
pub same_parts : (x z p y w : ℕ) → (x ≡ 0) ⊎ (x ≡ 1) → (z ≡ 0) ⊎ (z ≡ 1) → y < p → w < p → x * p + y ≡ z * p + w → (x ≡ z) × (y ≡ w)
same_parts x z p y w (inl a) (inl b) h j e = let f : x * p ≡ 0 = rw a (omega arith) in let g : z * p ≡ 0 = rw b (omega arith) in (a ∙ sym b, omega arith)
same_parts x z p y w (inr a) (inr b) h j e = let f : x * p ≡ p = rw a (omega arith) in let g : z * p ≡ p = rw b (omega arith) in (a ∙ sym b, omega arith)
same_parts x z p y w (inl a) (inr b) h j e = let f : x * p ≡ 0 = rw a (omega arith) in let g : z * p ≡ p = rw b (omega arith) in absurd (omega arith)
same_parts x z p y w (inr a) (inl b) h j e = let f : x * p ≡ p = rw a (omega arith) in let g : z * p ≡ 0 = rw b (omega arith) in absurd (omega arith)

-- lists' places that are equal have equal bits
pub bits_told : (n : ℕ) (qs : List ℕ) (a b : ℕ) → outcome_at n qs a ≡ outcome_at n qs b → (q : ℕ) → has q qs ≡ true → qubit_bit n q a ≡ qubit_bit n q b
bits_told n [] a b e q h = cc
bits_told n (x ∷ qs) a b e q h =
    let parts = same_parts (qubit_bit n x a) (qubit_bit n x b) (2 ^ length qs) (outcome_at n qs a) (outcome_at n qs b) (bit_cases n x a) (bit_cases n x b)
    (outcome_small n qs a) (outcome_small n qs b) (sym (outcome_first n x qs a) ∙ (e ∙ outcome_first n x qs b)) in
    ⊎_elim
    (λ (t : (q == x) ≡ true). rw (eqb-true q x t) parts.0)
    (λ (t : (q == x) ≡ false). bits_told n qs a b parts.1 q (rw t at h))
    (cases_Bool (q == x))

-- bits put together are the place
pub bits_together : (m n : ℕ) (qs : List ℕ) (k : ℕ) (f : ℕ → ℕ) → ((q : ℕ) → has q qs ≡ true → f q ≡ qubit_bit n q k)
    → with_bits m (map f qs) ≡ outcome_after m n qs k
bits_together m n [] k f h = refl
bits_together m n (q ∷ qs) k f h =
    ap (λ x. with_bits (2 * m + x) (map f qs)) (h q (or_left (q == q) (has q qs) (eq-eqb q q refl)))
    ∙ bits_together (2 * m + qubit_bit n q k) n qs k f (λ r t. h r (or_right (r == q) (has r qs) t))

-- the numerator of a qubit by itself
pub alone_at : (x : Amp) (h q b v : ℕ) → (b ≡ 0) ⊎ (b ≡ 1) → (v ≡ 0) ⊎ (v ≡ 1) → amp_at (alone_with x h q b).nums v ≡ (if b == v then x else zero_amp)
alone_at x h q b v (inl e) (inl f) = rw (e, f) refl
alone_at x h q b v (inl e) (inr f) = rw (e, f) refl
alone_at x h q b v (inr e) (inl f) = rw (e, f) refl
alone_at x h q b v (inr e) (inr f) = rw (e, f) refl

-- bits behind a number
pub bits_behind : (m : ℕ) (bs : List ℕ) → with_bits m bs ≡ m * 2 ^ length bs + with_bits 0 bs
bits_behind m [] = omega arith
bits_behind m (b ∷ bs) =
    let one = bits_behind (2 * m + b) bs in
    let two = bits_behind (2 * 0 + b) bs in
    one ∙ (spread m b (2 ^ length bs) (2 ^ length (b ∷ bs)) (with_bits 0 bs) (one_longer b bs) ∙ ap (λ t. m * 2 ^ length (b ∷ bs) + t) (sym two))
  where
    spread : (m x p d y : ℕ) → d ≡ 2 * p → (2 * m + x) * p + y ≡ m * d + ((2 * 0 + x) * p + y)
    spread m x p d y e = rw e (omega arith)

-- functions that agree on a list give one list
pub same_map : (f g : ℕ → ℕ) (qs : List ℕ) → ((q : ℕ) → has q qs ≡ true → f q ≡ g q) → map f qs ≡ map g qs
same_map f g [] h = refl
same_map f g (q ∷ qs) h =
    let first = h q (or_left (q == q) (has q qs) (eq-eqb q q refl)) in
    let rest = same_map f g qs (λ r t. h r (or_right (r == q) (has r qs) t)) in
    λ i. first i ∷ rest i

-- the quotient of a number below twice p by p is a bit
pub quotient_small : (x p : ℕ) → 0 < p → x < 2 * p → x / p < 2
quotient_small x p positive h = (div-lt_iff_lt-mul positive).1 h

-- a list's place is the number of its own bits
pub own_bits : (qs : List ℕ) → IsDistinct qs → (x : ℕ) → x < 2 ^ length qs → with_bits 0 (map (λ q. bit_in qs q x) qs) ≡ x
own_bits [] d x h = omega arith
own_bits (q ∷ qs) d x h =
    let p = 2 ^ length qs in
    let positive : 0 < 2 ^ length qs = pow_pos (length qs) in
    let within : x < 2 * 2 ^ length qs = subst (λ n. x < n) (one_longer q qs) h in
    let small = quotient_small x (2 ^ length qs) positive within in
    let rest_small : x % 2 ^ length qs < 2 ^ length qs = omega arith in
    let parts : x ≡ x / 2 ^ length qs * 2 ^ length qs + x % 2 ^ length qs = omega arith in
    let first : bit_in (q ∷ qs) q x ≡ x / 2 ^ length qs =
    let here : (q == q) ≡ true = eq-eqb q q refl in
    rw here (ap (λ w. x / w % 2) (first_weight q qs) ∙ omega arith) in
    let later : map (λ r. bit_in (q ∷ qs) r x) qs ≡ map (λ r. bit_in qs r (x % 2 ^ length qs)) qs =
    same_map (λ r. bit_in (q ∷ qs) r x) (λ r. bit_in qs r (x % 2 ^ length qs)) qs (λ r t.
    let other : (r == q) ≡ false = false_from_ne_true (r == q) (λ z. both_ways (has q qs) d.0 (subst (λ y. has y qs ≡ true) (eqb-true r q z) t)) in
    let within_index = index_within r qs t in
    rw other
    (ap (λ w. x / w % 2) (later_weight q (index_of r qs) qs)
    ∙ (ap (λ y. y / weight_of (length qs) (index_of r qs) % 2) parts
    ∙ later_bit (x / 2 ^ length qs) (2 ^ length qs) (weight_of (length qs) (index_of r qs)) (2 ^ index_of r qs) (x % 2 ^ length qs)
    (whole (length qs) (index_of r qs) within_index) (weight_positive (length qs) (index_of r qs))))) in
    let count : length (map (λ r. bit_in (q ∷ qs) r x) qs) ≡ length qs = length-map qs (λ r. bit_in (q ∷ qs) r x) in
    bits_behind (2 * 0 + bit_in (q ∷ qs) q x) (map (λ r. bit_in (q ∷ qs) r x) qs)
    ∙ (combined (bit_in (q ∷ qs) q x) (x / 2 ^ length qs) (2 ^ length (map (λ r. bit_in (q ∷ qs) r x) qs)) (2 ^ length qs)
    (with_bits 0 (map (λ r. bit_in (q ∷ qs) r x) qs)) (x % 2 ^ length qs) first (ap (λ t. 2 ^ t) count)
    (ap (with_bits 0) later ∙ own_bits qs d.1 (x % 2 ^ length qs) rest_small) ∙ sym parts)
  where
    combined : (b c d p y z : ℕ) → b ≡ c → d ≡ p → y ≡ z → (2 * 0 + b) * d + y ≡ c * p + z
    combined b c d p y z e f g = rw (e, f, g) (omega arith)
