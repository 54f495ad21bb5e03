-- A group's own place: how it changes with the bits of a place of all qubits.
use Rattle.std.proofs.Common.{◌≡◌, ◌≢◌, ◌⊎◌, inl, inr, ℕ, true, false, List, [], ◌∷◌, ◌==◌, ◌+◌, ◌-◌, ◌*◌, ◌/◌, ◌%◌, ◌^◌, ◌≤◌, ◌<◌, length, refl, sym, ap}
use Rattle.std.proofs.Common.{arith, ◌∙◌, ⊎_elim, pow-add}
use Rattle.std.proofs.lemmas.Bool.{cases_Bool, or_parts, eqb-true, eqb-false}
use Rattle.std.proofs.lemmas.Nat.{pow_pos}
use Rattle.std.proofs.Math.Nat.{mul_comm, mul_left_comm, div-eq_of_lt, mul-le-mul_right}
use Rattle.cqp_book.specs.Keys.{has}
use Rattle.cqp_vector.specs.State.{weight_of, qubit_bit, with_zero, with_one}
use Rattle.cqp_vector.specs.Measurement.{outcome_after, outcome_at}
use Rattle.cqp_vector.proofs.Pairs.{whole, weight_positive}
use Rattle.cqp_machine.specs.Factors.{index_of}
use Rattle.cqp_vector.proofs.Bits.{quotient_plus, other_bit, bit_cases, low_place, high_place, low_bit_of}
use Rattle.cqp_places.specs.Places.{IsDistinct, AreBelow}

-- two qubits have two weights
apart_weights : (n q r : ℕ) → q < n → r < n → q ≢ r → n - 1 - r ≢ n - 1 - q
apart_weights n q r hq hr x e = x (omega arith)

-- a bit that is put leaves the others
zero_leaves : (n q r k : ℕ) → q < n → r < n → q ≢ r → qubit_bit n r (with_zero n q k) ≡ qubit_bit n r k
zero_leaves n q r k hq hr x = ⊎_elim
    (λ (e : qubit_bit n q k ≡ 0). ap (qubit_bit n r) (low_place n q k e))
    (λ (e : qubit_bit n q k ≡ 1).
    sym (ap (qubit_bit n r) (high_place n q k e) ∙ other_bit (n - 1 - r) (n - 1 - q) (with_zero n q k) (apart_weights n q r hq hr x) (low_bit_of n q k)))
    (bit_cases n q k)

-- a 1 that is put leaves them too
one_leaves : (n q r k : ℕ) → q < n → r < n → q ≢ r → qubit_bit n r (with_one n q k) ≡ qubit_bit n r k
one_leaves n q r k hq hr x =
    other_bit (n - 1 - r) (n - 1 - q) (with_zero n q k) (apart_weights n q r hq hr x) (low_bit_of n q k) ∙ zero_leaves n q r k hq hr x

-- the bit that is put
one_bit_of : (n q k : ℕ) → qubit_bit n q (with_one n q k) ≡ 1
one_bit_of n q k = odd (weight_of n q) (with_zero n q k) (pow_pos (n - 1 - q)) (low_bit_of n q k)
  where
    odd : (w z : ℕ) → 0 < w → z / w % 2 ≡ 0 → (z + w) / w % 2 ≡ 1
    odd w z positive even =
        let e : z + w ≡ 1 * w + z = omega arith in
        ap (λ t. t / w % 2) e ∙ ap (λ t. t % 2) (quotient_plus 1 w z positive) ∙ omega arith

-- a list that is one longer has twice as many places
pub one_longer : (q : ℕ) (qs : List ℕ) → 2 ^ length (q ∷ qs) ≡ 2 * 2 ^ length qs
one_longer q qs = let up : length (q ∷ qs) ≡ 1 + length qs = omega arith in ap (λ t. 2 ^ t) up ∙ (pow-add 2 1 (length qs) ∙ omega arith)

-- the bits of a list behind a number
pub outcome_behind : (m n : ℕ) (qs : List ℕ) (k : ℕ) → outcome_after m n qs k ≡ m * 2 ^ length qs + outcome_at n qs k
outcome_behind m n [] k = omega arith
outcome_behind m n (q ∷ qs) k =
    let one = outcome_behind (2 * m + qubit_bit n q k) n qs k in
    let two = outcome_behind (2 * 0 + qubit_bit n q k) n qs k in
    let size = one_longer q qs in
    one ∙ (spread m (qubit_bit n q k) (2 ^ length qs) (2 ^ length (q ∷ qs)) (outcome_at n qs k) size ∙ ap (λ t. m * 2 ^ length (q ∷ qs) + t) (sym two))
  where
    spread : (m b p d y : ℕ) → d ≡ 2 * p → (2 * m + b) * p + y ≡ m * d + ((2 * 0 + b) * p + y)
    spread m b p d y e = rw e (omega arith)

-- the first qubit's bit is the most significant
pub outcome_first : (n q : ℕ) (qs : List ℕ) (k : ℕ) → outcome_at n (q ∷ qs) k ≡ qubit_bit n q k * 2 ^ length qs + outcome_at n qs k
outcome_first n q qs k = outcome_behind (2 * 0 + qubit_bit n q k) n qs k ∙ omega arith

-- a bit is below 2
bit_small : (n q k : ℕ) → qubit_bit n q k < 2
bit_small n q k = omega arith

-- the list's place is below as many places
pub outcome_small : (n : ℕ) (qs : List ℕ) (k : ℕ) → outcome_at n qs k < 2 ^ length qs
outcome_small n [] k = omega arith
outcome_small n (q ∷ qs) k =
    let size = one_longer q qs in
    within (qubit_bit n q k) (2 ^ length qs) (2 ^ length (q ∷ qs)) (outcome_at n qs k) (outcome_at n (q ∷ qs) k) size (bit_cases n q k) (outcome_small n qs k)
    (outcome_first n q qs k)
  where
    within : (b p d y x : ℕ) → d ≡ 2 * p → (b ≡ 0) ⊎ (b ≡ 1) → y < p → x ≡ b * p + y → x < d
    within b p d y x e (inl z) h f = let g : b * p ≡ 0 = rw z (omega arith) in omega arith
    within b p d y x e (inr z) h f = let g : b * p ≡ p = rw z (omega arith) in omega arith

-- the first bit of b p + y is b
first_bit : (b p y : ℕ) → 0 < p → y < p → (b ≡ 0) ⊎ (b ≡ 1) → (b * p + y) / p % 2 ≡ b
first_bit b p y positive h c =
    let none : y / p ≡ 0 = div_small y p h in
    ap (λ t. t % 2) (quotient_plus b p y positive) ∙ by_bit b (y / p) c none
  where
    div_small : (y p : ℕ) → y < p → y / p ≡ 0
    div_small y p h = div-eq_of_lt h

    by_bit : (b d : ℕ) → (b ≡ 0) ⊎ (b ≡ 1) → d ≡ 0 → (b + d) % 2 ≡ b
    by_bit b d (inl e) z = rw (e, z) refl
    by_bit b d (inr e) z = rw (e, z) refl

-- a bit of less weight is that of the rest
pub later_bit : (b p w d y : ℕ) → p ≡ w * (2 * d) → 0 < w → (b * p + y) / w % 2 ≡ y / w % 2
later_bit b p w d y e positive =
    let all : b * p + y ≡ (2 * (b * d)) * w + y = ap (λ t. b * t + y) e ∙ ap (λ t. t + y) (turned b w d) in
    ap (λ t. t / w % 2) all ∙ ap (λ t. t % 2) (quotient_plus (2 * (b * d)) w y positive) ∙ omega arith
  where
    turned : (b w d : ℕ) → b * (w * (2 * d)) ≡ (2 * (b * d)) * w
    turned b w d = mul_left_comm b w (2 * d) ∙ (mul_comm w (b * (2 * d)) ∙ ap (λ t. t * w) (mul_left_comm b 2 d))

-- a bit that is put, of a qubit that isn't in the list, leaves the list's place
pub zero_keeps : (n q : ℕ) (qs : List ℕ) (k : ℕ) → q < n → AreBelow n qs → has q qs ≡ false → outcome_at n qs (with_zero n q k) ≡ outcome_at n qs k
zero_keeps n q [] k hq b h = refl
zero_keeps n q (x ∷ qs) k hq b h =
    let parts = or_parts (q == x) (has q qs) h in
    let same = zero_leaves n q x k hq b.0 (eqb-false q x parts.0) in
    let rest = zero_keeps n q qs k hq b.1 parts.1 in
    outcome_first n x qs (with_zero n q k) ∙ (rw (same, rest) refl ∙ sym (outcome_first n x qs k))

-- the same of a 1 that is put
pub one_keeps : (n q : ℕ) (qs : List ℕ) (k : ℕ) → q < n → AreBelow n qs → has q qs ≡ false → outcome_at n qs (with_one n q k) ≡ outcome_at n qs k
one_keeps n q [] k hq b h = refl
one_keeps n q (x ∷ qs) k hq b h =
    let parts = or_parts (q == x) (has q qs) h in
    let same = one_leaves n q x k hq b.0 (eqb-false q x parts.0) in
    let rest = one_keeps n q qs k hq b.1 parts.1 in
    outcome_first n x qs (with_one n q k) ∙ (rw (same, rest) refl ∙ sym (outcome_first n x qs k))

-- the index is within the list
pub index_within : (q : ℕ) (qs : List ℕ) → has q qs ≡ true → index_of q qs < length qs
index_within q [] h = cc
index_within q (x ∷ qs) h = ⊎_elim
    (λ (t : (q == x) ≡ true). rw t (omega arith))
    (λ (t : (q == x) ≡ false). rw t (let later = index_within q qs (rw t at h) in omega arith))
    (cases_Bool (q == x))

-- weights in a list that is one longer
pub first_weight : (x : ℕ) (qs : List ℕ) → weight_of (length (x ∷ qs)) 0 ≡ 2 ^ length qs
first_weight x qs = let e : length (x ∷ qs) - 1 - 0 ≡ length qs = omega arith in ap (λ t. 2 ^ t) e

-- the others weigh what they weigh in the rest
pub later_weight : (x i : ℕ) (qs : List ℕ) → weight_of (length (x ∷ qs)) (i + 1) ≡ weight_of (length qs) i
later_weight x i qs = let e : length (x ∷ qs) - 1 - (i + 1) ≡ length qs - 1 - i = omega arith in ap (λ t. 2 ^ t) e

-- the bit of a qubit is that of its index in the list's place
pub first_index : (b y p w : ℕ) → w ≡ p → 0 < p → y < p → (b ≡ 0) ⊎ (b ≡ 1) → (b * p + y) / w % 2 ≡ b
first_index b y p w e positive h c = ap (λ t. (b * p + y) / t % 2) e ∙ first_bit b p y positive h c

-- so at any index
pub bit_at_index : (n q : ℕ) (qs : List ℕ) (k : ℕ) → has q qs ≡ true → qubit_bit (length qs) (index_of q qs) (outcome_at n qs k) ≡ qubit_bit n q k
bit_at_index n q [] k h = cc
bit_at_index n q (x ∷ qs) k h = ⊎_elim
    (λ (t : (q == x) ≡ true).
    let same = eqb-true q x t in
    rw (t, outcome_first n x qs k)
    (first_index (qubit_bit n x k) (outcome_at n qs k) (2 ^ length qs) (weight_of (length (x ∷ qs)) 0) (first_weight x qs) (pow_pos (length qs))
    (outcome_small n qs k) (bit_cases n x k)
    ∙ ap (λ z. qubit_bit n z k) (sym same)))
    (λ (t : (q == x) ≡ false).
    let there : has q qs ≡ true = rw t at h in
    let within = index_within q qs there in
    rw (t, outcome_first n x qs k)
    (ap (λ w. (qubit_bit n x k * 2 ^ length qs + outcome_at n qs k) / w % 2) (later_weight x (index_of q qs) qs)
    ∙ (later_bit (qubit_bit n x k) (2 ^ length qs) (weight_of (length qs) (index_of q qs)) (2 ^ index_of q qs) (outcome_at n qs k)
    (whole (length qs) (index_of q qs) within) (weight_positive (length qs) (index_of q qs))
    ∙ bit_at_index n q qs k there)))
    (cases_Bool (q == x))

-- what is behind the first bit
zero_first : (b p y c w : ℕ) → w ≡ p → c ≡ b → y ≡ (b * p + y) - c * w
zero_first b p y c w e f = rw (e, f) (omega arith)

-- a bit of the rest that is taken out of the rest
zero_later : (b p y z c d w v x : ℕ) → w ≡ v → c ≡ d → d * v ≤ y → z ≡ y - d * v → x ≡ b * p + y → b * p + z ≡ x - c * w
zero_later b p y z c d w v x e f h g k = rw (e, f, g, k) (omega arith)

-- what a bit weighs is within the place
bit_weighs : (n q k : ℕ) → qubit_bit n q k * weight_of n q ≤ k
bit_weighs n q k = within (k / weight_of n q) (weight_of n q) k (omega arith)
  where
    within : (d w k : ℕ) → d * w ≤ k → d % 2 * w ≤ k
    within d w k h = let less : d % 2 ≤ d = omega arith in let more : d % 2 * w ≤ d * w = mul-le-mul_right w less in omega arith

module _ (n q : ℕ) (hq : q < n) where
  -- a 0 that is put in the place of all qubits is put in the list's place
  pub zero_at_index : (qs : List ℕ) (k : ℕ) → AreBelow n qs → IsDistinct qs → has q qs ≡ true
      → outcome_at n qs (with_zero n q k) ≡ with_zero (length qs) (index_of q qs) (outcome_at n qs k)
  zero_at_index [] k b d h = cc
  zero_at_index (x ∷ qs) k b d h = ⊎_elim
      (λ (t : (q == x) ≡ true).
      let same = eqb-true q x t in
      let bit : qubit_bit n x (with_zero n q k) ≡ 0 = ap (λ z. qubit_bit n z (with_zero n q k)) (sym same) ∙ low_bit_of n q k in
      let rest = zero_keeps n q qs k hq b.1 (rw same d.0) in
      let left : outcome_at n (x ∷ qs) (with_zero n q k) ≡ outcome_at n qs k =
      outcome_first n x qs (with_zero n q k) ∙ (rw (bit, rest) (omega arith)) in
      rw (t, left, outcome_first n x qs k)
      (zero_first (qubit_bit n x k) (2 ^ length qs) (outcome_at n qs k) _ _ (first_weight x qs)
      (first_index (qubit_bit n x k) (outcome_at n qs k) (2 ^ length qs) (weight_of (length (x ∷ qs)) 0) (first_weight x qs) (pow_pos (length qs))
      (outcome_small n qs k) (bit_cases n x k))))
      (λ (t : (q == x) ≡ false).
      let there : has q qs ≡ true = rw t at h in
      let within = index_within q qs there in
      let same = zero_leaves n q x k hq b.0 (eqb-false q x t) in
      let left : outcome_at n (x ∷ qs) (with_zero n q k) ≡ qubit_bit n x k * 2 ^ length qs + outcome_at n qs (with_zero n q k) =
      outcome_first n x qs (with_zero n q k) ∙ ap (λ z. z * 2 ^ length qs + outcome_at n qs (with_zero n q k)) same in
      let bit : qubit_bit (length (x ∷ qs)) (index_of q qs + 1) (outcome_at n (x ∷ qs) k) ≡ qubit_bit (length qs) (index_of q qs) (outcome_at n qs k) =
      ap (qubit_bit (length (x ∷ qs)) (index_of q qs + 1)) (outcome_first n x qs k)
      ∙ (ap (λ w. (qubit_bit n x k * 2 ^ length qs + outcome_at n qs k) / w % 2) (later_weight x (index_of q qs) qs)
      ∙ later_bit (qubit_bit n x k) (2 ^ length qs) (weight_of (length qs) (index_of q qs)) (2 ^ index_of q qs) (outcome_at n qs k)
      (whole (length qs) (index_of q qs) within) (weight_positive (length qs) (index_of q qs))) in
      rw t
      (left ∙ zero_later (qubit_bit n x k) (2 ^ length qs) (outcome_at n qs k) (outcome_at n qs (with_zero n q k))
      (qubit_bit (length (x ∷ qs)) (index_of q qs + 1) (outcome_at n (x ∷ qs) k)) (qubit_bit (length qs) (index_of q qs) (outcome_at n qs k))
      (weight_of (length (x ∷ qs)) (index_of q qs + 1)) (weight_of (length qs) (index_of q qs)) (outcome_at n (x ∷ qs) k)
      (later_weight x (index_of q qs) qs) bit (bit_weighs (length qs) (index_of q qs) (outcome_at n qs k)) (zero_at_index qs k b.1 d.1 there)
      (outcome_first n x qs k)))
      (cases_Bool (q == x))

  -- the weight of the index
  pub one_at_index : (qs : List ℕ) (k : ℕ) → AreBelow n qs → IsDistinct qs → has q qs ≡ true
      → outcome_at n qs (with_one n q k) ≡ outcome_at n qs (with_zero n q k) + weight_of (length qs) (index_of q qs)
  one_at_index [] k b d h = cc
  one_at_index (x ∷ qs) k b d h = ⊎_elim
      (λ (t : (q == x) ≡ true).
      let same = eqb-true q x t in
      let low : qubit_bit n x (with_zero n q k) ≡ 0 = ap (λ z. qubit_bit n z (with_zero n q k)) (sym same) ∙ low_bit_of n q k in
      let high : qubit_bit n x (with_one n q k) ≡ 1 = ap (λ z. qubit_bit n z (with_one n q k)) (sym same) ∙ one_bit_of n q k in
      let rest = zero_keeps n q qs k hq b.1 (rw same d.0) in
      let rest_too = one_keeps n q qs k hq b.1 (rw same d.0) in
      let left : outcome_at n (x ∷ qs) (with_one n q k) ≡ 2 ^ length qs + outcome_at n qs k =
      outcome_first n x qs (with_one n q k) ∙ (rw (high, rest_too) (omega arith)) in
      let right : outcome_at n (x ∷ qs) (with_zero n q k) ≡ outcome_at n qs k =
      outcome_first n x qs (with_zero n q k) ∙ (rw (low, rest) (omega arith)) in
      rw (t, left, right, first_weight x qs) (omega arith))
      (λ (t : (q == x) ≡ false).
      let there : has q qs ≡ true = rw t at h in
      let low = zero_leaves n q x k hq b.0 (eqb-false q x t) in
      let high = one_leaves n q x k hq b.0 (eqb-false q x t) in
      let left : outcome_at n (x ∷ qs) (with_one n q k) ≡ qubit_bit n x k * 2 ^ length qs + outcome_at n qs (with_one n q k) =
      outcome_first n x qs (with_one n q k) ∙ ap (λ z. z * 2 ^ length qs + outcome_at n qs (with_one n q k)) high in
      let right : outcome_at n (x ∷ qs) (with_zero n q k) ≡ qubit_bit n x k * 2 ^ length qs + outcome_at n qs (with_zero n q k) =
      outcome_first n x qs (with_zero n q k) ∙ ap (λ z. z * 2 ^ length qs + outcome_at n qs (with_zero n q k)) low in
      rw (t, left, right, later_weight x (index_of q qs) qs) (omega (arith, one_at_index qs k b.1 d.1 there)))
      (cases_Bool (q == x))

  -- so is a 1
  pub one_of_index : (qs : List ℕ) (k : ℕ) → AreBelow n qs → IsDistinct qs → has q qs ≡ true
      → outcome_at n qs (with_one n q k) ≡ with_one (length qs) (index_of q qs) (outcome_at n qs k)
  one_of_index qs k b d h = one_at_index qs k b d h ∙ ap (λ t. t + weight_of (length qs) (index_of q qs)) (zero_at_index qs k b d h)
