-- Places that are made of bits, and the bits of places.
use Rattle.std.proofs.Common.{◌≡◌, ◌⊎◌, inl, inr, ℕ, zero, suc, ◌+◌, ◌-◌, ◌*◌, ◌/◌, ◌%◌, ◌^◌, ◌<◌, List, [], ◌∷◌, length}
use Rattle.std.proofs.Common.{refl, sym, ap, ◌∙◌, arith, subst, true, false, pow-add, ⊎_elim}
use Rattle.std.proofs.Math.Nat.{mul_comm, mul_left_comm, div-eq_of_lt, div-div-eq-div-mul}
use Rattle.std.specs.Prelude.{slice_index, ◌==◌, ◌||◌, Bool}
use Rattle.std.specs.List.{range_with_len}
use Rattle.std.proofs.lemmas.Bool.{or_left, or_right, eqb-true, eq-eqb}
use Rattle.std.proofs.lemmas.Nat.{pow_pos}
use Rattle.cqp_vector.specs.State.{qubit_bit, weight_of}
use Rattle.cqp_vector.specs.Measurement.{outcome_after}
use Rattle.cqp_syntax.specs.Lists.{stands_in}
use Rattle.cqp_vector.specs.Products.{place_after, place_with, AreBits}
use Rattle.cqp_vector.proofs.Bits.{quotient_plus}
use Rattle.cqp_vector.proofs.Pairs.{whole, weight_positive}
use Rattle.cqp_vector.proofs.OutcomeCounts.{twice_power}

-- one qubit more makes twice as many places
pub one_longer : (q : ℕ) (qs : List ℕ) → 2 ^ length (q ∷ qs) ≡ 2 * 2 ^ length qs
one_longer q qs = let up : length (q ∷ qs) ≡ 1 + length qs = omega arith in ap (λ t. 2 ^ t) up ∙ (pow-add 2 1 (length qs) ∙ omega arith)

-- a bit is 0 or 1
pub bit_is : (b : ℕ) → b < 2 → (b ≡ 0) ⊎ (b ≡ 1)
bit_is zero h = inl refl
bit_is (suc zero) h = inr refl
bit_is (suc (suc b)) h = absurd (omega arith)

-- bits behind a number
pub place_behind : (b : ℕ → ℕ) (m : ℕ) (qs : List ℕ) → place_after b m qs ≡ m * 2 ^ length qs + place_with b qs
place_behind b m [] = omega arith
place_behind b m (q ∷ qs) =
    let one = place_behind b (2 * m + b q) qs in
    let two = place_behind b (2 * 0 + b q) qs in
    one ∙ (spread m (b q) (2 ^ length qs) (2 ^ length (q ∷ qs)) (place_with b qs) (one_longer q qs) ∙ ap (λ t. m * 2 ^ length (q ∷ qs) + t) (sym two))
  where
    spread : (m x p d y : ℕ) → d ≡ 2 * p → (2 * m + x) * p + y ≡ m * d + ((2 * 0 + x) * p + y)
    spread m x p d y e = rw e (omega arith)

-- the first qubit's bit is the most significant
pub place_first : (b : ℕ → ℕ) (q : ℕ) (qs : List ℕ) → place_with b (q ∷ qs) ≡ b q * 2 ^ length qs + place_with b qs
place_first b q qs = place_behind b (2 * 0 + b q) qs ∙ omega arith

-- a bit in front keeps a place below as many
front_within : (b p d y x : ℕ) → d ≡ 2 * p → (b ≡ 0) ⊎ (b ≡ 1) → y < p → x ≡ b * p + y → x < d
front_within b p d y x e (inl z) h f = let g : b * p ≡ 0 = rw z (omega arith) in omega arith
front_within b p d y x e (inr z) h f = let g : b * p ≡ p = rw z (omega arith) in omega arith

-- a place is below as many as there are
pub place_small : (b : ℕ → ℕ) → AreBits b → (qs : List ℕ) → place_with b qs < 2 ^ length qs
place_small b bits [] = omega arith
place_small b bits (q ∷ qs) =
    front_within (b q) (2 ^ length qs) (2 ^ length (q ∷ qs)) (place_with b qs) (place_with b (q ∷ qs)) (one_longer q qs) (bit_is (b q) (bits q))
    (place_small b bits qs) (place_first b q qs)

-- equal bits make equal places
pub same_places : (b c : ℕ → ℕ) (m : ℕ) (qs : List ℕ) → ((q : ℕ) → stands_in qs q ≡ true → b q ≡ c q) → place_after b m qs ≡ place_after c m qs
same_places b c m [] e = refl
same_places b c m (q ∷ qs) e =
    ap (λ t. place_after b (2 * m + t) qs) (e q (or_left (q == q) (stands_in qs q) (eq-eqb q q refl)))
    ∙ same_places b c (2 * m + c q) qs (λ r s. e r (or_right (r == q) (stands_in qs r) s))

-- the parts of two places that are equal
pub same_parts : (x z p y w : ℕ) → (x ≡ 0) ⊎ (x ≡ 1) → (z ≡ 0) ⊎ (z ≡ 1) → y < p → w < p → x * p + y ≡ z * p + w → (x ≡ z) × (y ≡ w)
same_parts x z p y w (inl a) (inl b) h j e = let f : x * p ≡ 0 = rw a (omega arith) in let g : z * p ≡ 0 = rw b (omega arith) in (a ∙ sym b, omega arith)
same_parts x z p y w (inr a) (inr b) h j e = let f : x * p ≡ p = rw a (omega arith) in let g : z * p ≡ p = rw b (omega arith) in (a ∙ sym b, omega arith)
same_parts x z p y w (inl a) (inr b) h j e = let f : x * p ≡ 0 = rw a (omega arith) in let g : z * p ≡ p = rw b (omega arith) in absurd (omega arith)
same_parts x z p y w (inr a) (inl b) h j e = let f : x * p ≡ p = rw a (omega arith) in let g : z * p ≡ 0 = rw b (omega arith) in absurd (omega arith)

-- one of two tests that pass together passes
pub or_cases : (s t : Bool) → (s || t) ≡ true → (s ≡ true) ⊎ (t ≡ true)
or_cases true t h = inl refl
or_cases false t h = inr h

-- equal places have equal bits
pub same_bits : (b c : ℕ → ℕ) → AreBits b → AreBits c → (qs : List ℕ) → place_with b qs ≡ place_with c qs → (q : ℕ) → stands_in qs q ≡ true → b q ≡ c q
same_bits b c bb cb [] e q h = let f : false ≡ true = h in cc
same_bits b c bb cb (x ∷ qs) e q h =
    let parts = same_parts (b x) (c x) (2 ^ length qs) (place_with b qs) (place_with c qs) (bit_is (b x) (bb x)) (bit_is (c x) (cb x))
    (place_small b bb qs) (place_small c cb qs) (sym (place_first b x qs) ∙ (e ∙ place_first c x qs)) in
    ⊎_elim
    (λ (s : (q == x) ≡ true). subst (λ y. b y ≡ c y) (sym (eqb-true q x s)) parts.0)
    (λ (s : stands_in qs q ≡ true). same_bits b c bb cb qs parts.1 q s)
    (or_cases (q == x) (stands_in qs q) h)

-- the outcome of a place is the place of its bits
pub outcome_is : (m n : ℕ) (qs : List ℕ) (k : ℕ) → outcome_after m n qs k ≡ place_after (λ p. qubit_bit n p k) m qs
outcome_is m n [] k = refl
outcome_is m n (q ∷ qs) k = outcome_is (2 * m + qubit_bit n q k) n qs k

-- a number is the place of its own bits
pub own_bits : (n k r a m : ℕ) → a + r ≡ n → m ≡ k / 2 ^ r → place_after (λ p. qubit_bit n p k) m (range_with_len a r) ≡ k
own_bits n k zero a m e f = f ∙ omega arith
own_bits n k (suc r) a m e f =
    let shift : n - 1 - a ≡ r = omega arith in
    let bit : qubit_bit n a k ≡ k / 2 ^ r % 2 = ap (λ t. k / 2 ^ t % 2) shift in
    let half : m ≡ k / 2 ^ r / 2 = f ∙ (ap (λ t. k / t) (twice_power r ∙ mul_comm 2 (2 ^ r)) ∙ sym (div-div-eq-div-mul k (2 ^ r) 2)) in
    own_bits n k r (a + 1) (2 * m + qubit_bit n a k) (omega arith) (rw (half, bit) (omega arith))

-- the place of the qubits' bits is that of the bits by their places in the list
pub by_places : (b f : ℕ → ℕ) (qs : List ℕ) (a m : ℕ) → ((i : ℕ) → i < length qs → f (a + i) ≡ b (slice_index qs i))
    → place_after f m (range_with_len a (length qs)) ≡ place_after b m qs
by_places b f [] a m e = refl
by_places b f (q ∷ qs) a m e =
    let here : a ≡ a + 0 = omega arith in
    let first : f a ≡ b q = ap f here ∙ e 0 (omega arith) in
    ap (λ t. place_after f (2 * m + t) (range_with_len (a + 1) (length qs))) first
    ∙ by_places b f qs (a + 1) (2 * m + b q) (λ i h. let next : a + 1 + i ≡ a + suc i = omega arith in ap f next ∙ e (suc i) (omega arith))

-- the first bit of b p + y
first_bit : (b p y w : ℕ) → w ≡ p → 0 < p → y < p → (b ≡ 0) ⊎ (b ≡ 1) → (b * p + y) / w % 2 ≡ b
first_bit b p y w e positive h c =
    let none : y / p ≡ 0 = div-eq_of_lt h in
    ap (λ t. (b * p + y) / t % 2) e ∙ (ap (λ t. t % 2) (quotient_plus b p y positive) ∙ by_bit b (y / p) c none)
  where
    by_bit : (b d : ℕ) → (b ≡ 0) ⊎ (b ≡ 1) → d ≡ 0 → (b + d) % 2 ≡ b
    by_bit b d (inl e) z = rw (e, z) refl
    by_bit b d (inr e) z = rw (e, z) refl

-- a bit of less weight is that of the rest
later_bit : (b p w d y : ℕ) → p ≡ w * (2 * d) → 0 < w → (b * p + y) / w % 2 ≡ y / w % 2
later_bit b p w d y e positive =
    let all : b * p + y ≡ (2 * (b * d)) * w + y = ap (λ t. b * t + y) e ∙ ap (λ t. t + y) (turned b w d) in
    ap (λ t. t / w % 2) all ∙ (ap (λ t. t % 2) (quotient_plus (2 * (b * d)) w y positive) ∙ omega arith)
  where
    turned : (b w d : ℕ) → b * (w * (2 * d)) ≡ (2 * (b * d)) * w
    turned b w d = mul_left_comm b w (2 * d) ∙ (mul_comm w (b * (2 * d)) ∙ ap (λ t. t * w) (mul_left_comm b 2 d))

-- the bits of a place are those that it was made of
pub bit_of_place : (b : ℕ → ℕ) → AreBits b → (qs : List ℕ) (i : ℕ) → i < length qs → qubit_bit (length qs) i (place_with b qs) ≡ b (slice_index qs i)
bit_of_place b bits [] i h = absurd (omega arith)
bit_of_place b bits (q ∷ qs) zero h =
    let shift : length (q ∷ qs) - 1 - 0 ≡ length qs = omega arith in
    ap (λ k. k / weight_of (length (q ∷ qs)) 0 % 2) (place_first b q qs)
    ∙ first_bit (b q) (2 ^ length qs) (place_with b qs) (weight_of (length (q ∷ qs)) 0) (ap (λ t. 2 ^ t) shift) (pow_pos (length qs))
    (place_small b bits qs) (bit_is (b q) (bits q))
bit_of_place b bits (q ∷ qs) (suc i) h =
    let less : i < length qs = omega arith in
    let shift : length (q ∷ qs) - 1 - suc i ≡ length qs - 1 - i = omega arith in
    ap (λ k. k / weight_of (length (q ∷ qs)) (suc i) % 2) (place_first b q qs)
    ∙ (ap (λ t. (b q * 2 ^ length qs + place_with b qs) / 2 ^ t % 2) shift
    ∙ (later_bit (b q) (2 ^ length qs) (weight_of (length qs) i) (2 ^ i) (place_with b qs) (whole (length qs) i less) (weight_positive (length qs) i)
    ∙ bit_of_place b bits qs i less))
