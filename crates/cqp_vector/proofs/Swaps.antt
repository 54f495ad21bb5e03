-- Swap is CNot there, back and there again.
use Rattle.std.proofs.Common.{◌≡◌, ◌≢◌, ℕ, ◌+◌, ◌-◌, ◌^◌, ◌<◌, List, [], ◌∷◌, length, map}
use Rattle.std.proofs.Common.{refl, sym, ap, ◌∙◌, arith, true, false, inl, inr, ◌⊎◌}
use Rattle.std.specs.Prelude.{◌==◌, ◌&&◌, if◌then◌else◌}
use Rattle.std.specs.List.{range_with_len}
use Rattle.std.proofs.lemmas.Bool.{eq-eqb}
use Rattle.std.proofs.lemmas.List.FromFn.{get_or-map-range_with_len, fill_by_all, length-map-range_with_len}
use Rattle.cqp_ring.specs.declared.amp.Amp.{Amp}
use Rattle.cqp_ring.specs.Amp.{zero_amp}
use Rattle.cqp_syntax.specs.declared.op.Op.TheVariants as op
use Rattle.cqp_vector.specs.State.{amp_at, weight_of, qubit_bit, exchanged}
use Rattle.cqp_vector.specs.Gate.{after_controlled, swapped}
use Rattle.cqp_vector.proofs.Bits.{bit_cases, high_place, low_place, low_bit_of, other_bit}
use Rattle.cqp_vector.proofs.Pairs.{partner_above}
use Rattle.cqp_vector.proofs.Partners.{partners_from, choose_low, choose_high}

-- ---- a place with one bit exchanged
-- exchanging a bit that is 0 adds its weight
exchanged_low : (n q k : ℕ) → qubit_bit n q k ≡ 0 → exchanged n q k ≡ k + weight_of n q
exchanged_low n q k e = choose_low (qubit_bit n q k) _ _ e ∙ ap (λ t. t + weight_of n q) (low_place n q k e)

-- a place with bit 1 is its partner and the bit's weight
exchanged_high : (n q k : ℕ) → qubit_bit n q k ≡ 1 → exchanged n q k + weight_of n q ≡ k
exchanged_high n q k e = ap (λ t. t + weight_of n q) (choose_high (qubit_bit n q k) _ _ e) ∙ sym (high_place n q k e)

-- exchanging a bit that is 0 makes it 1
own_low : (n q k : ℕ) → qubit_bit n q k ≡ 0 → qubit_bit n q (exchanged n q k) ≡ 1
own_low n q k e = ap (qubit_bit n q) (exchanged_low n q k e) ∙ (partners_from n q k e).high_is

-- exchanging a bit that is 1 makes it 0
own_high : (n q k : ℕ) → qubit_bit n q k ≡ 1 → qubit_bit n q (exchanged n q k) ≡ 0
own_high n q k e = ap (qubit_bit n q) (choose_high (qubit_bit n q k) _ _ e) ∙ low_bit_of n q k

-- two qubits of n have different weights
shifts_apart : (n q r : ℕ) → q < n → r < n → q ≢ r → (n - 1 - q) ≢ (n - 1 - r)
shifts_apart n q r h g apart e = apart (omega arith)

-- exchanging one bit that is 0 keeps that of another qubit
other_low : (n q r k : ℕ) → q < n → r < n → q ≢ r → qubit_bit n r k ≡ 0 → qubit_bit n q (exchanged n r k) ≡ qubit_bit n q k
other_low n q r k h g apart e = ap (qubit_bit n q) (exchanged_low n r k e) ∙ other_bit (n - 1 - q) (n - 1 - r) k (shifts_apart n q r h g apart) e

-- so does exchanging one that is 1
other_high : (n q r k : ℕ) → q < n → r < n → q ≢ r → qubit_bit n r k ≡ 1 → qubit_bit n q (exchanged n r k) ≡ qubit_bit n q k
other_high n q r k h g apart e =
    let zero : qubit_bit n r (exchanged n r k) ≡ 0 = own_high n r k e in
    sym (other_bit (n - 1 - q) (n - 1 - r) (exchanged n r k) (shifts_apart n q r h g apart) zero) ∙ ap (qubit_bit n q) (exchanged_high n r k e)

-- the partner of a place with bit 0 is a place
within_low : (n q k : ℕ) → q < n → k < 2 ^ n → qubit_bit n q k ≡ 0 → exchanged n q k < 2 ^ n
within_low n q k h small e = let f : exchanged n q k ≡ k + weight_of n q = exchanged_low n q k e in let g = partner_above n q k h small e in omega arith

-- so is that of a place with bit 1
within_high : (n q k : ℕ) → k < 2 ^ n → qubit_bit n q k ≡ 1 → exchanged n q k < 2 ^ n
within_high n q k small e = let f : exchanged n q k + weight_of n q ≡ k = exchanged_high n q k e in omega arith

-- ---- CNot at a place
-- the numerators after CNot
cnot_list : ℕ → ℕ → ℕ → List Amp → List Amp
cnot_list n q r nums = map (after_controlled op.X n (q ∷ []) r nums) (range_with_len 0 (2 ^ n))

-- the numerators after CNot, place by place
cnot_at : (n q r : ℕ) (nums : List Amp) (k : ℕ) → k < 2 ^ n → amp_at (cnot_list n q r nums) k ≡ after_controlled op.X n (q ∷ []) r nums k
unfolding cnot_list
cnot_at n q r nums k h = get_or-map-range_with_len (after_controlled op.X n (q ∷ []) r nums) 0 (2 ^ n) k k zero_amp h (omega arith)

-- where the control is 1, they are those of the target's partner
cnot_on : (n q r : ℕ) (nums : List Amp) (k : ℕ) → k < 2 ^ n → qubit_bit n q k ≡ 1 → amp_at (cnot_list n q r nums) k ≡ amp_at nums (exchanged n r k)
cnot_on n q r nums k h e = cnot_at n q r nums k h ∙ ap (λ b. if (b == 1) && true then amp_at nums (exchanged n r k) else amp_at nums k) e

-- where the control is 0, they stay
cnot_off : (n q r : ℕ) (nums : List Amp) (k : ℕ) → k < 2 ^ n → qubit_bit n q k ≡ 0 → amp_at (cnot_list n q r nums) k ≡ amp_at nums k
cnot_off n q r nums k h e = cnot_at n q r nums k h ∙ ap (λ b. if (b == 1) && true then amp_at nums (exchanged n r k) else amp_at nums k) e

-- ---- three of them
-- where the two bits agree, Swap leaves the place
swap_same : (n q r k b : ℕ) → qubit_bit n q k ≡ b → qubit_bit n r k ≡ b → swapped n q r k ≡ k
swap_same n q r k b e f =
    ap (λ t. if t == qubit_bit n r k then k else exchanged n q (exchanged n r k)) (e ∙ sym f)
    ∙ same_test (qubit_bit n r k) k (exchanged n q (exchanged n r k))
  where
    same_test : (t x y : ℕ) → (if t == t then x else y) ≡ x
    same_test t x y = ap (λ b. if b then x else y) (eq-eqb t t refl)

-- where the two bits differ, Swap exchanges both
swap_other : (n q r k a b : ℕ) → qubit_bit n q k ≡ a → qubit_bit n r k ≡ b → (a == b) ≡ false → swapped n q r k ≡ exchanged n q (exchanged n r k)
swap_other n q r k a b e f apart =
    ap (λ t. if t == qubit_bit n r k then k else exchanged n q (exchanged n r k)) e
    ∙ ap (λ t. if a == t then k else exchanged n q (exchanged n r k)) f
    ∙ ap (λ t. if t then k else exchanged n q (exchanged n r k)) apart

-- both bits exchanged, in either order
both_orders : (n q r k : ℕ) → q < n → r < n → q ≢ r → qubit_bit n q k ≡ 0 → qubit_bit n r k ≡ 1
    → exchanged n r (exchanged n q k) ≡ exchanged n q (exchanged n r k)
both_orders n q r k h g apart zero one =
    let r_stays : qubit_bit n r (exchanged n q k) ≡ 1 = other_low n r q k g h (λ e. apart (sym e)) zero ∙ one in
    let q_stays : qubit_bit n q (exchanged n r k) ≡ 0 = other_high n q r k h g apart one ∙ zero in
    let a : exchanged n q k ≡ k + weight_of n q = exchanged_low n q k zero in
    let b : exchanged n r k + weight_of n r ≡ k = exchanged_high n r k one in
    let c : exchanged n r (exchanged n q k) + weight_of n r ≡ exchanged n q k = exchanged_high n r (exchanged n q k) r_stays in
    let d : exchanged n q (exchanged n r k) ≡ exchanged n r k + weight_of n q = exchanged_low n q (exchanged n r k) q_stays in
    omega arith

-- exchanging a bit twice leaves the place
twice : (n r k : ℕ) → qubit_bit n r k ≡ 1 → exchanged n r (exchanged n r k) ≡ k
twice n r k one = exchanged_low n r (exchanged n r k) (own_high n r k one) ∙ exchanged_high n r k one

-- CNot there, back and there again is Swap
swap_at : (n q r : ℕ) (nums : List Amp) → q < n → r < n → q ≢ r → (k : ℕ) → k < 2 ^ n
    → amp_at (cnot_list n q r (cnot_list n r q (cnot_list n q r nums))) k ≡ amp_at nums (swapped n q r k)
swap_at n q r nums h g apart k small = by_cases (bit_cases n q k) (bit_cases n r k)
  where
    first : List Amp
    first = cnot_list n q r nums

    by_cases : (qubit_bit n q k ≡ 0) ⊎ (qubit_bit n q k ≡ 1) → (qubit_bit n r k ≡ 0) ⊎ (qubit_bit n r k ≡ 1)
        → amp_at (cnot_list n q r (cnot_list n r q (cnot_list n q r nums))) k ≡ amp_at nums (swapped n q r k)
    by_cases (inl e) (inl f) =
        cnot_off n q r _ k small e ∙ cnot_off n r q _ k small f ∙ cnot_off n q r nums k small e
        ∙ ap (amp_at nums) (sym (swap_same n q r k 0 e f))
    by_cases (inl e) (inr f) =
        let inside = within_low n q k h small e in
        cnot_off n q r _ k small e ∙ cnot_on n r q _ k small f ∙ cnot_on n q r nums (exchanged n q k) inside (own_low n q k e)
        ∙ ap (amp_at nums) (both_orders n q r k h g apart e f ∙ sym (swap_other n q r k 0 1 e f refl))
    by_cases (inr e) (inl f) =
        let inside = within_low n r k g small f in
        let stays : qubit_bit n q (exchanged n r k) ≡ 1 = other_low n q r k h g apart f ∙ e in
        let inner = within_high n q (exchanged n r k) inside stays in
        cnot_on n q r _ k small e ∙ cnot_on n r q _ (exchanged n r k) inside (own_low n r k f)
        ∙ cnot_off n q r nums (exchanged n q (exchanged n r k)) inner (own_high n q (exchanged n r k) stays)
        ∙ ap (amp_at nums) (sym (swap_other n q r k 1 0 e f refl))
    by_cases (inr e) (inr f) =
        let inside = within_high n r k small f in
        let stays : qubit_bit n q (exchanged n r k) ≡ 1 = other_high n q r k h g apart f ∙ e in
        cnot_on n q r _ k small e ∙ cnot_off n r q _ (exchanged n r k) inside (own_high n r k f)
        ∙ cnot_on n q r nums (exchanged n r k) inside stays
        ∙ ap (amp_at nums) (twice n r k f ∙ sym (swap_same n q r k 1 e f))

-- the three lists in turn are the swapped one
pub three_make_swap : (n q r : ℕ) (nums one two three : List Amp) → q < n → r < n → q ≢ r
    → one ≡ map (after_controlled op.X n (q ∷ []) r nums) (range_with_len 0 (2 ^ n))
    → two ≡ map (after_controlled op.X n (r ∷ []) q one) (range_with_len 0 (2 ^ n))
    → three ≡ map (after_controlled op.X n (q ∷ []) r two) (range_with_len 0 (2 ^ n))
    → three ≡ map (λ k. amp_at nums (swapped n q r k)) (range_with_len 0 (2 ^ n))
unfolding cnot_list
three_make_swap n q r nums one two three h g apart e f i =
    let all : three ≡ cnot_list n q r (cnot_list n r q (cnot_list n q r nums)) = i ∙ ap (cnot_list n q r) (f ∙ ap (cnot_list n r q) e) in
    fill_by_all (λ k. amp_at nums (swapped n q r k)) three (2 ^ n) zero_amp
    (ap length all ∙ length-map-range_with_len (after_controlled op.X n (q ∷ []) r (cnot_list n r q (cnot_list n q r nums))) 0 (2 ^ n))
    (λ k small. ap (λ t. amp_at t k) all ∙ swap_at n q r nums h g apart k small)
