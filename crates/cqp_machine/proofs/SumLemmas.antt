-- Sums over the numbers below n.
use Rattle.std.proofs.Common.{◌≡◌, ◌≢◌, ℕ, zero, suc, ◌==◌, ◌+◌, ◌≤◌, ◌<◌, if◌then◌else◌, refl, sym, ap, arith, eq-eqb, ne_eqb, ◌∙◌}
use mathlib.Core.Logic.{dite}
use native.Mathlib.Decide.{ℕ_discrete}
use Rattle.cqp_machine.specs.Sums.{sum_below}

-- a function without what it has at i
abbrev pub but : ℕ → (ℕ → ℕ) → ℕ → ℕ
but i f g = if g == i then 0 else f g

-- sums of functions that agree below n are equal
pub same_sum : (n : ℕ) (f h : ℕ → ℕ) → ((g : ℕ) → g < n → f g ≡ h g) → sum_below n f ≡ sum_below n h
same_sum zero f h e = refl
same_sum (suc n) f h e =
    let first = same_sum n f h (λ g t. e g (omega arith)) in
    let last = e n (omega arith) in
    rw (first, last) refl

-- a sum is one summand and the sum of the others
pub sum_out : (n i : ℕ) (f : ℕ → ℕ) → i < n → sum_below n f ≡ f i + sum_below n (but i f)
sum_out zero i f h = absurd (omega arith)
sum_out (suc n) i f h = dite (ℕ_discrete n i)
    (λ (e : n ≡ i).
    let same = same_sum n f (but i f) (λ g t. sym (rw (ne_eqb g i (λ z. omega arith)) refl)) in
    let last : but i f n ≡ 0 = rw (eq-eqb n i e) refl in
    let here : f n ≡ f i = ap f e in
    omega arith)
    (λ (e : n ≢ i).
    let later = sum_out n i f (omega arith) in
    let last : but i f n ≡ f n = rw (ne_eqb n i e) refl in
    omega arith)

-- sums that differ in one summand alone
pub sum_changed : (n i : ℕ) (f h : ℕ → ℕ) → i < n → ((g : ℕ) → g ≢ i → h g ≡ f g) → sum_below n h + f i ≡ sum_below n f + h i
sum_changed n i f h below same =
    let one = sum_out n i f below in
    let two = sum_out n i h below in
    let rest = same_sum n (but i h) (but i f) (λ g t. dite (ℕ_discrete g i)
    (λ (e : g ≡ i).
    let left : but i h g ≡ 0 = rw (eq-eqb g i e) refl in
    let right : but i f g ≡ 0 = rw (eq-eqb g i e) refl in
    left ∙ sym right)
    (λ (e : g ≢ i).
    let left : but i h g ≡ h g = rw (ne_eqb g i e) refl in
    let right : but i f g ≡ f g = rw (ne_eqb g i e) refl in
    left ∙ (same g e ∙ sym right))) in
    omega arith

-- two sums are the sum of both
pub sum_both : (n : ℕ) (f g : ℕ → ℕ) → sum_below n f + sum_below n g ≡ sum_below n (λ i. f i + g i)
sum_both zero f g = refl
sum_both (suc n) f g = let e = sum_both n f g in omega arith

-- numbers that count nothing change no sum
pub sum_longer : (n k : ℕ) (f : ℕ → ℕ) → ((j : ℕ) → n ≤ j → f j ≡ 0) → sum_below (n + k) f ≡ sum_below n f
sum_longer n zero f h = let e : n + 0 ≡ n = omega arith in ap (λ t. sum_below t f) e
sum_longer n (suc k) f h =
    let e : n + suc k ≡ suc (n + k) = omega arith in
    let last = h (n + k) (omega arith) in
    let first = sum_longer n k f h in
    ap (λ t. sum_below t f) e ∙ omega arith

-- a summand is at most the sum
pub sum_at : (n i : ℕ) (f : ℕ → ℕ) → i < n → f i ≤ sum_below n f
sum_at n i f h = let e = sum_out n i f h in omega arith

-- a sum of lesser summands is at most the other
pub sum_within : (n : ℕ) (f g : ℕ → ℕ) → ((j : ℕ) → j < n → f j ≤ g j) → sum_below n f ≤ sum_below n g
sum_within zero f g h = omega arith
sum_within (suc n) f g h =
    let first = sum_within n f g (λ j t. h j (omega arith)) in
    let last = h n (omega arith) in
    omega arith

-- a sum of ones is how many they are
pub sum_ones : (n : ℕ) → sum_below n (λ j. 1) ≡ n
sum_ones zero = refl
sum_ones (suc n) = let e = sum_ones n in omega arith

-- a sum without two of its summands
pub sum_two_gone : (n i j : ℕ) (f h : ℕ → ℕ) → i < n → j < n → j ≢ i → h i ≡ 0 → h j ≡ 0 → ((k : ℕ) → k ≢ i → k ≢ j → h k ≡ f k)
    → sum_below n h + f i + f j ≡ sum_below n f
sum_two_gone n i j f h low high apart none none_too same =
    let here : but i f i ≡ 0 = rw (eq-eqb i i refl) refl in
    let other : but i f j ≡ f j = rw (ne_eqb j i apart) refl in
    let first = sum_changed n i f (but i f) low (λ k x. rw (ne_eqb k i x) refl) in
    let second = sum_changed n j (but i f) h high (λ k x. dite (ℕ_discrete k i)
    (λ (e : k ≡ i). ap h e ∙ (none ∙ sym (ap (but i f) e ∙ here)))
    (λ (e : k ≢ i). same k e x ∙ sym (rw (ne_eqb k i e) refl))) in
    omega arith
