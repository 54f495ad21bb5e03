-- Parities of sums and products, and the pattern of a numerator.
use Rattle.std.proofs.Common.{◌≡◌, ◌≢◌, ℕ, ◌+◌, ◌*◌, ◌/◌, ◌%◌, Bool, true, false, refl, ◌∙◌, ap, arith}
use Rattle.std.proofs.Common.{inl, inr, ◌⊎◌}
use Rattle.std.specs.Prelude.{◌==◌, ◌&&◌, ℤ, nat_abs, ◌+ℤ◌, ◌-ℤ◌, ◌*ℤ◌}
use Rattle.std.proofs.lemmas.Bool.{cases_eq}
use Rattle.std.proofs.lemmas.Int.{ints, unsigned_abs-mul}
use Rattle.cqp_ring.specs.Parity.{is_odd}
use Rattle.cqp_ring.proofs.Patterns.{differ}

-- ---- one number
-- an odd number passes the test
odd_from : (n : ℕ) → n % 2 ≡ 1 → (n % 2 == 1) ≡ true
odd_from n e = rw e refl

-- an even number isn't odd
even_from : (n : ℕ) → n % 2 ≡ 0 → (n % 2 == 1) ≡ false
even_from n e = rw e refl

-- a number is odd or even
pub rest_cases : (n : ℕ) → (n % 2 ≡ 1) ⊎ (n % 2 ≡ 0)
rest_cases n = by_cases (cases_eq (n % 2) 1)
  where
    by_cases : (n % 2 ≡ 1) ⊎ (n % 2 ≢ 1) → (n % 2 ≡ 1) ⊎ (n % 2 ≡ 0)
    by_cases (inl e) = inl e
    by_cases (inr e) = inr (omega arith)

-- the parity of a number that is told by two others
told : (f : Bool → Bool → Bool) (m n k : ℕ)
    → (m % 2 ≡ 1 → n % 2 ≡ 1 → (k % 2 == 1) ≡ f true true)
    → (m % 2 ≡ 1 → n % 2 ≡ 0 → (k % 2 == 1) ≡ f true false)
    → (m % 2 ≡ 0 → n % 2 ≡ 1 → (k % 2 == 1) ≡ f false true)
    → (m % 2 ≡ 0 → n % 2 ≡ 0 → (k % 2 == 1) ≡ f false false)
    → (k % 2 == 1) ≡ f (m % 2 == 1) (n % 2 == 1)
told f m n k oo oe eo ee = by_cases (rest_cases m) (rest_cases n)
  where
    by_cases : (m % 2 ≡ 1) ⊎ (m % 2 ≡ 0) → (n % 2 ≡ 1) ⊎ (n % 2 ≡ 0) → (k % 2 == 1) ≡ f (m % 2 == 1) (n % 2 == 1)
    by_cases (inl e) (inl g) = rw (e, g) (oo e g)
    by_cases (inl e) (inr g) = rw (e, g) (oe e g)
    by_cases (inr e) (inl g) = rw (e, g) (eo e g)
    by_cases (inr e) (inr g) = rw (e, g) (ee e g)

-- a sum is odd exactly where the parities differ
pub odd_of_sum : (x y : ℤ) → is_odd (x +ℤ y) ≡ differ (is_odd x) (is_odd y)
odd_of_sum x y = told differ (nat_abs x) (nat_abs y) (nat_abs (x +ℤ y))
    (λ e g. even_from _ (omega (arith, ints)))
    (λ e g. odd_from _ (omega (arith, ints)))
    (λ e g. odd_from _ (omega (arith, ints)))
    (λ e g. even_from _ (omega (arith, ints)))

-- so is a difference
pub odd_of_difference : (x y : ℤ) → is_odd (x -ℤ y) ≡ differ (is_odd x) (is_odd y)
odd_of_difference x y = told differ (nat_abs x) (nat_abs y) (nat_abs (x -ℤ y))
    (λ e g. even_from _ (omega (arith, ints)))
    (λ e g. odd_from _ (omega (arith, ints)))
    (λ e g. odd_from _ (omega (arith, ints)))
    (λ e g. even_from _ (omega (arith, ints)))

-- products of rests
odd_odd : (m n : ℕ) → m % 2 ≡ 1 → n % 2 ≡ 1 → m * n % 2 ≡ 1
odd_odd m n e g =
    let f : m ≡ 2 * (m / 2) + 1 = omega arith in
    let h : n ≡ 2 * (n / 2) + 1 = omega arith in
    rw (ap (λ t. t * n) f ∙ ap (λ t. (2 * (m / 2) + 1) * t) h) (omega arith)

-- an even left factor makes the product even
even_left : (m n : ℕ) → m % 2 ≡ 0 → m * n % 2 ≡ 0
even_left m n e =
    let f : m ≡ 2 * (m / 2) = omega arith in
    rw (ap (λ t. t * n) f) (omega arith)

-- so does an even right factor
even_right : (m n : ℕ) → n % 2 ≡ 0 → m * n % 2 ≡ 0
even_right m n e =
    let f : n ≡ 2 * (n / 2) = omega arith in
    rw (ap (λ t. m * t) f) (omega arith)

-- a product is odd exactly where both factors are
pub odd_of_product : (x y : ℤ) → is_odd (x *ℤ y) ≡ (is_odd x && is_odd y)
odd_of_product x y = ap (λ t. t % 2 == 1) (unsigned_abs-mul x y)
    ∙ told (λ p q. p && q) (nat_abs x) (nat_abs y) (nat_abs x * nat_abs y)
    (λ e g. odd_from _ (odd_odd _ _ e g))
    (λ e g. even_from _ (even_right _ _ g))
    (λ e g. even_from _ (even_left _ _ e))
    (λ e g. even_from _ (even_left _ _ e))
