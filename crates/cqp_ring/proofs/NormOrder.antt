-- Norms are at least zero, under both signs of root 2.
use Rattle.std.proofs.Common.{◌≡◌, ℕ, ◌+◌, ◌*◌, ◌-◌, ◌<◌, ◌≤◌, arith, ap, inl, inr, ◌⊎◌}
use Rattle.std.proofs.lemmas.Bool.{cases_lt}
use Rattle.std.specs.Prelude.{ℤ, pos, nat_abs, ◌+ℤ◌, ◌-ℤ◌, ◌*ℤ◌, ◌≤ℤ◌}
use Rattle.std.proofs.lemmas.Int.{ints, unsigned_abs-mul}
use Rattle.std.proofs.Math.Nat.{mul-le-mul}
use Rattle.cqp_ring.specs.declared.amp.Amp.{Amp}
use Rattle.cqp_ring.specs.declared.root.Root.{Root}
use Rattle.cqp_ring.specs.Root.{IsAtLeastZero, norm_of, root_conjugate, root_product}
use Rattle.cqp_ring.proofs.Integers.{same_root, distributed}
use Rattle.cqp_ring.proofs.OrderLemmas.{abs_negative, square_is, whole_at_least}
use Rattle.cqp_ring.proofs.OrderSums.{abs_sum}

-- twice a product is at most the squares
pub twice_product : (m n : ℕ) → 2 * (m * n) ≤ m * m + n * n
twice_product m n = by_order (le_total m n)
  where
    le_total : (m n : ℕ) → ((d : ℕ) × (n ≡ m + d)) ⊎ ((d : ℕ) × (m ≡ n + d))
    le_total m n = by_cases (cases_lt m n)
      where
        by_cases : (m < n) ⊎ (n ≤ m) → ((d : ℕ) × (n ≡ m + d)) ⊎ ((d : ℕ) × (m ≡ n + d))
        by_cases (inl h) = inl (n - m, omega arith)
        by_cases (inr h) = inr (m - n, omega arith)

    by_order : ((d : ℕ) × (n ≡ m + d)) ⊎ ((d : ℕ) × (m ≡ n + d)) → 2 * (m * n) ≤ m * m + n * n
    by_order (inl (d, e)) = rw e (omega arith)
    by_order (inr (d, e)) = rw e (omega arith)

-- a sum of two products is at most what the squares allow
two_products : (b d u v : ℕ) → (b * u + d * v) * (b * u + d * v) ≤ (b * b + d * d) * (u * u + v * v)
two_products b d u v =
    let h : 2 * ((b * v) * (d * u)) ≤ (b * v) * (b * v) + (d * u) * (d * u) = twice_product (b * v) (d * u) in
    omega arith

-- four times a product is at most the square of the sum
mean_square : (s t : ℕ) → 4 * (s * t) ≤ (s + t) * (s + t)
mean_square s t = let h = twice_product s t in omega arith

-- the part with root 2, from sums and differences of the others
root_part : (x : Amp) → (norm_of x).q ≡ x.b *ℤ (x.a +ℤ x.c) +ℤ x.d *ℤ (x.c -ℤ x.a)
root_part x = simp distributed (omega (arith, ints))

-- the squares of sum and difference are together twice those of the numbers
sum_of_squares : (a c : ℤ) → nat_abs (a +ℤ c) * nat_abs (a +ℤ c) + nat_abs (c -ℤ a) * nat_abs (c -ℤ a) ≡ 2 * (nat_abs a * nat_abs a + nat_abs c * nat_abs c)
sum_of_squares a c = by_parts _ _ _ _ (square_is (a +ℤ c)) (square_is (c -ℤ a)) (square_is a) (square_is c)
    (simp distributed (omega (arith, ints)))
  where
    by_parts : (s t u v : ℕ) → (a +ℤ c) *ℤ (a +ℤ c) ≡ pos s → (c -ℤ a) *ℤ (c -ℤ a) ≡ pos t → a *ℤ a ≡ pos u → c *ℤ c ≡ pos v
        → (a +ℤ c) *ℤ (a +ℤ c) +ℤ (c -ℤ a) *ℤ (c -ℤ a) ≡ (a *ℤ a +ℤ c *ℤ c) +ℤ (a *ℤ a +ℤ c *ℤ c) → s + t ≡ 2 * (u + v)
    by_parts s t u v e f g h i = let j = rw (e, f, g, h) at i in omega (arith, ints, j)

-- the part of root 2 of a norm is at most b times a + c, and d times c - a, in absolute value
root_part_within : (x : Amp) → nat_abs (norm_of x).q ≤ nat_abs x.b * nat_abs (x.a +ℤ x.c) + nat_abs x.d * nat_abs (x.c -ℤ x.a)
root_part_within x =
    let e : nat_abs (norm_of x).q ≡ nat_abs (x.b *ℤ (x.a +ℤ x.c) +ℤ x.d *ℤ (x.c -ℤ x.a)) = ap nat_abs (root_part x) in
    let f = abs_sum (x.b *ℤ (x.a +ℤ x.c)) (x.d *ℤ (x.c -ℤ x.a)) in
    let g = unsigned_abs-mul x.b (x.a +ℤ x.c) in
    let h = unsigned_abs-mul x.d (x.c -ℤ x.a) in
    omega (arith, e, f, g, h)

-- the squares of both parts
squares_lead : (q b d u v s : ℕ) → q ≤ b * u + d * v → u * u + v * v ≡ 2 * s → 2 * (q * q) ≤ (s + (b * b + d * d)) * (s + (b * b + d * d))
squares_lead q b d u v s h e =
    let f : q * q ≤ (b * u + d * v) * (b * u + d * v) = mul-le-mul {n₁ = q} {m₁ = q} {n₂ = b * u + d * v} {m₂ = b * u + d * v} h h in
    let g = two_products b d u v in
    let i : (b * b + d * d) * (u * u + v * v) ≡ (b * b + d * d) * (2 * s) = ap (λ t. (b * b + d * d) * t) e in
    let j = mean_square s (b * b + d * d) in
    omega arith

-- the whole part of a norm is the sum of four squares
squares_of_parts : (x : Amp) → (norm_of x).p
    ≡ pos ((nat_abs x.a * nat_abs x.a + nat_abs x.c * nat_abs x.c) + (nat_abs x.b * nat_abs x.b + nat_abs x.d * nat_abs x.d))
squares_of_parts x = rw (square_is x.a, square_is x.b, square_is x.c, square_is x.d) (omega (arith, ints))

-- twice the square of the part of root 2 is at most the square of the whole part
squared : (x : Amp) → 2 * (nat_abs (norm_of x).q * nat_abs (norm_of x).q) ≤ nat_abs (norm_of x).p * nat_abs (norm_of x).p
squared x =
    let e : nat_abs (norm_of x).p ≡ (nat_abs x.a * nat_abs x.a + nat_abs x.c * nat_abs x.c) +
    (nat_abs x.b * nat_abs x.b + nat_abs x.d * nat_abs x.d) = ap nat_abs (squares_of_parts x) in
    rw e (squares_lead (nat_abs (norm_of x).q) (nat_abs x.b) (nat_abs x.d) (nat_abs (x.a +ℤ x.c)) (nat_abs (x.c -ℤ x.a))
    (nat_abs x.a * nat_abs x.a + nat_abs x.c * nat_abs x.c)
    (root_part_within x) (sum_of_squares x.a x.c))

-- the whole part of a norm isn't negative
whole_not_negative : (x : Amp) → pos 0 ≤ℤ (norm_of x).p
whole_not_negative x = let e = squares_of_parts x in omega (arith, ints, e)

-- no norm of a numerator is negative
pub norm_at_least_zero : (x : Amp) → IsAtLeastZero (norm_of x)
norm_at_least_zero x = whole_at_least (norm_of x) (record { sign = whole_not_negative x; squares = squared x })

-- nor is it under the other sign of root 2
pub norm_conjugate_at_least_zero : (x : Amp) → IsAtLeastZero (root_conjugate (norm_of x))
norm_conjugate_at_least_zero x = whole_at_least (root_conjugate (norm_of x)) (record {
  sign = whole_not_negative x;
  squares = rw (abs_negative (norm_of x).q) (squared x);
})

-- the other sign of root 2 goes along products
pub root_conjugate-product : (x y : Root) → root_conjugate (root_product x y) ≡ root_product (root_conjugate x) (root_conjugate y)
root_conjugate-product x y = same_root (simp distributed (omega (arith, ints))) (simp distributed (omega (arith, ints)))
