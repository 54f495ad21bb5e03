-- Sums of norms fit, part by part of a list.
use Rattle.std.proofs.Common.{◌≡◌, ℕ, zero, suc, ◌+◌, ◌*◌, ◌^◌, ◌<◌, ◌≤◌, List, [], ◌∷◌, ◌++◌, take, length, refl}
use Rattle.std.proofs.Common.{arith, sym, ap, ◌∙◌, ◌≢◌, ◌/◌, ◌%◌, inl, inr, ◌⊎◌, true}
use Rattle.std.specs.List.{list_all}
use Rattle.std.proofs.lemmas.Bool.{and_parts, not-true, eqb-false}
use Rattle.cqp_ring.specs.Parity.{has_even_sum}
use Rattle.cqp_ring.proofs.Parities.{rest_cases}
use Rattle.std.specs.Prelude.{ℤ, pos, nat_abs, ◌+ℤ◌, ◌-ℤ◌, ◌*ℤ◌, ◌≤ℤ◌}
use Rattle.std.proofs.lemmas.Int.{ints, unsigned_abs-mul}
use Rattle.std.proofs.lemmas.List.{take_more}
use Rattle.cqp_ring.specs.declared.amp.Amp.{Amp}
use Rattle.cqp_ring.specs.Root.{RootFits, norm_of, norm_sum, root_sum, zero_root}
use Rattle.cqp_ring.specs.Amp.{zero_amp}
use Rattle.cqp_ring.proofs.NormOrder.{twice_product}
use Rattle.cqp_vector.specs.State.{amp_at}
use Rattle.cqp_vector.proofs.Bounds.{squares_of, all_squares, norm_is_squares, norm_sum_is_squares, one_within}
use Rattle.cqp_ring.proofs.Integers.{same_root}
use Rattle.cqp_ring.proofs.OrderSums.{zero-sum, sum-zero}
use Rattle.cqp_vector.proofs.Sums.{root_sum_assoc}

-- the part with root 2 is at most the whole part
root_part_small : (x : Amp) → nat_abs (norm_of x).q ≤ squares_of x
root_part_small x =
    let f : nat_abs (norm_of x).q ≤ nat_abs (x.a *ℤ x.b) + nat_abs (x.b *ℤ x.c) + nat_abs (x.c *ℤ x.d) + nat_abs (x.d *ℤ x.a) =
    four_parts (x.a *ℤ x.b) (x.b *ℤ x.c) (x.c *ℤ x.d) (x.d *ℤ x.a) in
    let e = unsigned_abs-mul x.a x.b in
    let g = unsigned_abs-mul x.b x.c in
    let h = unsigned_abs-mul x.c x.d in
    let i = unsigned_abs-mul x.d x.a in
    let p = twice_product (nat_abs x.a) (nat_abs x.b) in
    let q = twice_product (nat_abs x.b) (nat_abs x.c) in
    let r = twice_product (nat_abs x.c) (nat_abs x.d) in
    let s = twice_product (nat_abs x.d) (nat_abs x.a) in
    omega (arith, e, f, g, h, i, p, q, r, s)
  where
    four_parts : (x y z t : ℤ) → nat_abs (x +ℤ y +ℤ z -ℤ t) ≤ nat_abs x + nat_abs y + nat_abs z + nat_abs t
    four_parts x y z t = omega (arith, ints)

-- the part of root 2 of a norm is at most all squares
root_parts_small : (xs : List Amp) → nat_abs (norm_sum xs).q ≤ all_squares xs
unfolding all_squares
root_parts_small [] = omega arith
root_parts_small (x ∷ xs) =
    let f = root_part_small x in
    let g = root_parts_small xs in
    let h = two_parts (norm_of x).q (norm_sum xs).q in
    omega (arith, f, g, h)
  where
    two_parts : (x y : ℤ) → nat_abs (x +ℤ y) ≤ nat_abs x + nat_abs y
    two_parts x y = omega (arith, ints)

-- squares of at most 2^91 make a norm that fits
pub fits_by_squares : (xs : List Amp) → all_squares xs ≤ 2 ^ 91 → RootFits (norm_sum xs)
fits_by_squares xs h =
    let e = norm_sum_is_squares xs in
    let g = root_parts_small xs in
    record { p_fits = omega (arith, ints, e); q_fits = omega (arith, ints, g) }

-- a whole part of at most 2^90 bounds all squares
pub squares_within : (xs : List Amp) → (norm_sum xs).p ≤ℤ pos (2 ^ 90) → all_squares xs ≤ 2 ^ 90
squares_within xs bound = let e = norm_sum_is_squares xs in omega (arith, ints, e)

-- the first numerators have no more squares than all
pub take_squares : (i : ℕ) (xs : List Amp) → all_squares (take i xs) ≤ all_squares xs
unfolding all_squares
take_squares zero xs = omega arith
take_squares (suc i) [] = omega arith
take_squares (suc i) (x ∷ xs) = let h = take_squares i xs in omega arith

-- the norm of each numerator fits
pub one_fits : (xs : List Amp) (k : ℕ) → (norm_sum xs).p ≤ℤ pos (2 ^ 90) → RootFits (norm_of (amp_at xs k))
one_fits xs k bound =
    let most = squares_within xs bound in
    let within = one_within xs k in
    let e = norm_is_squares (amp_at xs k) in
    let g = root_part_small (amp_at xs k) in
    record { p_fits = omega (arith, ints, e); q_fits = omega (arith, ints, g) }

-- norms add along lists
pub norm_sum_append : (xs ys : List Amp) → norm_sum (xs ++ ys) ≡ root_sum (norm_sum xs) (norm_sum ys)
norm_sum_append [] ys = sym (zero-sum (norm_sum ys))
norm_sum_append (x ∷ xs) ys = ap (root_sum (norm_of x)) (norm_sum_append xs ys) ∙ sym (root_sum_assoc (norm_of x) (norm_sum xs) (norm_sum ys))

-- one more numerator adds its norm
pub norm_sum_push : (xs : List Amp) (x : Amp) → norm_sum (xs ++ x ∷ []) ≡ root_sum (norm_sum xs) (norm_of x)
norm_sum_push xs x = norm_sum_append xs (x ∷ []) ∙ ap (root_sum (norm_sum xs)) (sum-zero (norm_of x))

-- one numerator more
pub norm_sum_more : (xs : List Amp) (i : ℕ) → i < length xs → root_sum (norm_sum (take i xs)) (norm_of (amp_at xs i)) ≡ norm_sum (take (i + 1) xs)
norm_sum_more xs i less = sym (ap norm_sum (take_more xs i zero_amp less) ∙ norm_sum_push (take i xs) (amp_at xs i))

-- the norm of the first numerators fits
pub take_fits : (xs : List Amp) (i : ℕ) → (norm_sum xs).p ≤ℤ pos (2 ^ 90) → RootFits (norm_sum (take i xs))
take_fits xs i bound =
    let most = squares_within xs bound in
    let part = take_squares i xs in
    fits_by_squares (take i xs) (omega arith)

-- ---- a norm of at most 1, where all sums are even
-- a square is odd exactly where its root is
square_rest : (n : ℕ) → n * n % 2 ≡ n % 2
square_rest n = by_cases (rest_cases n)
  where
    by_cases : (n % 2 ≡ 1) ⊎ (n % 2 ≡ 0) → n * n % 2 ≡ n % 2
    by_cases (inl e) = let f : n ≡ 2 * (n / 2) + 1 = omega arith in let g : n * n ≡ (2 * (n / 2) + 1) * (2 * (n / 2) + 1) = ap (λ t. t * n) f
        ∙ ap (λ t. (2 * (n / 2) + 1) * t) f in omega arith
    by_cases (inr e) = let f : n ≡ 2 * (n / 2) = omega arith in let g : n * n ≡ 2 * (n / 2) * n = ap (λ t. t * n) f in omega arith

-- the squares of a numerator are odd together exactly where its parts are
squares_rest : (x : Amp) → squares_of x % 2 ≡ nat_abs (x.a +ℤ x.b +ℤ x.c +ℤ x.d) % 2
squares_rest x =
    let a = square_rest (nat_abs x.a) in
    let b = square_rest (nat_abs x.b) in
    let c = square_rest (nat_abs x.c) in
    let d = square_rest (nat_abs x.d) in
    let ab = rest_of_sum x.a x.b (nat_abs x.a * nat_abs x.a) (nat_abs x.b * nat_abs x.b) a b in
    let abc = rest_of_sum (x.a +ℤ x.b) x.c _ (nat_abs x.c * nat_abs x.c) ab c in
    rest_of_sum (x.a +ℤ x.b +ℤ x.c) x.d _ (nat_abs x.d * nat_abs x.d) abc d
  where
    rest_of_sum : (x y : ℤ) (m n : ℕ) → m % 2 ≡ nat_abs x % 2 → n % 2 ≡ nat_abs y % 2 → (m + n) % 2 ≡ nat_abs (x +ℤ y) % 2
    rest_of_sum x y m n e f = omega (arith, ints, e, f)

-- an even sum has even squares
even_rest : (x : Amp) → has_even_sum x ≡ true → squares_of x % 2 ≡ 0
even_rest x e =
    let f : nat_abs (x.a +ℤ x.b +ℤ x.c +ℤ x.d) % 2 ≢ 1 = eqb-false _ 1 (not-true _ e) in
    let g = squares_rest x in
    omega arith

-- so for a list
even_squares : (xs : List Amp) → list_all has_even_sum xs ≡ true → all_squares xs % 2 ≡ 0
unfolding all_squares
even_squares [] e = refl
even_squares (x ∷ xs) e =
    let t = and_parts _ _ e in
    let f = even_rest x t.0 in
    let g = even_squares xs t.1 in
    omega arith

-- numerators without squares have norm 0
pub none_by_squares : (xs : List Amp) → all_squares xs ≡ 0 → norm_sum xs ≡ zero_root
none_by_squares xs e =
    let f = norm_sum_is_squares xs in
    let g = root_parts_small xs in
    same_root (omega (arith, ints, f)) (omega (arith, ints, g))

-- where the exponent is 0, some numerator has an odd sum
pub even_has_exponent : (xs : List Amp) → (norm_sum xs).p ≤ℤ pos 1 → norm_sum xs ≢ zero_root → list_all has_even_sum xs ≡ true → ⊥
even_has_exponent xs bound some e =
    let f = norm_sum_is_squares xs in
    let g = even_squares xs e in
    let most : all_squares xs ≤ 1 = omega (arith, ints, f) in
    some (none_by_squares xs (omega arith))
