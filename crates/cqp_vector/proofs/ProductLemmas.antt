-- Products of two lists of numerators: place by place, and their norm.
use Rattle.std.proofs.Common.{◌≡◌, ◌≢◌, ℕ, zero, suc, ◌+◌, ◌*◌, ◌/◌, ◌%◌, ◌^◌, ◌<◌, ◌≤◌, List, [], ◌∷◌, length}
use Rattle.std.proofs.Common.{map, refl, sym, ap, ◌∙◌, arith, subst, pow-add, length-append, inl}
use Rattle.std.specs.Prelude.{ℤ, nat_abs, ◌+ℤ◌, ◌-ℤ◌, ◌*ℤ◌, FitsSigned}
use Rattle.std.specs.Int.{w128}
use Rattle.std.proofs.lemmas.Int.{ints, unsigned_abs-mul}
use Rattle.std.proofs.lemmas.List.{length-map, get_or_append_left, get_or-append-add, get_or-map}
use Rattle.std.proofs.lemmas.List.FromFn.{fill_by_all}
use Rattle.std.proofs.Math.Nat.{mul-le-mul, div-lt_iff_lt-mul}
use Rattle.cqp_ring.specs.declared.amp.Amp.{Amp}
use Rattle.cqp_ring.specs.declared.root.Root.{Root}
use Rattle.cqp_ring.specs.Amp.{AmpFits, amp_product, zero_amp}
use Rattle.cqp_ring.specs.Root.{IsAtLeastZero, IsAtMost, norm_of, norm_sum, root_sum, root_product, root_conjugate, zero_root}
use Rattle.cqp_ring.specs.Weight.{power_root}
use Rattle.cqp_ring.proofs.NormLemmas.{norm_of-product}
use Rattle.cqp_ring.proofs.NormOrder.{root_conjugate-product}
use Rattle.cqp_ring.proofs.OrderSums.{at_most_along}
use Rattle.cqp_ring.proofs.OrderProducts.{at_least_product, at_most_times, cancelled, root_product_comm, root_product_distributes}
use Rattle.cqp_vector.specs.State.{amp_at}
use Rattle.cqp_vector.specs.Group.{IsSmall, IsWithin, product_at, product_of}
use Rattle.cqp_vector.proofs.LeastLemmas.{IsSound}
use Rattle.cqp_vector.proofs.Levels.{products}
use Rattle.cqp_ring.proofs.Integers.{same_root}
use Rattle.cqp_vector.proofs.SumBounds.{norm_sum_append}

-- ---- what fits
-- the product of small parts is at most 2^90
product_small : (x y : ℤ) → nat_abs x ≤ 2 ^ 45 → nat_abs y ≤ 2 ^ 45 → nat_abs (x *ℤ y) ≤ 2 ^ 90
product_small x y h g =
    let e = unsigned_abs-mul x y in
    let f : nat_abs x * nat_abs y ≤ 2 ^ 45 * 2 ^ 45 = mul-le-mul {n₁ = nat_abs x} {m₁ = nat_abs y} {n₂ = 2 ^ 45} {m₂ = 2 ^ 45} h g in
    omega (arith, e, f)

-- a number of at most 2^90 less three others fits in 128 bits
fits_less : (x y z t : ℤ) → nat_abs x ≤ 2 ^ 90 → nat_abs y ≤ 2 ^ 90 → nat_abs z ≤ 2 ^ 90 → nat_abs t ≤ 2 ^ 90 → FitsSigned w128 (x -ℤ y -ℤ z -ℤ t)
fits_less x y z t a b c d = omega (arith, ints)

-- so does the sum of two less two others
fits_two : (x y z t : ℤ) → nat_abs x ≤ 2 ^ 90 → nat_abs y ≤ 2 ^ 90 → nat_abs z ≤ 2 ^ 90 → nat_abs t ≤ 2 ^ 90 → FitsSigned w128 (x +ℤ y -ℤ z -ℤ t)
fits_two x y z t a b c d = omega (arith, ints)

-- so does the sum of three less one
fits_three : (x y z t : ℤ) → nat_abs x ≤ 2 ^ 90 → nat_abs y ≤ 2 ^ 90 → nat_abs z ≤ 2 ^ 90 → nat_abs t ≤ 2 ^ 90 → FitsSigned w128 (x +ℤ y +ℤ z -ℤ t)
fits_three x y z t a b c d = omega (arith, ints)

-- so does the sum of four
fits_all : (x y z t : ℤ) → nat_abs x ≤ 2 ^ 90 → nat_abs y ≤ 2 ^ 90 → nat_abs z ≤ 2 ^ 90 → nat_abs t ≤ 2 ^ 90 → FitsSigned w128 (x +ℤ y +ℤ z +ℤ t)
fits_all x y z t a b c d = omega (arith, ints)

-- the product of small numerators fits
pub product_fits : (x y : Amp) → IsSmall x → IsSmall y → AmpFits (amp_product x y)
product_fits x y f g = record {
  a_fits = fits_less (x.a *ℤ y.a) (x.b *ℤ y.d) (x.c *ℤ y.c) (x.d *ℤ y.b) (product_small x.a y.a f.a_small g.a_small) (product_small x.b y.d f.b_small g.d_small)
      (product_small x.c y.c f.c_small g.c_small) (product_small x.d y.b f.d_small g.b_small);
  b_fits = fits_two (x.a *ℤ y.b) (x.b *ℤ y.a) (x.c *ℤ y.d) (x.d *ℤ y.c) (product_small x.a y.b f.a_small g.b_small) (product_small x.b y.a f.b_small g.a_small)
      (product_small x.c y.d f.c_small g.d_small) (product_small x.d y.c f.d_small g.c_small);
  c_fits = fits_three (x.a *ℤ y.c) (x.b *ℤ y.b) (x.c *ℤ y.a) (x.d *ℤ y.d) (product_small x.a y.c f.a_small g.c_small)
      (product_small x.b y.b f.b_small g.b_small)
      (product_small x.c y.a f.c_small g.a_small) (product_small x.d y.d f.d_small g.d_small);
  d_fits = fits_all (x.a *ℤ y.d) (x.b *ℤ y.c) (x.c *ℤ y.b) (x.d *ℤ y.a) (product_small x.a y.d f.a_small g.d_small) (product_small x.b y.c f.b_small g.c_small)
      (product_small x.c y.b f.c_small g.b_small) (product_small x.d y.a f.d_small g.a_small);
}

-- ---- place by place
-- there are as many products as pairs
pub products-length : (xs ys : List Amp) → length (products xs ys) ≡ length xs * length ys
products-length [] ys = omega arith
products-length (x ∷ xs) ys =
    let e = products-length xs ys in
    let f = length-append (map (amp_product x) ys) (products xs ys) in
    let g = length-map ys (amp_product x) in
    omega (arith, e, f, g)

-- the product at row i and column j
row_at : (xs ys : List Amp) (i j : ℕ) → i < length xs → j < length ys → amp_at (products xs ys) (i * length ys + j) ≡ amp_product (amp_at xs i) (amp_at ys j)
row_at [] ys i j h g = absurd (omega arith)
row_at (x ∷ xs) ys zero j h g =
    let same : length (map (amp_product x) ys) ≡ length ys = length-map ys (amp_product x) in
    let first : zero * length ys + j ≡ j = omega arith in
    ap (amp_at (products (x ∷ xs) ys)) first
    ∙ get_or_append_left (map (amp_product x) ys) (products xs ys) zero_amp j (omega arith)
    ∙ get_or-map (amp_product x) ys j zero_amp zero_amp g
row_at (x ∷ xs) ys (suc i) j h g =
    let same : length (map (amp_product x) ys) ≡ length ys = length-map ys (amp_product x) in
    let later : suc i * length ys + j ≡ length (map (amp_product x) ys) + (i * length ys + j) = omega arith in
    ap (amp_at (products (x ∷ xs) ys)) later
    ∙ get_or-append-add (map (amp_product x) ys) (products xs ys) (i * length ys + j) zero_amp
    ∙ row_at xs ys i j (omega arith) g

-- the product at each place
place_at : (xs ys : List Amp) (k : ℕ) → k < length xs * length ys → amp_at (products xs ys) k ≡ product_at xs ys k
place_at xs ys k h = by_size (length ys) refl
  where
    quotient_below : (k m n : ℕ) → k < n * suc m → k / suc m < n
    quotient_below k m n less = (div-lt_iff_lt-mul (omega arith)).1 less

    by_size : (m : ℕ) → length ys ≡ m → amp_at (products xs ys) k ≡ product_at xs ys k
    by_size zero e = let f : length xs * length ys ≡ length xs * 0 = ap (λ t. length xs * t) e in absurd (omega arith)
    by_size (suc m) e =
        let positive : 0 < length ys = omega arith in
        let less : k < length xs * suc m = subst (λ t. k < length xs * t) e h in
        let row : k / length ys < length xs = subst (λ t. k / t < length xs) (sym e) (quotient_below k m (length xs) less) in
        let column : k % length ys < length ys = omega arith in
        let parts : k ≡ k / length ys * length ys + k % length ys = omega arith in
        ap (amp_at (products xs ys)) parts ∙ row_at xs ys (k / length ys) (k % length ys) row column

-- rows one after another are the product place by place
pub products_are : (xs ys : List Amp) → products xs ys ≡ product_of xs ys
products_are xs ys = fill_by_all (product_at xs ys) (products xs ys) (length xs * length ys) zero_amp (products-length xs ys) (place_at xs ys)

-- ---- norms
-- a norm times 0 is 0
times_zero : (r : Root) → root_product r zero_root ≡ zero_root
times_zero r = same_root (omega (arith, ints)) (omega (arith, ints))

-- the norm of a row is the factor's norm times the list's
row_norm : (x : Amp) (ys : List Amp) → norm_sum (map (amp_product x) ys) ≡ root_product (norm_of x) (norm_sum ys)
row_norm x [] = sym (times_zero (norm_of x))
row_norm x (y ∷ ys) =
    ap (λ t. root_sum t (norm_sum (map (amp_product x) ys))) (norm_of-product x y)
    ∙ ap (root_sum (root_product (norm_of x) (norm_of y))) (row_norm x ys)
    ∙ sym (root_product_distributes (norm_of x) (norm_of y) (norm_sum ys))

-- the norm of a product is the product of the norms
pub products_norm : (xs ys : List Amp) → norm_sum (products xs ys) ≡ root_product (norm_sum xs) (norm_sum ys)
products_norm [] ys = sym (root_product_comm zero_root (norm_sum ys) ∙ times_zero (norm_sum ys))
products_norm (x ∷ xs) ys =
    norm_sum_append (map (amp_product x) ys) (products xs ys)
    ∙ ap (λ t. root_sum t (norm_sum (products xs ys))) (row_norm x ys ∙ root_product_comm (norm_of x) (norm_sum ys))
    ∙ ap (root_sum (root_product (norm_sum ys) (norm_of x))) (products_norm xs ys ∙ root_product_comm (norm_sum xs) (norm_sum ys))
    ∙ sym (root_product_distributes (norm_sum ys) (norm_of x) (norm_sum xs))
    ∙ root_product_comm (norm_sum ys) (root_sum (norm_of x) (norm_sum xs))

-- ---- bounds
-- a power of two is at least zero
power_at_least : (k : ℕ) → IsAtLeastZero (power_root k)
power_at_least k = inl (omega (arith, ints), omega (arith, ints))

-- powers of two multiply by adding exponents
powers_product : (h k : ℕ) → root_product (power_root k) (power_root h) ≡ power_root (h + k)
powers_product h k = same_root (omega (arith, ints, pow-add 2 h k)) (omega (arith, ints))

-- bounds of norms multiply
product_at_most : (r s : Root) (h k : ℕ) → IsAtLeastZero r → IsAtMost r (power_root h) → IsAtMost s (power_root k)
    → IsAtMost (root_product r s) (power_root (h + k))
product_at_most r s h k positive most more =
    let first : IsAtMost (root_product r s) (root_product r (power_root k)) = at_most_times s (power_root k) r more positive in
    let second : IsAtMost (root_product (power_root k) r) (root_product (power_root k) (power_root h)) =
    at_most_times r (power_root h) (power_root k) most (power_at_least k) in
    at_most_along (root_product r s) (root_product r (power_root k)) (power_root (h + k)) first
    (subst (IsAtMost (root_product r (power_root k))) (powers_product h k) (subst (λ t. IsAtMost t (root_product (power_root k) (power_root h)))
    (root_product_comm (power_root k) r) second))

-- so do both bounds under both signs
within_product : (r s : Root) (h k : ℕ) → IsWithin r h → IsWithin s k → IsWithin (root_product r s) (h + k)
within_product r s h k u v = record {
  at_least = at_least_product r s u.at_least v.at_least;
  at_most = product_at_most r s h k u.at_least u.at_most v.at_most;
  other_at_least = subst IsAtLeastZero (sym (root_conjugate-product r s))
      (at_least_product (root_conjugate r) (root_conjugate s) u.other_at_least v.other_at_least);
  other_at_most = subst (λ t. IsAtMost t (power_root (h + k))) (sym (root_conjugate-product r s))
      (product_at_most (root_conjugate r) (root_conjugate s) h k u.other_at_least u.other_at_most v.other_at_most);
}

-- a product of norms that aren't 0 isn't 0
product_not_zero : (r s : Root) → r ≢ zero_root → s ≢ zero_root → root_product r s ≢ zero_root
product_not_zero r s n m e = m (cancelled r s zero_root n (e ∙ sym (times_zero r)))

-- the product of sound numerators is sound at the sum of the exponents
pub sound_products : (m n : ℕ) (xs ys : List Amp) (h k : ℕ) → IsSound (2 ^ m) xs h → IsSound (2 ^ n) ys k → IsSound (2 ^ (m + n)) (products xs ys) (h + k)
sound_products m n xs ys h k s t = record {
  whole = products-length xs ys ∙ ap (λ u. u * length ys) s.whole ∙ ap (λ u. 2 ^ m * u) t.whole ∙ sym (pow-add 2 m n);
  nonzero = subst (λ u. u ≢ zero_root) (sym (products_norm xs ys)) (product_not_zero (norm_sum xs) (norm_sum ys) s.nonzero t.nonzero);
  bound = subst (λ u. IsWithin u (h + k)) (sym (products_norm xs ys)) (within_product (norm_sum xs) (norm_sum ys) h k s.bound t.bound);
}
