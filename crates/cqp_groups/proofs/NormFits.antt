-- The products of the groups' norms fit.
use Rattle.std.proofs.Common.{◌≡◌, ℕ, zero, suc, ◌+◌, ◌*◌, ◌-◌, ◌^◌, ◌≤◌, List, [], ◌∷◌, Option, Some, None, length, true, false, Bool, if◌then◌else◌}
use Rattle.std.proofs.Common.{refl, ap, subst, ◌∙◌, arith}
use Rattle.std.specs.List.{list_all}
use Rattle.std.specs.Prelude.{ℤ, pos, nat_abs, ◌+ℤ◌, ◌-ℤ◌, ◌*ℤ◌, ◌≤ℤ◌}
use Rattle.std.proofs.lemmas.Int.{ints, unsigned_abs-mul}
use Rattle.std.proofs.Math.Pow.{pow_mono}
use Rattle.cqp_ring.specs.declared.amp.Amp.{Amp}
use Rattle.cqp_ring.specs.declared.root.Root.{Root}
use Rattle.cqp_ring.specs.Parity.{has_even_sum}
use Rattle.cqp_ring.specs.Root.{RootFits, norm_of, norm_sum, root_product}
use Rattle.cqp_ring.proofs.NormOrder.{twice_product}
use Rattle.cqp_vector.proofs.Bounds.{squares_of, all_squares, norm_sum_is_squares}
use Rattle.cqp_vector.proofs.LeastLemmas.{IsSound}
use Rattle.cqp_vector.proofs.Levels.{products}
use Rattle.cqp_vector.proofs.ProductLemmas.{products_norm, sound_products}
use Rattle.cqp_vector.proofs.WithinLemmas.{whole_within}
use Rattle.cqp_machine.specs.Factors.{Held, new_group}
use Rattle.cqp_machine.specs.Cells.{Cells}
use Rattle.cqp_machine.specs.Sums.{exponents, h_in, level_in, levels, norm_in, norms}
use Rattle.cqp_levels.proofs.KeptFactors.{AreFactors, IsFactor, new_factor}
use Rattle.cqp_groups.specs.Groups.{IsSmall, NormsFit, as_cells, groups_in}
use Rattle.cqp_groups.proofs.SumLemmas.{part_below}

-- a norm's part with root 2 is at most its whole part
part_small : (x : Amp) → nat_abs (norm_of x).q ≤ squares_of x
part_small x =
    let f : nat_abs (norm_of x).q ≤ nat_abs (x.a *ℤ x.b) + nat_abs (x.b *ℤ x.c) + nat_abs (x.c *ℤ x.d) + nat_abs (x.d *ℤ x.a) = four_parts
    (x.a *ℤ x.b) (x.b *ℤ x.c) (x.c *ℤ x.d) (x.d *ℤ x.a) in
    let e = unsigned_abs-mul x.a x.b in
    let g = unsigned_abs-mul x.b x.c in
    let h = unsigned_abs-mul x.c x.d in
    let i = unsigned_abs-mul x.d x.a in
    let p = twice_product (nat_abs x.a) (nat_abs x.b) in
    let q = twice_product (nat_abs x.b) (nat_abs x.c) in
    let r = twice_product (nat_abs x.c) (nat_abs x.d) in
    let s = twice_product (nat_abs x.d) (nat_abs x.a) in
    omega (arith, e, f, g, h, i, p, q, r, s)
  where
    four_parts : (x y z t : ℤ) → nat_abs (x +ℤ y +ℤ z -ℤ t) ≤ nat_abs x + nat_abs y + nat_abs z + nat_abs t
    four_parts x y z t = omega (arith, ints)

-- so is the part of a sum of norms
parts_small : (xs : List Amp) → nat_abs (norm_sum xs).q ≤ all_squares xs
unfolding all_squares
parts_small [] = omega arith
parts_small (x ∷ xs) =
    let f = part_small x in
    let g = parts_small xs in
    let h = two_parts (norm_of x).q (norm_sum xs).q in
    omega (arith, f, g, h)
  where
    two_parts : (x y : ℤ) → nat_abs (x +ℤ y) ≤ nat_abs x + nat_abs y
    two_parts x y = omega (arith, ints)

-- a norm within 2^126 fits
fits_within : (xs : List Amp) → (norm_sum xs).p ≤ℤ pos (2 ^ 126) → RootFits (norm_sum xs)
fits_within xs bound =
    let e = norm_sum_is_squares xs in
    let g = parts_small xs in
    record { p_fits = omega (arith, ints, e); q_fits = omega (arith, ints, e, g) }

-- and one within 2^h is small
small_within : (h : ℕ) (xs : List Amp) → (norm_sum xs).p ≤ℤ pos (2 ^ h) → IsSmall h (norm_sum xs)
small_within h xs bound =
    let e = norm_sum_is_squares xs in
    let g = parts_small xs in
    record { whole = omega (arith, ints, e); whole_small = omega (arith, ints, e); root_small = omega (arith, ints, e, g) }

-- a norm of some numerators, within 2^h
record Told (r : Root) (h : ℕ) : Type 0 where
  pub places : ℕ
  pub nums : List Amp
  pub is : norm_sum nums ≡ r
  pub sound : IsSound (2 ^ places) nums h

-- one group more
times : (r : Root) (h : ℕ) (G : Held) → Told r h → IsFactor G → Told (root_product r (norm_sum G.nums)) (h + G.h)
times r h G t f = record {
  places = t.places + length G.qubits;
  nums = products t.nums G.nums;
  is = products_norm t.nums G.nums ∙ ap (λ z. root_product z (norm_sum G.nums)) t.is;
  sound = sound_products t.places (length G.qubits) t.nums G.nums h G.h t.sound f.sound;
}

-- or none
one_more : (r : Root) (h : ℕ) (o : Option Held) → Told r h → ((G : Held) → o ≡ Some G → IsFactor G) → Told (root_product r (norm_in o)) (h + h_in o)
one_more r h None t f = times r h (new_group 0) t (new_factor 0)
one_more r h (Some G) t f = times r h G t (f G refl)

-- all groups below a number
below : (c : Cells) → AreFactors c.groups → (n : ℕ) → Told (norms n c) (exponents n c)
below c f zero = record { places = 1; nums = (new_group 0).nums; is = refl; sound = (new_factor 0).sound }
below c f (suc n) = one_more (norms n c) (exponents n c) (c.groups n) (below c f n) (f n)

-- an exponent by a level
by_level : (even : Bool) (h : ℕ) → 2 * h ≤ (if even then 2 * h - 1 else 2 * h) + 1
by_level true h = omega arith
by_level false h = omega arith

-- twice the exponent is within the level and one, of a group
one_level : (o : Option Held) → 2 * h_in o ≤ level_in o + 1
one_level None = omega arith
one_level (Some G) = by_level (list_all has_even_sum G.nums) G.h

-- and of all groups below a number
by_levels : (c : Cells) (n : ℕ) → 2 * exponents n c ≤ levels n c + n
by_levels c zero = omega arith
by_levels c (suc n) = let less = by_levels c n in let one = one_level (c.groups n) in omega arith

-- so the sum of the exponents is at most 96
pub exponents_within : (slots : List (Option Held)) → length slots ≤ 12 → levels (length slots) (as_cells slots) ≤ 180
    → exponents (length slots) (as_cells slots) ≤ 96
exponents_within slots few low = let half = by_levels (as_cells slots) (length slots) in omega arith

-- and the products of the norms fit
pub norms_fit : (slots : List (Option Held)) → AreFactors (groups_in slots) → length slots ≤ 12 → levels (length slots) (as_cells slots) ≤ 180 → NormsFit slots
norms_fit slots f few low n h =
    let t = below (as_cells slots) f n in
    let half = by_levels (as_cells slots) n in
    let part : levels n (as_cells slots) ≤ levels (length slots) (as_cells slots) = part_below (λ g. level_in (groups_in slots g)) n (length slots) h in
    let most : exponents n (as_cells slots) ≤ 126 = omega arith in
    let power : 2 ^ exponents n (as_cells slots) ≤ 2 ^ 126 = pow_mono most in
    let whole = whole_within (norm_sum t.nums) (exponents n (as_cells slots)) t.sound.bound in
    subst RootFits t.is (fits_within t.nums (omega (arith, ints, whole, power)))

-- that of all is within 2 to the sum of the exponents
pub norms_small : (slots : List (Option Held)) → AreFactors (groups_in slots)
    → IsSmall (exponents (length slots) (as_cells slots)) (norms (length slots) (as_cells slots))
norms_small slots f =
    let n = length slots in
    let t = below (as_cells slots) f n in
    let whole = whole_within (norm_sum t.nums) (exponents n (as_cells slots)) t.sound.bound in
    subst (IsSmall (exponents n (as_cells slots))) t.is (small_within (exponents n (as_cells slots)) t.nums whole)
