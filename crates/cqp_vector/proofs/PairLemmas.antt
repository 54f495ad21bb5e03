-- What a gate makes of two partners: what fits, and their norms.
use Rattle.std.proofs.Common.{◌≡◌, ◌≢◌, ◌^◌, ◌≤◌, refl, sym, ap, ◌∙◌, arith, subst}
use Rattle.std.specs.Prelude.{ℤ, nat_abs, neg_ℤ, FitsSigned}
use Rattle.std.specs.Int.{w128}
use Rattle.std.proofs.lemmas.Int.{ints}
use Rattle.cqp_ring.specs.declared.amp.Amp.{Amp}
use Rattle.cqp_ring.specs.declared.root.Root.{Root}
use Rattle.cqp_ring.specs.Amp.{AmpFits, amp_product, amp_negative, w_power}
use Rattle.cqp_ring.specs.Root.{norm_of, root_sum, root_product, one_root}
use Rattle.cqp_ring.proofs.Integers.{same_amp}
use Rattle.cqp_ring.proofs.NormLemmas.{amp_product_comm, norm_of-product}
use Rattle.cqp_ring.proofs.Turns.{turned_1, turned_2, turned_4, turned_6}
use Rattle.cqp_syntax.specs.declared.op.Op.{Op}
use Rattle.cqp_syntax.specs.declared.op.Op.TheVariants as op
use Rattle.cqp_vector.specs.Group.{IsSmall}
use Rattle.cqp_vector.specs.Pairs.{low_after, high_after}
use Rattle.cqp_vector.proofs.Ring.{h_doubles}
use Rattle.cqp_ring.proofs.Integers.{same_root}
use Rattle.cqp_vector.proofs.Sums.{root_sum_comm}

-- ---- what fits
-- a small part fits in 128 bits
small_fits : (x : ℤ) → nat_abs x ≤ 2 ^ 45 → FitsSigned w128 x
small_fits x h = omega (arith, ints)

-- the negative of a small part fits in 128 bits
negative_fits : (x : ℤ) → nat_abs x ≤ 2 ^ 45 → FitsSigned w128 (neg_ℤ x)
negative_fits x h = omega (arith, ints)

-- a small numerator times w fits
pub turned_1_fits : (x : Amp) → IsSmall x → AmpFits (amp_product x (w_power 1))
turned_1_fits x s = subst AmpFits (sym (turned_1 x 1 refl)) (record {
  a_fits = negative_fits x.d s.d_small;
  b_fits = small_fits x.a s.a_small;
  c_fits = small_fits x.b s.b_small;
  d_fits = small_fits x.c s.c_small;
})

-- and times w^2
pub turned_2_fits : (x : Amp) → IsSmall x → AmpFits (amp_product x (w_power 2))
turned_2_fits x s = subst AmpFits (sym (turned_2 x 2 refl)) (record {
  a_fits = negative_fits x.c s.c_small;
  b_fits = negative_fits x.d s.d_small;
  c_fits = small_fits x.a s.a_small;
  d_fits = small_fits x.b s.b_small;
})

-- and times w^4
pub turned_4_fits : (x : Amp) → IsSmall x → AmpFits (amp_product x (w_power 4))
turned_4_fits x s = subst AmpFits (sym (turned_4 x 4 refl)) (record {
  a_fits = negative_fits x.a s.a_small;
  b_fits = negative_fits x.b s.b_small;
  c_fits = negative_fits x.c s.c_small;
  d_fits = negative_fits x.d s.d_small;
})

-- and times w^6
pub turned_6_fits : (x : Amp) → IsSmall x → AmpFits (amp_product x (w_power 6))
turned_6_fits x s = subst AmpFits (sym (turned_6 x 6 refl)) (record {
  a_fits = small_fits x.c s.c_small;
  b_fits = small_fits x.d s.d_small;
  c_fits = negative_fits x.a s.a_small;
  d_fits = negative_fits x.b s.b_small;
})

-- the product with w^6 is the negative of that with w^2
pub w_six_is : (x : Amp) → amp_product x (w_power 6) ≡ amp_negative (amp_product (w_power 2) x)
w_six_is x = turned_6 x 6 refl ∙ same_amp (omega (arith, ints)) (omega (arith, ints)) (omega (arith, ints)) (omega (arith, ints))
    ∙ ap amp_negative (sym (turned_2 x 2 refl) ∙ amp_product_comm x (w_power 2))

-- ---- norms
-- 1 times a norm is it
one_times : (r : Root) → root_product one_root r ≡ r
one_times r = same_root (omega (arith, ints)) (omega (arith, ints))

-- a factor of norm 1 keeps the norm
unit_norm : (u x : Amp) → norm_of u ≡ one_root → norm_of (amp_product u x) ≡ norm_of x
unit_norm u x e = norm_of-product u x ∙ ap (λ t. root_product t (norm_of x)) e ∙ one_times (norm_of x)

-- the negative is w^4 times the numerator
negative_is : (x : Amp) → amp_negative x ≡ amp_product (w_power 4) x
negative_is x = same_amp (omega (arith, ints)) (omega (arith, ints)) (omega (arith, ints)) (omega (arith, ints)) ∙ sym (turned_4 x 4 refl)
    ∙ amp_product_comm x (w_power 4)

-- the negative has the same norm
negative_norm : (x : Amp) → norm_of (amp_negative x) ≡ norm_of x
negative_norm x = ap norm_of (negative_is x) ∙ unit_norm (w_power 4) x refl

-- H doubles the norm of a pair, and the other gates keep it
pub h_pair : (x y : Amp) → root_sum (norm_of (low_after op.H x y)) (norm_of (high_after op.H x y)) ≡ root_sum (root_sum (norm_of x) (norm_of y))
    (root_sum (norm_of x) (norm_of y))
h_pair x y = h_doubles x y

-- equal norms have equal sums
both : {x y z t : Root} → x ≡ z → y ≡ t → root_sum x y ≡ root_sum z t
both {y = y} {z = z} e f = ap (λ u. root_sum u y) e ∙ ap (root_sum z) f

-- each gate but H keeps the sum of the norms of a pair
pub kept_pair : (o : Op) → (o ≢ op.H) → (x y : Amp) → root_sum (norm_of (low_after o x y)) (norm_of (high_after o x y)) ≡ root_sum (norm_of x) (norm_of y)
kept_pair op.I n x y = refl
kept_pair op.X n x y = root_sum_comm (norm_of y) (norm_of x)
kept_pair op.Y n x y = both (negative_norm (amp_product (w_power 2) y) ∙ unit_norm (w_power 2) y refl) (unit_norm (w_power 2) x refl)
    ∙ root_sum_comm (norm_of y) (norm_of x)
kept_pair op.Z n x y = ap (root_sum (norm_of x)) (unit_norm (w_power 4) y refl)
kept_pair op.H n x y = absurd (n refl)
kept_pair op.S n x y = ap (root_sum (norm_of x)) (unit_norm (w_power 2) y refl)
kept_pair op.T n x y = ap (root_sum (norm_of x)) (unit_norm (w_power 1) y refl)
kept_pair op.CNot n x y = refl
kept_pair op.CZ n x y = refl
kept_pair op.Swap n x y = refl
kept_pair op.Toffoli n x y = refl
