-- Least numerators are the one least form of the same amplitudes, with the same norm over 2^h.
use Rattle.std.proofs.Common.{◌≡◌, ℕ, zero, suc, ◌+◌, List, [], ◌∷◌, map, refl, sym, ap, ◌∙◌}
use Rattle.std.proofs.Common.{arith, subst, true, false, inl, inr, ◌⊎◌, add-zero, pow-add}
use Rattle.std.specs.Prelude.{◌+ℤ◌}
use Rattle.std.specs.List.{list_all}
use Rattle.std.proofs.lemmas.Bool.{cases_Bool, and_parts, and_from}
use Rattle.std.proofs.lemmas.Int.{ints}
use Rattle.cqp_ring.specs.declared.amp.Amp.{Amp}
use Rattle.cqp_ring.specs.declared.root.Root.{Root}
use Rattle.cqp_ring.specs.Amp.{amp_product, one_amp, root2_amp}
use Rattle.cqp_ring.specs.Parity.{is_root2_times, over_root2}
use Rattle.cqp_ring.specs.Root.{norm_sum, root_product}
use Rattle.cqp_ring.specs.Weight.{power_root}
use Rattle.cqp_ring.proofs.Integers.{same_amp}
use Rattle.cqp_ring.proofs.NormLemmas.{amp_product_assoc}
use Rattle.cqp_ring.proofs.OrderProducts.{root_product_comm, root_product_distributes}
use Rattle.cqp_ring.proofs.ParityLemmas.{divides_both_ways, root2_times_quotient, root2_cancelled}
use Rattle.cqp_vector.specs.Least.{Over, IsLeastOver, IsLeastFormOf, least_over, root2_power}
use Rattle.cqp_vector.proofs.LeastLemmas.{least_goes_on, least_ends, kept_least, quotients_norm}
use Rattle.cqp_vector.proofs.Norms.{doubled}
use Rattle.cqp_ring.proofs.Integers.{same_root}

-- 1 times a numerator is it
one_times : (x : Amp) → amp_product one_amp x ≡ x
one_times x = same_amp (omega (arith, ints)) (omega (arith, ints)) (omega (arith, ints)) (omega (arith, ints))

-- so for a list
pub all_one_times : (xs : List Amp) → map (amp_product one_amp) xs ≡ xs
all_one_times [] = refl
all_one_times (x ∷ xs) = ap (λ t. t ∷ map (amp_product one_amp) xs) (one_times x) ∙ ap (λ t. x ∷ t) (all_one_times xs)

-- one more root 2 is multiplied last
power_more : (t : ℕ) (xs : List Amp) → map (amp_product (root2_power (suc t))) xs ≡ map (amp_product root2_amp) (map (amp_product (root2_power t)) xs)
power_more t [] = refl
power_more t (x ∷ xs) =
    ap (λ u. u ∷ map (amp_product (root2_power (suc t))) xs) (amp_product_assoc root2_amp (root2_power t) x)
    ∙ ap (λ u. amp_product root2_amp (amp_product (root2_power t) x) ∷ u) (power_more t xs)

-- root 2 times the quotients are the numerators
times_quotients : (xs : List Amp) → list_all is_root2_times xs ≡ true → map (amp_product root2_amp) (map over_root2 xs) ≡ xs
times_quotients [] e = refl
times_quotients (x ∷ xs) e =
    let t = and_parts _ _ e in
    ap (λ u. u ∷ map (amp_product root2_amp) (map over_root2 xs)) (root2_times_quotient x t.0) ∙ ap (λ u. x ∷ u) (times_quotients xs t.1)

-- root 2 divides its multiples
divided : (y : Amp) → is_root2_times (amp_product root2_amp y) ≡ true
divided y = (divides_both_ways (amp_product root2_amp y)).1 (y, refl)

-- so for a list
all_divided : (ys : List Amp) → list_all is_root2_times (map (amp_product root2_amp) ys) ≡ true
all_divided [] = refl
all_divided (y ∷ ys) = and_from _ _ (divided y) (all_divided ys)

-- the quotients of root 2 times numerators are these
quotients_back : (ys : List Amp) → map over_root2 (map (amp_product root2_amp) ys) ≡ ys
quotients_back [] = refl
quotients_back (y ∷ ys) =
    ap (λ u. u ∷ map over_root2 (map (amp_product root2_amp) ys))
    (root2_cancelled (over_root2 (amp_product root2_amp y)) y (root2_times_quotient (amp_product root2_amp y) (divided y)))
    ∙ ap (λ u. y ∷ u) (quotients_back ys)

-- nothing taken
itself : (nums : List Amp) (h : ℕ) → IsLeastOver nums h → IsLeastFormOf (record { nums = nums; h = h }) nums h
itself nums h l = record { taken = 0; exponent = add-zero h; amplitudes = all_one_times nums; least = l }

-- once more
taken_more : (x : Over) (nums : List Amp) (h : ℕ) → list_all is_root2_times nums ≡ true → IsLeastFormOf x (map over_root2 nums) h → IsLeastFormOf x nums (suc h)
taken_more x nums h e f = record {
  taken = suc f.taken;
  exponent = let g = f.exponent in omega arith;
  amplitudes = power_more f.taken x.nums ∙ ap (map (amp_product root2_amp)) f.amplitudes ∙ times_quotients nums e;
  least = f.least;
}

-- numerators made least are a least form
pub is_least_form : (h : ℕ) (nums : List Amp) → IsLeastFormOf (least_over nums h) nums h
is_least_form zero nums = itself nums 0 (inl refl)
is_least_form (suc h) nums = by_cases (is_least_form h (map over_root2 nums)) (cases_Bool (list_all is_root2_times nums))
  where
    by_cases : IsLeastFormOf (least_over (map over_root2 nums) h) (map over_root2 nums) h → (list_all is_root2_times nums ≡ true)
        ⊎ (list_all is_root2_times nums ≡ false)
        → IsLeastFormOf (least_over nums (suc h)) nums (suc h)
    by_cases f (inl e) = subst (λ x. IsLeastFormOf x nums (suc h)) (sym (least_goes_on nums h e)) (taken_more _ nums h e f)
    by_cases f (inr e) = subst (λ x. IsLeastFormOf x nums (suc h)) (sym (least_ends nums (suc h) (inr e))) (itself nums (suc h) (inr e))

-- a least form with t powers of root 2 taken is the numerators made least
one_form : (t : ℕ) (x : Over) (nums : List Amp) (h : ℕ) → x.h + t ≡ h → map (amp_product (root2_power t)) x.nums ≡ nums → IsLeastOver x.nums x.h
    → x ≡ least_over nums h
one_form zero x nums h e f l =
    sym (least_ends x.nums x.h l)
    ∙ ap (λ xs. least_over xs x.h) (sym (all_one_times x.nums) ∙ f) ∙ ap (least_over nums) (sym (add-zero x.h) ∙ e)
one_form (suc t) x nums h e f l =
    let ys : List Amp = map (amp_product (root2_power t)) x.nums in
    let made : map (amp_product root2_amp) (map (amp_product (root2_power t)) x.nums) ≡ nums = sym (power_more t x.nums) ∙ f in
    let more : suc (x.h + t) ≡ h = omega arith in
    one_form t x (map (amp_product (root2_power t)) x.nums) (x.h + t) refl refl l
    ∙ ap (λ xs. least_over xs (x.h + t)) (sym (quotients_back (map (amp_product (root2_power t)) x.nums)))
    ∙ sym (least_goes_on (map (amp_product root2_amp) (map (amp_product (root2_power t)) x.nums)) (x.h + t)
    (all_divided (map (amp_product (root2_power t)) x.nums)))
    ∙ ap (λ xs. least_over xs (suc (x.h + t))) made ∙ ap (least_over nums) more

-- a least form is the numerators made least
pub only_least_form : (x : Over) (nums : List Amp) (h : ℕ) → IsLeastFormOf x nums h → x ≡ least_over nums h
only_least_form x nums h f = one_form f.taken x nums h f.exponent f.amplitudes f.least

-- ---- the norm over 2 to the exponent
-- norms with equal doubles are equal
same_half : (x y : Root) → doubled x ≡ doubled y → x ≡ y
same_half x y e =
    let f : x.p +ℤ x.p ≡ y.p +ℤ y.p = ap (λ (t : Root). t.p) e in
    let g : x.q +ℤ x.q ≡ y.q +ℤ y.q = ap (λ (t : Root). t.q) e in
    same_root (omega (arith, ints)) (omega (arith, ints))

-- one more power of two doubles
power_twice : (k : ℕ) (r : Root) → root_product (power_root (suc k)) r ≡ doubled (root_product (power_root k) r)
power_twice k r = ap (λ t. root_product t r) two ∙ sums (power_root k) r
  where
    two : power_root (suc k) ≡ doubled (power_root k)
    two = let e : suc k ≡ k + 1 = omega arith in ap power_root e ∙ same_root (omega (arith, ints, pow-add 2 k 1)) (omega (arith, ints))

    sums : (x y : Root) → root_product (doubled x) y ≡ doubled (root_product x y)
    sums x y = root_product_comm (doubled x) y ∙ root_product_distributes y x x ∙ ap doubled (root_product_comm y x)

-- made least, numerators have the same norm over 2 to the exponent
pub same_ratio : (nums : List Amp) (h : ℕ)
    → root_product (power_root h) (norm_sum (least_over nums h).nums) ≡ root_product (power_root (least_over nums h).h) (norm_sum nums)
same_ratio nums h = kept_least (λ xs k. root_product (power_root h) (norm_sum xs) ≡ root_product (power_root k) (norm_sum nums))
    (λ xs k e f. same_half _ _ (
    sym (root_product_distributes (power_root h) (norm_sum (map over_root2 xs)) (norm_sum (map over_root2 xs)))
    ∙ ap (root_product (power_root h)) (sym (quotients_norm xs e)) ∙ f ∙ power_twice k (norm_sum nums))) h nums refl
