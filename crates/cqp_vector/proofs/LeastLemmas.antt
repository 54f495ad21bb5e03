-- Making numerators least: what is kept by each division by root 2.
use Rattle.std.proofs.Common.{◌≡◌, ◌≢◌, ℕ, zero, suc, ◌+◌, ◌≤◌, List, [], ◌∷◌, length, map, refl, sym}
use Rattle.std.proofs.Common.{ap, ◌∙◌, arith, subst, true, false, inl, inr, ◌⊎◌}
use Rattle.std.specs.Prelude.{if◌then◌else◌, Bool, pos}
use Rattle.std.specs.List.{list_all}
use Rattle.std.proofs.Common.{◌<◌, ◌++◌, take, drop}
use Rattle.std.proofs.lemmas.Bool.{cases_Bool, and_parts}
use Rattle.std.proofs.lemmas.List.{length-map, drop_more, get_or_at, length-take-le}
use Rattle.std.proofs.lemmas.List.Folds.{list_all_at}
use Rattle.std.proofs.lemmas.Int.{ints}
use Rattle.cqp_ring.specs.declared.amp.Amp.{Amp}
use Rattle.cqp_ring.specs.declared.root.Root.{Root}
use Rattle.cqp_ring.specs.Amp.{root2_amp, zero_amp}
use Rattle.cqp_ring.specs.Parity.{is_root2_times, over_root2}
use Rattle.cqp_ring.specs.Root.{norm_of, norm_sum, root_sum, root_product, whole_root, zero_root}
use Rattle.cqp_ring.proofs.NormLemmas.{norm_of-product}
use Rattle.cqp_ring.proofs.ParityLemmas.{root2_times_quotient}
use Rattle.cqp_vector.specs.State.{amp_at}
use Rattle.cqp_vector.specs.Least.{Over, IsLeastOver, least_over}
use Rattle.cqp_vector.specs.Group.{IsWithin}
use Rattle.cqp_vector.proofs.Norms.{doubled}
use Rattle.cqp_ring.proofs.Integers.{same_root}
use Rattle.cqp_vector.proofs.WithinLemmas.{within_halved, not_doubled}

-- ---- one division
-- 2 times a norm is its double
two_times : (r : Root) → root_product (whole_root (pos 2)) r ≡ doubled r
two_times r = same_root (omega (arith, ints)) (omega (arith, ints))

-- a numerator has twice the norm of its quotient by root 2
quotient_norm : (x : Amp) → is_root2_times x ≡ true → norm_of x ≡ doubled (norm_of (over_root2 x))
quotient_norm x e = ap norm_of (sym (root2_times_quotient x e)) ∙ norm_of-product root2_amp (over_root2 x) ∙ two_times (norm_of (over_root2 x))

-- doubling goes along sums
double_sum : (x y : Root) → root_sum (doubled x) (doubled y) ≡ doubled (root_sum x y)
double_sum x y = same_root (omega (arith, ints)) (omega (arith, ints))

-- so for a list
pub quotients_norm : (xs : List Amp) → list_all is_root2_times xs ≡ true → norm_sum xs ≡ doubled (norm_sum (map over_root2 xs))
quotients_norm [] e = same_root (omega (arith, ints)) (omega (arith, ints))
quotients_norm (x ∷ xs) e =
    let t = and_parts _ _ e in
    ap (λ u. root_sum u (norm_sum xs)) (quotient_norm x t.0)
    ∙ ap (root_sum (doubled (norm_of (over_root2 x)))) (quotients_norm xs t.1)
    ∙ double_sum (norm_of (over_root2 x)) (norm_sum (map over_root2 xs))

-- ---- all divisions
-- a test that passes chooses the first
if_true : {A : Type 0} (b : Bool) (x y : A) → b ≡ true → (if b then x else y) ≡ x
if_true b x y e = ap (λ t. if t then x else y) e

-- a test that fails chooses the second
if_false : {A : Type 0} (b : Bool) (x y : A) → b ≡ false → (if b then x else y) ≡ y
if_false b x y e = ap (λ t. if t then x else y) e

-- where root 2 divides all, making least goes on with the quotients
pub least_goes_on : (nums : List Amp) (h : ℕ) → list_all is_root2_times nums ≡ true → least_over nums (suc h) ≡ least_over (map over_root2 nums) h
least_goes_on nums h e = if_true (list_all is_root2_times nums) _ _ e

-- where they are least, it ends
pub least_ends : (nums : List Amp) (h : ℕ) → IsLeastOver nums h → let x : Over = record { nums = nums; h = h } in least_over nums h ≡ x
least_ends nums zero l = refl
least_ends nums (suc h) (inl e) = absurd (omega arith)
least_ends nums (suc h) (inr e) = if_false (list_all is_root2_times nums) _ _ e

-- what each division keeps
pub kept_least : (P : List Amp → ℕ → Type 0)
    → ((nums : List Amp) (h : ℕ) → list_all is_root2_times nums ≡ true → P nums (suc h) → P (map over_root2 nums) h)
    → (h : ℕ) (nums : List Amp) → P nums h → P (least_over nums h).nums (least_over nums h).h
kept_least P step zero nums p = p
kept_least P step (suc h) nums p = by_cases (λ e. kept_least P step h (map over_root2 nums) (step nums h e p)) (cases_Bool (list_all is_root2_times nums))
  where
    by_cases : (list_all is_root2_times nums ≡ true → P (least_over (map over_root2 nums) h).nums (least_over (map over_root2 nums) h).h)
        → (list_all is_root2_times nums ≡ true) ⊎ (list_all is_root2_times nums ≡ false) → P (least_over nums (suc h)).nums (least_over nums (suc h)).h
    by_cases later (inl e) = subst (λ (x : Over). P x.nums x.h) (sym (least_goes_on nums h e)) (later e)
    by_cases later (inr e) = subst (λ (x : Over). P x.nums x.h) (sym (least_ends nums (suc h) (inr e))) p

-- what is made least is least
pub least_is_least : (h : ℕ) (nums : List Amp) → IsLeastOver (least_over nums h).nums (least_over nums h).h
least_is_least zero nums = inl refl
least_is_least (suc h) nums = by_cases (least_is_least h (map over_root2 nums)) (cases_Bool (list_all is_root2_times nums))
  where
    by_cases : IsLeastOver (least_over (map over_root2 nums) h).nums (least_over (map over_root2 nums) h).h → (list_all is_root2_times nums ≡ true)
        ⊎ (list_all is_root2_times nums ≡ false) → IsLeastOver (least_over nums (suc h)).nums (least_over nums (suc h)).h
    by_cases later (inl e) = subst (λ (x : Over). IsLeastOver x.nums x.h) (sym (least_goes_on nums h e)) later
    by_cases later (inr e) = subst (λ (x : Over). IsLeastOver x.nums x.h) (sym (least_ends nums (suc h) (inr e))) (inr e)

-- numerators as many as before, with a norm that isn't 0 and is within its bound
pub record IsSound (n : ℕ) (nums : List Amp) (h : ℕ) : Type 0 where
  pub whole : length nums ≡ n
  pub nonzero : norm_sum nums ≢ zero_root
  pub bound : IsWithin (norm_sum nums) h

-- quotients of sound numerators are sound at one exponent less
pub sound_divided : (n : ℕ) (nums : List Amp) (h : ℕ) → list_all is_root2_times nums ≡ true → IsSound n nums (suc h) → IsSound n (map over_root2 nums) h
sound_divided n nums h e s =
    let twice : norm_sum nums ≡ doubled (norm_sum (map over_root2 nums)) = quotients_norm nums e in
    let more : suc h ≡ h + 1 = omega arith in
    record {
      whole = length-map nums over_root2 ∙ s.whole;
      nonzero = not_doubled _ (subst (λ t. t ≢ zero_root) twice s.nonzero);
      bound = within_halved _ h (subst (λ t. IsWithin t (h + 1)) twice (subst (IsWithin (norm_sum nums)) more s.bound));
    }

-- made least, sound numerators are sound
pub sound_least : (n : ℕ) (nums : List Amp) (h : ℕ) → IsSound n nums h → IsSound n (least_over nums h).nums (least_over nums h).h
sound_least n nums h s = kept_least (IsSound n) (sound_divided n) h nums s

-- making least raises no exponent
pub least_at_most : (m h : ℕ) (nums : List Amp) → h ≤ m → (least_over nums h).h ≤ m
least_at_most m h nums less = kept_least (λ xs k. k ≤ m) (λ xs k e le. omega arith) h nums less

-- ---- a division in place
-- a test that all pass is passed at each place
pub at_all : (p : Amp → Bool) (xs : List Amp) (i : ℕ) → i < length xs → list_all p xs ≡ true → p (amp_at xs i) ≡ true
at_all p xs i less all = by_cases (cases_Bool (p (amp_at xs i)))
  where
    by_cases : (p (amp_at xs i) ≡ true) ⊎ (p (amp_at xs i) ≡ false) → p (amp_at xs i) ≡ true
    by_cases (inl e) = e
    by_cases (inr e) = let f = list_all_at p xs i zero_amp less e in cc

-- the next one is as it was
pub next_whole : (f : Amp → Amp) (xs ys : List Amp) (i : ℕ) → i < length xs → ys ≡ map f (take i xs) ++ drop i xs → amp_at ys i ≡ amp_at xs i
next_whole f xs ys i less e =
    ap (λ t. amp_at t i) (e ∙ ap (λ t. map f (take i xs) ++ t) (drop_more xs i zero_amp less))
    ∙ get_or_at (map f (take i xs)) (amp_at xs i) (drop (i + 1) xs) zero_amp i (length-map (take i xs) f ∙ length-take-le i xs (omega arith))
