-- Products of lists of numerators: their levels add.
use Rattle.std.proofs.Common.{◌≡◌, ℕ, suc, ◌+◌, ◌-◌, ◌*◌, ◌<◌, ◌≤◌, List, [], ◌∷◌, map, refl}
use Rattle.std.proofs.Common.{sym, ap, ◌∙◌, arith, true, false, inl, inr, ◌⊎◌}
use Rattle.std.specs.Prelude.{if◌then◌else◌, Bool}
use Rattle.std.specs.List.{list_all, flat_map}
use Rattle.std.proofs.lemmas.Bool.{cases_Bool, and_parts, and_from, and_cases, not-true}
use Rattle.std.proofs.lemmas.Bool.{not-false, not_from_false, not_from_true, true≢false, and_left, and_right}
use Rattle.std.proofs.lemmas.List.Folds.{list_all-append, list_all-map}
use Rattle.cqp_ring.specs.declared.amp.Amp.{Amp}
use Rattle.cqp_ring.specs.Amp.{amp_product}
use Rattle.cqp_ring.specs.Parity.{has_odd_sum, has_even_sum, is_root2_times, over_root2}
use Rattle.cqp_ring.proofs.NormLemmas.{amp_product_comm}
use Rattle.cqp_ring.proofs.ParityLemmas.{odd_sum_of_product, root2_by_even_factor, root2_of_even_factors}
use Rattle.cqp_ring.proofs.ParityLemmas.{quotient_of_even_factors, root2_times_is_even}
use Rattle.cqp_vector.specs.Least.{Over, least_over}
use Rattle.cqp_vector.proofs.LeastLemmas.{least_goes_on, least_ends}

-- all products of a numerator on the left and one on the right
abbrev pub products : List Amp → List Amp → List Amp
products xs ys = flat_map (λ x. map (amp_product x) ys) xs

-- ---- a test that fails somewhere in a list
-- a place of the list at which the test fails
pub record FailsAt (p : Amp → Bool) (xs : List Amp) : Type 0 where
  pub element : Amp
  pub fails : p element ≡ false
  -- what holds of all elements holds of this one
  pub there : (r : Amp → Bool) → list_all r xs ≡ true → r element ≡ true

-- where not all pass, one fails
fails_at : (p : Amp → Bool) (xs : List Amp) → list_all p xs ≡ false → FailsAt p xs
fails_at p [] e = absurd (true≢false e)
fails_at p (x ∷ xs) e = by_cases (fails_at p xs) (and_cases _ _ e)
  where
    by_cases : (list_all p xs ≡ false → FailsAt p xs) → (p x ≡ false) ⊎ (list_all p xs ≡ false) → FailsAt p (x ∷ xs)
    by_cases h (inl f) = record { element = x; fails = f; there = λ r g. (and_parts _ _ g).0 }
    by_cases h (inr f) =
        let t = h f in
        record { element = t.element; fails = t.fails; there = λ r g. t.there r (and_parts _ _ g).1 }

-- ---- tests over products
-- a test of all products is one of each row
all_over : (r : Amp → Bool) (xs ys : List Amp) → list_all r (products xs ys) ≡ true → list_all (λ x. list_all (λ y. r (amp_product x y)) ys) xs ≡ true
all_over r [] ys e = refl
all_over r (x ∷ xs) ys e =
    let t = and_parts _ _ (sym (list_all-append r (map (amp_product x) ys) (products xs ys)) ∙ e) in
    and_from _ _ (sym (list_all-map r (amp_product x) ys) ∙ t.0) (all_over r xs ys t.1)

-- a test that holds of products of passing factors holds of the product of passing lists
pub all_products : (r p q : Amp → Bool) (xs ys : List Amp) → ((x y : Amp) → p x ≡ true → q y ≡ true → r (amp_product x y) ≡ true)
    → list_all p xs ≡ true → list_all q ys ≡ true → list_all r (products xs ys) ≡ true
all_products r p q [] ys each e f = refl
all_products r p q (x ∷ xs) ys each e f =
    let t = and_parts _ _ e in
    list_all-append r (map (amp_product x) ys) (products xs ys)
    ∙ and_from _ _ (list_all-map r (amp_product x) ys ∙ row ys f t.0) (all_products r p q xs ys each t.1 f)
  where
    row : (zs : List Amp) → list_all q zs ≡ true → p x ≡ true → list_all (λ y. r (amp_product x y)) zs ≡ true
    row [] g h = refl
    row (z ∷ zs) g h = let u = and_parts _ _ g in and_from _ _ (each x z h u.0) (row zs u.1 h)

-- one product that fails is enough
pub some_product : (r p q u v : Amp → Bool) (xs ys : List Amp)
    → ((x y : Amp) → p x ≡ false → q y ≡ false → u x ≡ true → v y ≡ true → r (amp_product x y) ≡ false)
    → list_all p xs ≡ false → list_all q ys ≡ false → list_all u xs ≡ true → list_all v ys ≡ true → list_all r (products xs ys) ≡ false
some_product r p q u v xs ys each e f g h = by_cases (fails_at p xs e) (fails_at q ys f) (cases_Bool (list_all r (products xs ys)))
  where
    by_cases : FailsAt p xs → FailsAt q ys → (list_all r (products xs ys) ≡ true) ⊎ (list_all r (products xs ys) ≡ false) → list_all r (products xs ys) ≡ false
    by_cases x y (inl all) =
        let rows = x.there (λ s. list_all (λ t. r (amp_product s t)) ys) (all_over r xs ys all) in
        let one = y.there (λ t. r (amp_product x.element t)) rows in
        absurd (true≢false (sym one ∙ each x.element y.element x.fails y.fails (x.there u g) (y.there v h)))
    by_cases x y (inr none) = none

-- a test that all pass
any : Amp → Bool
any x = true

-- every list passes it
all_any : (xs : List Amp) → list_all any xs ≡ true
unfolding any
all_any [] = refl
all_any (x ∷ xs) = and_from _ _ refl (all_any xs)

-- ---- parities of single products
-- a sum that isn't even is odd
odd_from : (x : Amp) → has_even_sum x ≡ false → has_odd_sum x ≡ true
odd_from x e = not-false _ e

-- an even sum isn't odd
none_from : (x : Amp) → has_even_sum x ≡ true → has_odd_sum x ≡ false
none_from x e = not-true _ e

-- the product of two odd sums has an odd sum
odd_product : (x y : Amp) → has_even_sum x ≡ false → has_even_sum y ≡ false → has_even_sum (amp_product x y) ≡ false
odd_product x y e f = not_from_true _ (odd_sum_of_product x y ∙ and_from _ _ (odd_from x e) (odd_from y f))

-- an even right factor makes the product's sum even
even_right : (x y : Amp) → has_even_sum y ≡ true → has_even_sum (amp_product x y) ≡ true
even_right x y f = not_from_false _ (odd_sum_of_product x y ∙ and_right (has_odd_sum x) _ (none_from y f))

-- so does an even left factor
even_left : (x y : Amp) → has_even_sum x ≡ true → has_even_sum (amp_product x y) ≡ true
even_left x y e = not_from_false _ (odd_sum_of_product x y ∙ and_left _ (has_odd_sum y) (none_from x e))

-- where root 2 doesn't divide an even sum, it doesn't divide its product with an odd one
odd_times : (x y : Amp) → has_even_sum x ≡ false → is_root2_times y ≡ false → has_even_sum y ≡ true → is_root2_times (amp_product x y) ≡ false
odd_times x y e f g = root2_by_even_factor x y (odd_from x e) (none_from y g) ∙ f

-- nor the other way round
times_odd : (x y : Amp) → is_root2_times x ≡ false → has_even_sum y ≡ false → has_even_sum x ≡ true → is_root2_times (amp_product x y) ≡ false
times_odd x y e f g = ap is_root2_times (amp_product_comm x y) ∙ odd_times y x f e g

-- root 2 divides the product of two even sums
both_even : (x y : Amp) → has_even_sum x ≡ true → has_even_sum y ≡ true → is_root2_times (amp_product x y) ≡ true
both_even x y e f = root2_of_even_factors x y (none_from x e) (none_from y f)

-- and the quotient's sum is odd where it divides neither
odd_quotient : (x y : Amp) → is_root2_times x ≡ false → is_root2_times y ≡ false → has_even_sum x ≡ true → has_even_sum y ≡ true
    → has_even_sum (over_root2 (amp_product x y)) ≡ false
odd_quotient x y e f g h =
    not_from_true _ (quotient_of_even_factors x y (none_from x g) (none_from y h) ∙ and_from _ _ (not_from_false _ e) (not_from_false _ f))

-- what root 2 divides throughout has even sums throughout
pub all_even_from : (xs : List Amp) → list_all is_root2_times xs ≡ true → list_all has_even_sum xs ≡ true
all_even_from [] e = refl
all_even_from (x ∷ xs) e = let t = and_parts _ _ e in and_from _ _ (not_from_false _ (root2_times_is_even x t.0)) (all_even_from xs t.1)

-- where some sum is odd, root 2 doesn't divide all
not_all_divided : (xs : List Amp) → list_all has_even_sum xs ≡ false → list_all is_root2_times xs ≡ false
not_all_divided xs e = by_cases (cases_Bool (list_all is_root2_times xs))
  where
    by_cases : (list_all is_root2_times xs ≡ true) ⊎ (list_all is_root2_times xs ≡ false) → list_all is_root2_times xs ≡ false
    by_cases (inl f) = absurd (true≢false (sym (all_even_from xs f) ∙ e))
    by_cases (inr f) = f

-- ---- levels
-- the level of numerators over a power of root 2
abbrev pub level_over : List Amp → ℕ → ℕ
level_over nums h = if list_all has_even_sum nums then 2 * h - 1 else 2 * h

-- least numerators: some sum is odd, or all are even and root 2 doesn't divide them
pub record HasOdd (nums : List Amp) : Type 0 where
  pub odd : list_all has_even_sum nums ≡ false

-- least numerators with even sums, over a power of root 2
pub record HasEven (nums : List Amp) (h : ℕ) : Type 0 where
  pub even : list_all has_even_sum nums ≡ true
  pub undivided : list_all is_root2_times nums ≡ false
  pub positive : 0 < h

-- with an odd sum the level is twice the exponent
level_odd : (nums : List Amp) (h : ℕ) → list_all has_even_sum nums ≡ false → level_over nums h ≡ 2 * h
level_odd nums h e = ap (λ b. if b then 2 * h - 1 else 2 * h) e

-- with even sums alone it is one less
level_even : (nums : List Amp) (h : ℕ) → list_all has_even_sum nums ≡ true → level_over nums h ≡ 2 * h - 1
level_even nums h e = ap (λ b. if b then 2 * h - 1 else 2 * h) e

-- where root 2 doesn't divide all, making least keeps the level
level_ends : (nums : List Amp) (h : ℕ) → list_all is_root2_times nums ≡ false → level_over (least_over nums h).nums (least_over nums h).h ≡ level_over nums h
level_ends nums h e = ap (λ (x : Over). level_over x.nums x.h) (least_ends nums h (inr e))

-- the level of a product that is made least is the sum of the levels
pub levels_add : (xs ys : List Amp) (h k : ℕ) → HasOdd xs ⊎ HasEven xs h → HasOdd ys ⊎ HasEven ys k
    → level_over (least_over (products xs ys) (h + k)).nums (least_over (products xs ys) (h + k)).h ≡ level_over xs h + level_over ys k
levels_add xs ys h k (inl x) (inl y) =
    let odd : list_all has_even_sum (products xs ys) ≡ false =
    some_product has_even_sum has_even_sum has_even_sum any any xs ys (λ a b e f g i. odd_product a b e f) x.odd y.odd (all_any xs) (all_any ys) in
    level_ends (products xs ys) (h + k) (not_all_divided (products xs ys) odd) ∙ level_odd (products xs ys) (h + k) odd
    ∙ omega (arith, level_odd xs h x.odd, level_odd ys k y.odd)
levels_add xs ys h k (inl x) (inr y) =
    let even : list_all has_even_sum (products xs ys) ≡ true =
    all_products has_even_sum any has_even_sum xs ys (λ a b e f. even_right a b f) (all_any xs) y.even in
    let undivided : list_all is_root2_times (products xs ys) ≡ false =
    some_product is_root2_times has_even_sum is_root2_times any has_even_sum xs ys (λ a b e f g i. odd_times a b e f i) x.odd y.undivided (all_any xs) y.even in
    level_ends (products xs ys) (h + k) undivided ∙ level_even (products xs ys) (h + k) even
    ∙ omega (arith, level_odd xs h x.odd, level_even ys k y.even, y.positive)
levels_add xs ys h k (inr x) (inl y) =
    let even : list_all has_even_sum (products xs ys) ≡ true =
    all_products has_even_sum has_even_sum any xs ys (λ a b e f. even_left a b e) x.even (all_any ys) in
    let undivided : list_all is_root2_times (products xs ys) ≡ false =
    some_product is_root2_times is_root2_times has_even_sum has_even_sum any xs ys (λ a b e f g i. times_odd a b e f g) x.undivided y.odd x.even (all_any ys) in
    level_ends (products xs ys) (h + k) undivided ∙ level_even (products xs ys) (h + k) even
    ∙ omega (arith, level_even xs h x.even, level_odd ys k y.odd, x.positive)
levels_add xs ys h k (inr x) (inr y) =
    let one : 0 < h = x.positive in
    let two : 0 < k = y.positive in
    let sum : h + k ≡ suc (h + k - 1) = omega arith in
    let divided : list_all is_root2_times (products xs ys) ≡ true = all_products is_root2_times has_even_sum has_even_sum xs ys both_even x.even y.even in
    let odd : list_all has_even_sum (map over_root2 (products xs ys)) ≡ false =
    list_all-map has_even_sum over_root2 (products xs ys)
    ∙ some_product (λ z. has_even_sum (over_root2 z)) is_root2_times is_root2_times has_even_sum has_even_sum xs ys odd_quotient x.undivided
    y.undivided x.even y.even in
    ap (λ n. level_over (least_over (products xs ys) n).nums (least_over (products xs ys) n).h) sum
    ∙ ap (λ (z : Over). level_over z.nums z.h) (least_goes_on (products xs ys) (h + k - 1) divided)
    ∙ level_ends (map over_root2 (products xs ys)) (h + k - 1) (not_all_divided (map over_root2 (products xs ys)) odd)
    ∙ level_odd (map over_root2 (products xs ys)) (h + k - 1) odd
    ∙ omega (arith, level_even xs h x.even, level_even ys k y.even, x.positive, y.positive)

-- the exponent is within half of the level
pub exponent_of_level : (nums : List Amp) (h : ℕ) → level_over nums h ≤ 180 → h ≤ 90
exponent_of_level nums h le = by_cases (cases_Bool (list_all has_even_sum nums))
  where
    by_cases : (list_all has_even_sum nums ≡ true) ⊎ (list_all has_even_sum nums ≡ false) → h ≤ 90
    by_cases (inl e) = let f = level_even nums h e in omega arith
    by_cases (inr e) = let f = level_odd nums h e in omega arith

-- levels of at most 180 together have exponents of at most 91 together
pub exponents_of_levels : (xs ys : List Amp) (h k : ℕ) → level_over xs h + level_over ys k ≤ 180 → h + k ≤ 91
exponents_of_levels xs ys h k le = by_cases (cases_Bool (list_all has_even_sum xs)) (cases_Bool (list_all has_even_sum ys))
  where
    by_cases : (list_all has_even_sum xs ≡ true) ⊎ (list_all has_even_sum xs ≡ false)
        → (list_all has_even_sum ys ≡ true) ⊎ (list_all has_even_sum ys ≡ false) → h + k ≤ 91
    by_cases (inl e) (inl f) = let g = level_even xs h e in let i = level_even ys k f in omega arith
    by_cases (inl e) (inr f) = let g = level_even xs h e in let i = level_odd ys k f in omega arith
    by_cases (inr e) (inl f) = let g = level_odd xs h e in let i = level_even ys k f in omega arith
    by_cases (inr e) (inr f) = let g = level_odd xs h e in let i = level_odd ys k f in omega arith
