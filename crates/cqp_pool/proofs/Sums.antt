-- Sums over the tallies of all passes.
use Rattle.std.proofs.Common.{◌≡◌, ℕ, zero, suc, ◌+◌, ◌<◌, List, [], ◌∷◌, ◌++◌, set, sym, refl, ap}
use Rattle.std.proofs.Common.{arith}
use Rattle.std.specs.List.{sum_by}
use Rattle.std.proofs.lemmas.List.Sums.{sum_by-append, sum_by-cons}
use mathlib.Core.Option.{some, some-injective, some-ne-none}
use lib.ListN.{get_elem?}

module _ {X : Type 0} (f : X → ℕ) where
  -- the sum after one entry is written over
  pub sum_by-set_at : (xs : List X) (at : ℕ) (x y : X) → get_elem? xs at ≡ some x → sum_by f (set xs at y) + f x ≡ sum_by f xs + f y
  sum_by-set_at [] at x y is = absurd (some-ne-none x (sym is))
  sum_by-set_at (z ∷ zs) zero x y is =
      let same : f z ≡ f x = ap f (some-injective z x is) in omega (arith, sum_by-cons f z zs, sum_by-cons f y zs)
  sum_by-set_at (z ∷ zs) (suc at) x y is =
      let rest = sum_by-set_at zs at x y is in omega (arith, sum_by-cons f z zs, sum_by-cons f z (set zs at y))

  -- the sum with one entry more
  pub sum_by-snoc : (xs : List X) (x : X) → sum_by f (xs ++ x ∷ []) ≡ sum_by f xs + f x
  sum_by-snoc xs x = omega (arith, sum_by-append f xs (x ∷ []), sum_by-cons f x [])

  -- an entry is part of the sum
  within_sum : (xs : List X) (at : ℕ) (x : X) → get_elem? xs at ≡ some x → f x < sum_by f xs + 1
  within_sum [] at x is = absurd (some-ne-none x (sym is))
  within_sum (z ∷ zs) zero x is = let same : f z ≡ f x = ap f (some-injective z x is) in omega (arith, sum_by-cons f z zs)
  within_sum (z ∷ zs) (suc at) x is = let rest = within_sum zs at x is in omega (arith, sum_by-cons f z zs)

module _ {X : Type 0} (f g : X → ℕ) where
  -- where f finds nothing in any entry, g finds nothing, if it finds nothing where f does
  sum_by_of_nothing : (xs : List X) → ((at : ℕ) (x : X) → get_elem? xs at ≡ some x → f x ≡ 0 → g x ≡ 0) → sum_by f xs ≡ 0 → sum_by g xs ≡ 0
  sum_by_of_nothing [] idle none = refl
  sum_by_of_nothing (x ∷ xs) idle none =
      let fs = sum_by-cons f x xs in
      let gs = sum_by-cons g x xs in
      let here : g x ≡ 0 = idle 0 x refl (omega arith) in
      let rest : sum_by g xs ≡ 0 = sum_by_of_nothing xs (λ at y is z. idle (suc at) y is z) (omega arith) in
      omega arith

  -- the same where f finds something in one entry alone
  pub sum_by_of_one : (xs : List X) (at : ℕ) (x : X) → get_elem? xs at ≡ some x
      → ((j : ℕ) (y : X) → get_elem? xs j ≡ some y → f y ≡ 0 → g y ≡ 0) → sum_by f xs ≡ f x → sum_by g xs ≡ g x
  sum_by_of_one [] at x is idle all = absurd (some-ne-none x (sym is))
  sum_by_of_one (z ∷ zs) zero x is idle all =
      let same = some-injective z x is in
      let fs = sum_by-cons f z zs in
      let gs = sum_by-cons g z zs in
      let f_same : f z ≡ f x = ap f same in
      let g_same : g z ≡ g x = ap g same in
      let rest : sum_by g zs ≡ 0 = sum_by_of_nothing zs (λ j y at none. idle (suc j) y at none) (omega arith) in
      omega arith
  sum_by_of_one (z ∷ zs) (suc at) x is idle all =
      let within = within_sum f zs at x is in
      let fs = sum_by-cons f z zs in
      let gs = sum_by-cons g z zs in
      let f_none : f z ≡ 0 = omega arith in
      let g_none : g z ≡ 0 = idle 0 z refl f_none in
      let rest = sum_by_of_one zs at x is (λ j y at none. idle (suc j) y at none) (omega arith) in
      omega arith
