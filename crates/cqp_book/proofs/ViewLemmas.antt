-- Measures over all views, added up.
use Rattle.std.proofs.Common.{◌≡◌, ◌≢◌, ℕ, zero, suc, ◌+◌, ◌≤◌, List, [], ◌∷◌, ◌++◌, set, refl, sym}
use Rattle.std.proofs.Common.{ap, arith}
use mathlib.Core.Option.{some, some-injective, some-ne-none}
use lib.ListN.{get_elem?}
use Rattle.cqp_book.specs.Views.{total}

module _ {V : Type 0} where
  -- what is written is found
  pub get_set : (l : List V) (i : ℕ) (a b : V) → get_elem? l i ≡ some a → get_elem? (set l i b) i ≡ some b
  get_set [] i a b e = absurd (some-ne-none a (sym e))
  get_set (x ∷ xs) zero a b e = refl
  get_set (x ∷ xs) (suc i) a b e = get_set xs i a b e

  -- the total after one view is written over
  pub total-set : (f : V → ℕ) (l : List V) (i : ℕ) (a b : V) → get_elem? l i ≡ some a → total f (set l i b) + f a ≡ total f l + f b
  total-set f [] i a b e = absurd (some-ne-none a (sym e))
  total-set f (x ∷ xs) zero a b e = let s : f x ≡ f a = ap f (some-injective x a e) in omega arith
  total-set f (x ∷ xs) (suc i) a b e = let h = total-set f xs i a b e in omega arith

  -- the total with one view more
  pub total-snoc : (f : V → ℕ) (l : List V) (b : V) → total f (l ++ b ∷ []) ≡ total f l + f b
  total-snoc f [] b = omega arith
  total-snoc f (x ∷ xs) b = let h = total-snoc f xs b in omega arith

  -- one view counts no more than all
  pub one_within_total : (f : V → ℕ) (l : List V) (i : ℕ) (a : V) → get_elem? l i ≡ some a → f a ≤ total f l
  one_within_total f [] i a e = absurd (some-ne-none a (sym e))
  one_within_total f (x ∷ xs) zero a e = let s : f x ≡ f a = ap f (some-injective x a e) in omega arith
  one_within_total f (x ∷ xs) (suc i) a e = let h = one_within_total f xs i a e in omega arith

  -- two views count no more than all
  pub two_within_total : (f : V → ℕ) (l : List V) (i j : ℕ) (a b : V) → i ≢ j → get_elem? l i ≡ some a → get_elem? l j ≡ some b → f a + f b ≤ total f l
  two_within_total f [] i j a b n e d = absurd (some-ne-none a (sym e))
  two_within_total f (x ∷ xs) zero zero a b n e d = absurd (n refl)
  two_within_total f (x ∷ xs) zero (suc j) a b n e d = let s : f x ≡ f a = ap f (some-injective x a e) in let h = one_within_total f xs j b d in omega arith
  two_within_total f (x ∷ xs) (suc i) zero a b n e d = let s : f x ≡ f b = ap f (some-injective x b d) in let h = one_within_total f xs i a e in omega arith
  two_within_total f (x ∷ xs) (suc i) (suc j) a b n e d = let h = two_within_total f xs i j a b (λ p. n (ap suc p)) e d in omega arith

  -- where no view counts, the total is 0
  pub total_of_none : (f : V → ℕ) (l : List V) → ((i : ℕ) (a : V) → get_elem? l i ≡ some a → f a ≡ 0) → total f l ≡ 0
  total_of_none f [] h = refl
  total_of_none f (x ∷ xs) h = let p : f x ≡ 0 = h 0 x refl in let r : total f xs ≡ 0 = total_of_none f xs (λ i a e. h (suc i) a e) in omega arith
