-- Distinct numbers below n are at most n.
use Rattle.std.proofs.Common.{◌≡◌, ℕ, zero, suc, ◌+◌, ◌<◌, ◌≤◌, List, [], ◌∷◌, length, Bool, true, false, not, ◌==◌, ◌||◌, refl, sym, ap, ◌∙◌, arith}
use Rattle.std.specs.Prelude.{if◌then◌else◌, nat_lt}
use Rattle.std.specs.List.{list_any, list_all}
use Rattle.std.proofs.lemmas.Bool.Decides.{nat_tests}
use Rattle.cqp_syntax.specs.Lists.{is_distinct}
use Rattle.cqp_cells.proofs.Options.{both_true, yes_is_no}
use Rattle.cqp_syntax.proofs.Bools.{not_true}

-- the sum over the numbers below n
sum_to : ℕ → (ℕ → ℕ) → ℕ
sum_to zero f = 0
sum_to (suc n) f = sum_to n f + f n

-- 1 where two numbers are one
abbrev hit : ℕ → ℕ → ℕ
hit q i = if q == i then 1 else 0

-- how often a number stands in a list
abbrev count : ℕ → List ℕ → ℕ
count i [] = 0
count i (q ∷ qs) = hit q i + count i qs

-- a number that isn't below n is hit by no number below n
hits_none : (n q : ℕ) → n ≤ q → sum_to n (hit q) ≡ 0
unfolding sum_to
hits_none zero q le = refl
hits_none (suc n) q le =
    let low : n ≤ q = omega arith in
    let other : (q == n) ≡ false = grind (arith, nat_tests) in
    let here : hit q n ≡ 0 = rw other refl in
    omega (arith, hits_none n q low, here)

-- a number below n is hit once by the numbers below n
hits_one : (n q : ℕ) → q < n → sum_to n (hit q) ≡ 1
unfolding sum_to
hits_one zero q less = absurd (never less)
  where
    never : q < 0 → ⊥
    never h = omega arith
hits_one (suc n) q less = by_test (q == n) refl (hits_one n q)
  where
    by_test : (b : Bool) → (q == n) ≡ b → (q < n → sum_to n (hit q) ≡ 1) → sum_to n (hit q) + (if b then 1 else 0) ≡ 1
    by_test true e more = let same : q ≡ n = grind (arith, nat_tests) in omega (arith, hits_none n q (omega (arith, same)))
    by_test false e more = let low : q < n = grind (arith, nat_tests) in omega (arith, more low)

-- the sum of two functions over the numbers below n is the sum of their sums
sums : (n : ℕ) (f g : ℕ → ℕ) → sum_to n (λ i. f i + g i) ≡ sum_to n f + sum_to n g
unfolding sum_to
sums zero f g = refl
sums (suc n) f g = omega (arith, sums n f g)

-- the sum of zeros is 0
none : (n : ℕ) → sum_to n (λ i. 0) ≡ 0
unfolding sum_to
none zero = refl
none (suc n) = omega (arith, none n)

-- how often the numbers below n stand in a list of such numbers is, summed, the length of the list
counted : (n : ℕ) (qs : List ℕ) → list_all (λ q. nat_lt q n) qs ≡ true → sum_to n (λ i. count i qs) ≡ length qs
counted n [] h = none n
counted n (q ∷ qs) h =
    let parts = both_true (nat_lt q n) (list_all (λ r. nat_lt r n) qs) h in
    let less : q < n = grind (arith, nat_tests) in
    omega (arith, sums n (hit q) (λ i. count i qs), hits_one n q less, counted n qs parts.1)

-- a number that isn't in a list stands in it 0 times
absent : (i : ℕ) (qs : List ℕ) → list_any (λ y. i == y) qs ≡ false → count i qs ≡ 0
absent i [] h = refl
absent i (q ∷ qs) h = by_test (i == q) refl h (absent i qs)
  where
    by_test : (b : Bool) → (i == q) ≡ b → (b || list_any (λ y. i == y) qs) ≡ false → (list_any (λ y. i == y) qs ≡ false → count i qs ≡ 0)
        → hit q i + count i qs ≡ 0
    by_test true e g more = absurd (yes_is_no g)
    by_test false e g more =
        let other : (q == i) ≡ false = grind (arith, nat_tests) in
        let here : hit q i ≡ 0 = rw other refl in
        omega (arith, here, more g)

-- a number stands at most once in a list of distinct numbers
once : (i : ℕ) (qs : List ℕ) → is_distinct qs ≡ true → count i qs ≤ 1
once i [] h = omega arith
once i (q ∷ qs) h =
    let parts = both_true (not (list_any (λ y. q == y) qs)) (is_distinct qs) h in
    by_test (q == i) refl (not_true (list_any (λ y. q == y) qs) parts.0) (once i qs parts.1)
  where
    by_test : (b : Bool) → (q == i) ≡ b → list_any (λ y. q == y) qs ≡ false → count i qs ≤ 1 → (if b then 1 else 0) + count i qs ≤ 1
    by_test true e g more =
        let same : q ≡ i = grind (arith, nat_tests) in
        let gone : count i qs ≡ 0 = ap (λ j. count j qs) (sym same) ∙ absent q qs g in
        omega (arith, gone)
    by_test false e g more = omega (arith, more)

-- a sum over the numbers below n of at most 1 each is at most n
at_most : (n : ℕ) (f : ℕ → ℕ) → ((i : ℕ) → f i ≤ 1) → sum_to n f ≤ n
unfolding sum_to
at_most zero f each = omega arith
at_most (suc n) f each = omega (arith, at_most n f each, each n)

-- distinct numbers below n are at most n
pub few_distinct : (n : ℕ) (qs : List ℕ) → is_distinct qs ≡ true → list_all (λ q. nat_lt q n) qs ≡ true → length qs ≤ n
few_distinct n qs apart below = omega (arith, counted n qs below, at_most n (λ i. count i qs) (λ i. once i qs apart))
