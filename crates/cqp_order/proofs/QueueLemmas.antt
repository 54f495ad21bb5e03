-- Numbers in a heap of which the least comes first.
use Rattle.std.proofs.Common.{arith, ◌≡◌, ◌≤◌, ◌<◌, IsTrue, true, false, ℕ, List, [], ◌∷◌, sym, ◌∙◌, Bool, refl, ap, ◌==◌, ◌||◌, Some, None, Option, IfSome, IfNone, length, eq-eqb}
use Rattle.std.specs.Prelude.{slice_index_or}
use Rattle.std.specs.BinaryHeap.{IsHeap, IsUpperBound, PopsGreatest}
use Rattle.std.specs.declared.cmp.Reverse.{Reverse}
use Rattle.std.specs.List.Sorted.{IsPermutation}
use Rattle.std.specs.Ordering.{is_lt, nat_cmp}
use Rattle.std.proofs.lemmas.List.Sorted.{list_any-IsPermutation}
use Rattle.cqp_order.specs.Least.{IsLeast}
use Rattle.cqp_order.specs.Places.{has, least_first}
use Rattle.cqp_order.proofs.NumberLemmas.{eq_yes}

-- a number is among others and one more where it is that, or among them
pub has_one_more : (x : Reverse ℕ) (xs ys : List (Reverse ℕ)) → IsPermutation (x ∷ xs) ys → (k : ℕ) → has ys k ≡ (x.0 == k || has xs k)
has_one_more x xs ys moved k = sym (list_any-IsPermutation (λ y. y.0 == k) (x ∷ xs) ys moved)

-- what isn't less than the first is at least that
not_less : (m k : ℕ) → is_lt (nat_cmp k m) ≡ false → m ≤ k
not_less m k h = grind arith

-- where none is less, each number there is at least that
pub above_least : (x : Reverse ℕ) (xs : List (Reverse ℕ)) → IsUpperBound least_first x xs → (k : ℕ) → IsTrue (has xs k) → x.0 ≤ k
above_least x [] all k h = let never : false ≡ true = h in cc
above_least x (y ∷ ys) all k h = by_first (λ there. above_least x ys all.1 k there) (y.0 == k) refl h
  where
    by_first : (IsTrue (has ys k) → x.0 ≤ k) → (b : Bool) → (y.0 == k) ≡ b → (b || has ys k) ≡ true → x.0 ≤ k
    by_first other true e there = let same = eq_yes y.0 k e in let less = not_less x.0 y.0 all.0 in omega arith
    by_first other false e there = other there

-- a number is among those that it leads
pub has_first : (x : Reverse ℕ) (xs : List (Reverse ℕ)) → 0 < length xs → x ≡ slice_index_or xs 0 x → IsTrue (has xs x.0)
has_first x [] some is = absurd (omega arith)
has_first x (y ∷ ys) some is = let same : (y.0 == x.0) ≡ true = eq-eqb y.0 x.0 (ap (λ z. z.0) (sym is)) in ap (λ b. b || has ys x.0) same

-- the first is the least, where none is less
pub first_least : (x : Reverse ℕ) (xs : List (Reverse ℕ)) → 0 < length xs → x ≡ slice_index_or xs 0 x → IsUpperBound least_first x xs
    → IsLeast (λ k. IsTrue (has xs k)) (Some x.0)
first_least x xs some is above = (has_first x xs some is, above_least x xs above)

-- a list of no number has none
pub none_least : (xs : List (Reverse ℕ)) → (0 < length xs → ⊥) → IsLeast (λ k. IsTrue (has xs k)) None
none_least [] none k h = let never : false ≡ true = h in cc
none_least (x ∷ xs) none k h = none (omega arith)

-- one who is taken out and isn't less than the least is the least
pub rest_of_least : (m : ℕ) (x : Reverse ℕ) (xs ys : List (Reverse ℕ)) → IsPermutation xs (x ∷ ys) → IsUpperBound least_first x xs
    → IsLeast (λ k. IsTrue (has xs k)) (Some m) → (k : ℕ) → has xs k ≡ (m == k || has ys k)
rest_of_least m x xs ys moved above least k =
    let all : (j : ℕ) → has xs j ≡ (x.0 == j || has ys j) = λ j. list_any-IsPermutation (λ y. y.0 == j) xs (x ∷ ys) moved in
    let there : IsTrue (has xs x.0) = all x.0 ∙ ap (λ b. b || has ys x.0) (eq-eqb x.0 x.0 refl) in
    let one = above_least x xs above m least.0 in
    let other = least.1 x.0 there in
    let same : x.0 ≡ m = omega arith in
    all k ∙ ap (λ n. n == k || has ys k) same

-- a list that has a number isn't empty
some_there : (xs : List (Reverse ℕ)) (k : ℕ) → IsTrue (has xs k) → length xs ≡ 0 → ⊥
some_there [] k h none = let never : false ≡ true = h in cc
some_there (x ∷ xs) k h none = omega arith

-- what a heap gives that was asked for its least
pub popped : (m : ℕ) (r : Option (Reverse ℕ)) (old new : List (Reverse ℕ)) → IfSome r (λ x. IsPermutation old (x ∷ new))
    → IfSome r (λ x. PopsGreatest least_first old x new) → IfNone r (length old ≡ 0) → IsHeap least_first old
    → IsLeast (λ k. IsTrue (has old k)) (Some m) → (k : ℕ) → has old k ≡ (m == k || has new k)
popped m None old new moved order none heap least k = absurd (some_there old m least.0 none)
popped m (Some x) old new moved order none heap least k = rest_of_least m x old new moved (order heap).1 least k

-- where nothing is given, the list is empty
pub none_if : (r : Option (Reverse ℕ)) (n : ℕ) (xs : List (Reverse ℕ)) → IfNone r (n ≡ 0) → n ≡ length xs → IfNone r (length xs ≡ 0)
none_if None n xs none same = sym same ∙ none
none_if (Some x) n xs none same = tt
