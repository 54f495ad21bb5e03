-- Sums of odds: their parts, and one more odd.
use Rattle.std.proofs.Common.{◌≡◌, ◌≢◌, ℕ, zero, suc, ◌+◌, ◌*◌, ◌<◌, ◌≤◌, List, [], ◌∷◌, length}
use Rattle.std.proofs.Common.{take, arith, sym, ap, ◌∙◌, inl, inr, ◌⊎◌, add-one}
use Rattle.std.proofs.Math.Seq.{take-length}
use Rattle.std.proofs.Math.Nat.{mul-le-mul}
use Rattle.std.proofs.lemmas.Bool.{cases_lt}
use Rattle.std.proofs.lemmas.Int.{ints}
use Rattle.std.specs.Prelude.{ℤ, pos, negsuc, neg_ℤ, nat_abs, ◌+ℤ◌, ◌*ℤ◌, ◌≤ℤ◌, All}
use Rattle.cqp_ring.specs.declared.root.Root.{Root}
use Rattle.cqp_ring.specs.Root.{IsAtLeastZero, RootFits, root_at, root_conjugate, root_sum}
use Rattle.cqp_ring.specs.Root.{root_total, zero_root}
use Rattle.cqp_choose.specs.Odds.{IsLawfulOdd, IsFair, IsLawful}
use Rattle.cqp_choose.specs.Small.{IsSmall}

-- norms of the same parts are the same
pub same_root : {p q r s : ℤ} → p ≡ r → q ≡ s → let x : Root = record { p = p; q = q } in let y : Root = record { p = r; q = s } in x ≡ y
same_root e f = cc

-- the number of a lesser square is lesser
root_le : (a b : ℕ) → a * a ≤ b * b → a ≤ b
root_le a b h = by_cases (cases_lt b a)
  where
    by_cases : (b < a) ⊎ (a ≤ b) → a ≤ b
    by_cases (inl more) =
        let f : (b + 1) * (b + 1) ≤ a * a = mul-le-mul {n₁ = b + 1} {m₁ = b + 1} {n₂ = a} {m₂ = a} (omega arith) (omega arith) in
        absurd (omega arith)
    by_cases (inr less) = less

-- the part with root 2 is no greater than the whole part
abbrev pub IsWide : Root → Type 0
IsWide x = pos (nat_abs x.q) ≤ℤ x.p

-- where twice the square of q is at most that of p, q's size is at most p
squares_wide : (p q : ℤ) → pos 0 ≤ℤ p → (pos 2 *ℤ (q *ℤ q)) ≤ℤ (p *ℤ p) → pos (nat_abs q) ≤ℤ p
squares_wide (pos m) (pos n) s h = let f : n ≤ m = root_le n m (omega (arith, ints)) in omega (arith, ints)
squares_wide (pos m) (negsuc n) s h = let f : suc n ≤ m = root_le (suc n) m (omega (arith, ints)) in omega (arith, ints)
squares_wide (negsuc m) q s h = absurd (omega (arith, ints))

-- two signs of root 2, and both at least 0
odd_wide : (x : Root) → IsLawfulOdd x → IsWide x
odd_wide x h = by_cases h.above h.turned_above
  where
    by_cases : IsAtLeastZero x → IsAtLeastZero (root_conjugate x) → IsWide x
    by_cases (inl h) (inl g) = omega (arith, ints, h.0, h.1, g.1)
    by_cases (inl h) (inr (inl g)) = let f = squares_wide x.p (neg_ℤ x.q) h.0 g.2 in omega (arith, ints)
    by_cases (inl h) (inr (inr g)) = absurd (omega (arith, ints, h.0, g.0))
    by_cases (inr (inl h)) g = squares_wide x.p x.q h.0 h.2
    by_cases (inr (inr h)) (inl g) = absurd (omega (arith, ints, h.0, g.0))
    by_cases (inr (inr h)) (inr (inl g)) = absurd (omega (arith, ints, h.0, g.0))
    by_cases (inr (inr h)) (inr (inr g)) = absurd (omega (arith, ints, h.1, g.1))

-- a sum of two such norms is one
wide_sum : (x y : Root) → IsWide x → IsWide y → IsWide (root_sum x y)
wide_sum x y h g = omega (arith, ints)

-- odds without the first are lawful
rest_odd : (x : Root) (xs : List Root) → All IsLawfulOdd (x ∷ xs) → All IsLawfulOdd xs
rest_odd x xs h k d below = h (suc k) d (omega arith)

-- the first of lawful odds is lawful
first_odd : (x : Root) (xs : List Root) → All IsLawfulOdd (x ∷ xs) → IsLawfulOdd x
first_odd x xs h = h 0 x (omega arith)

-- the sum of lawful odds is such a norm
pub total_wide : (xs : List Root) → All IsLawfulOdd xs → IsWide (root_total xs)
total_wide [] h = omega (arith, ints)
total_wide (x ∷ xs) h = wide_sum x (root_total xs) (odd_wide x (first_odd x xs h)) (total_wide xs (rest_odd x xs h))

-- the first n of lawful odds are lawful
front_odd : (xs : List Root) (n : ℕ) → All IsLawfulOdd xs → All IsLawfulOdd (take n xs)
front_odd xs zero h k d below = absurd (omega arith)
front_odd [] (suc n) h k d below = absurd (omega arith)
front_odd (x ∷ xs) (suc n) h zero d below = h 0 d (omega arith)
front_odd (x ∷ xs) (suc n) h (suc k) d below = front_odd xs n (rest_odd x xs h) k d (omega arith)

-- the whole part of the sum of the first odds is at most that of all
front_le : (xs : List Root) (n : ℕ) → All IsLawfulOdd xs → (root_total (take n xs)).p ≤ℤ (root_total xs).p
front_le xs zero h = let f = total_wide xs h in omega (arith, ints)
front_le [] (suc n) h = omega (arith, ints)
front_le (x ∷ xs) (suc n) h = let f = front_le xs n (rest_odd x xs h) in omega (arith, ints)

-- the sum of the first odds is small
pub front_small : (xs : List Root) (n : ℕ) → IsLawful xs → IsSmall (root_total (take n xs))
front_small xs n h = record {
  root = total_wide (take n xs) (front_odd xs n h.fair.each);
  whole = let f = front_le xs n h.fair.each in omega (arith, ints, h.total);
}

-- the sum of lawful odds is small
pub total_small : (xs : List Root) → IsLawful xs → IsSmall (root_total xs)
total_small xs h = record { root = total_wide xs h.fair.each; whole = h.total }

-- sums of norms may be bracketed either way
sum_assoc : (x y z : Root) → root_sum x (root_sum y z) ≡ root_sum (root_sum x y) z
sum_assoc x y z = same_root (omega (arith, ints)) (omega (arith, ints))

-- one more odd
one_more_suc : (xs : List Root) (i : ℕ) → root_total (take (suc i) xs) ≡ root_sum (root_total (take i xs)) (root_at xs i)
one_more_suc [] zero = same_root (omega (arith, ints)) (omega (arith, ints))
one_more_suc [] (suc i) = same_root (omega (arith, ints)) (omega (arith, ints))
one_more_suc (x ∷ xs) zero = same_root (omega (arith, ints)) (omega (arith, ints))
one_more_suc (x ∷ xs) (suc i) = ap (root_sum x) (one_more_suc xs i) ∙ sum_assoc x (root_total (take i xs)) (root_at xs i)

-- the sum of the first odds, and of one more
pub one_more : (xs : List Root) (i : ℕ) → root_total (take (i + 1) xs) ≡ root_sum (root_total (take i xs)) (root_at xs i)
one_more xs i = rw add-one (one_more_suc xs i)

-- all of them
pub all_of_them : (xs : List Root) → root_total (take (length xs) xs) ≡ root_total xs
all_of_them xs = ap root_total (take-length xs)

-- the sum of fair odds isn't 0
pub total_apart : (xs : List Root) → IsFair xs → root_total xs ≢ zero_root
total_apart [] h e = absurd (omega (arith, h.some))
total_apart (x ∷ xs) h e =
    let odd = first_odd x xs h.each in
    let wide = odd_wide x odd in
    let rest = total_wide xs (rest_odd x xs h.each) in
    let none : x.p +ℤ (root_total xs).p ≡ pos 0 = ap (λ (t : Root). t.p) e in
    odd.other (same_root (omega (arith, ints)) (omega (arith, ints)))

-- the sum of odds is at least 0, by the law of sums
pub total_above : ((x y : Root) → IsAtLeastZero x → IsAtLeastZero y → IsAtLeastZero (root_sum x y)) → (xs : List Root) → All IsLawfulOdd xs
    → IsAtLeastZero (root_total xs)
total_above sum [] h = inl (omega (arith, ints), omega (arith, ints))
total_above sum (x ∷ xs) h = sum x (root_total xs) (first_odd x xs h).above (total_above sum xs (rest_odd x xs h))

-- a small norm fits the type of norms
pub small_fits : (x : Root) → IsSmall x → RootFits x
small_fits x h = record { p_fits = omega (arith, ints, h.root, h.whole); q_fits = omega (arith, ints, h.root, h.whole) }

-- the sum of the first odds, after one more
pub next_sum : (xs : List Root) (i : ℕ) (sum next : Root) → sum ≡ root_total (take i xs) → next ≡ root_sum sum (root_at xs i)
    → next ≡ root_total (take (i + 1) xs)
next_sum xs i sum next e f = f ∙ ap (λ t. root_sum t (root_at xs i)) e ∙ sym (one_more xs i)
