-- Numbers, and what stands by number in a list, as pairs.
use Rattle.std.proofs.Common.{arith, ◌≡◌, ◌<◌, ◌+◌, ℕ, zero, suc, List, [], ◌∷◌, length, true, false, Bool, refl, ap, sym, ◌∙◌, ◌==◌, Some, None, Option, if◌then◌else◌, cond}
use Rattle.std.specs.Prelude.{slice_set, replicate}
use Rattle.std.specs.Cmp.{unsigned_tied}
use Rattle.std.proofs.lemmas.List.{get_or-set_same, get_or-set_other}
use Rattle.std.proofs.lemmas.Option.{none-some}
use Rattle.cqp_order.specs.declared.stand.Stand.{Stand}
use Rattle.cqp_order.specs.Numbered.{numbered}
use Rattle.cqp_order.specs.Places.{stands_in}
use Rattle.cqp_order.specs.Stands.{IsChange, stand_at}

-- numbers that are told to be equal are
pub eq_yes : (a b : ℕ) → (a == b) ≡ true → a ≡ b
eq_yes a b e = grind arith

-- nothing is both true and false
pub not_both : (b : Bool) → b ≡ true → b ≡ false → ⊥
not_both b h g = cc

-- no pair has a number below the first
numbered_below : (n : ℕ) (xs : List (Option Stand)) (k : ℕ) → k < n → stand_at (numbered n xs) k ≡ None
numbered_below n [] k h = refl
numbered_below n (None ∷ xs) k h = numbered_below (n + 1) xs k (omega arith)
numbered_below n (Some x ∷ xs) k h =
    let other : (k == n) ≡ false = grind arith in
    ap (λ b. cond b (Some x) (stand_at (numbered (n + 1) xs) k)) (unsigned_tied k n ∙ other) ∙ numbered_below (n + 1) xs k (omega arith)

-- at each number from the first on stands what the list has there
numbered_from : (n : ℕ) (xs : List (Option Stand)) (k : ℕ) → stand_at (numbered n xs) (n + k) ≡ stands_in xs k
numbered_from n [] k = refl
numbered_from n (None ∷ xs) zero = numbered_below (n + 1) xs (n + 0) (omega arith)
numbered_from n (None ∷ xs) (suc k) =
    let more : n + suc k ≡ n + 1 + k = omega arith in ap (stand_at (numbered (n + 1) xs)) more ∙ numbered_from (n + 1) xs k
numbered_from n (Some x ∷ xs) zero =
    let here : (n + 0 == n) ≡ true = grind arith in
    ap (λ b. cond b (Some x) (stand_at (numbered (n + 1) xs) (n + 0))) (unsigned_tied (n + 0) n ∙ here)
numbered_from n (Some x ∷ xs) (suc k) =
    let other : (n + suc k == n) ≡ false = grind arith in
    let more : n + suc k ≡ n + 1 + k = omega arith in
    ap (λ b. cond b (Some x) (stand_at (numbered (n + 1) xs) (n + suc k))) (unsigned_tied (n + suc k) n ∙ other)
    ∙ (ap (stand_at (numbered (n + 1) xs)) more ∙ numbered_from (n + 1) xs k)

-- so of the whole list
pub numbered_at : (xs : List (Option Stand)) (k : ℕ) → stand_at (numbered 0 xs) k ≡ stands_in xs k
numbered_at xs k = let more : k ≡ 0 + k = omega arith in ap (stand_at (numbered 0 xs)) more ∙ numbered_from 0 xs k

-- where nothing stands there is no pair
pub numbered_none : (n m : ℕ) → numbered {X = Stand} n (replicate m None) ≡ []
numbered_none n zero = refl
numbered_none n (suc m) = numbered_none (n + 1) m

-- a list that is changed at a number stands otherwise there alone
pub numbered_set : (xs : List (Option Stand)) (k : ℕ) (w : Option Stand) → k < length xs → IsChange (numbered 0 xs) (numbered 0 (slice_set xs k w)) k w
numbered_set xs k w h i = numbered_at (slice_set xs k w) i ∙ (by_number (k == i) refl ∙ ap (λ o. if k == i then w else o) (sym (numbered_at xs i)))
  where
    by_number : (b : Bool) → (k == i) ≡ b → stands_in (slice_set xs k w) i ≡ (if k == i then w else stands_in xs i)
    by_number true e = ap (stands_in (slice_set xs k w)) (sym (eq_yes k i e)) ∙ (get_or-set_same xs k w None h ∙ sym (ap (λ b. if b then w else stands_in xs i) e))
    by_number false e =
        let apart : i ≡ k → ⊥ = λ z. (let here : (k == i) ≡ true = grind arith in not_both _ here e) in
        get_or-set_other xs k i w None apart ∙ sym (ap (λ b. if b then w else stands_in xs i) e)

-- what stands somehow has a number below the length
pub stands_within : (xs : List (Option Stand)) (k : ℕ) (s : Stand) → stands_in xs k ≡ Some s → k < length xs
stands_within [] k s e = elim (none-some s e) [ ]
stands_within (x ∷ xs) zero s e = omega arith
stands_within (x ∷ xs) (suc k) s e = let below = stands_within xs k s e in omega arith
