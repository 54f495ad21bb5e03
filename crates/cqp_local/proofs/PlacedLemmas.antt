-- Maps that were changed at some numbers.
use Rattle.std.proofs.Common.{◌≡◌, ℕ, true, false, List, [], ◌∷◌, ◌==◌, ◌+◌, length, Option, Some, None, refl, arith, ◌∙◌, ⊎_elim, zero, suc, ◌≤◌, ◌<◌, ◌⊎◌}
use Rattle.std.proofs.Common.{inl, inr}
use Rattle.std.proofs.lemmas.Bool.{cases_Bool, or_parts, or_right, eqb-false, eqb-true, false_from_ne_true, both_ways, cases_lt}
use Rattle.std.specs.List.{range_with_len}
use Rattle.cqp_book.specs.Keys.{has}
use Rattle.cqp_parts.specs.declared.part.Part.{Part}
use Rattle.cqp_machine.specs.Cells.{with_at}
use Rattle.cqp_parts.specs.Parts.{more_than_one}
use Rattle.cqp_machine.specs.After.{placed_from, placed}

-- a map changed at a number, there and elsewhere
pub with_at_same : {X : Type 0} (n m : ℕ) (x : Option X) (f g : ℕ → Option X) → (m == n) ≡ true → with_at n x f m ≡ with_at n x g m
with_at_same n m x f g h = rw h refl

-- it has there what was put
pub with_at_in : {X : Type 0} (n m : ℕ) (x : Option X) (f : ℕ → Option X) → (m == n) ≡ true → with_at n x f m ≡ x
with_at_in n m x f h = rw h refl

-- elsewhere it is as it was
pub with_at_out : {X : Type 0} (n m : ℕ) (x : Option X) (f : ℕ → Option X) → (m == n) ≡ false → with_at n x f m ≡ f m
with_at_out n m x f h = rw h refl

-- the same change of maps that agree at a number
pub with_at_alike : {X : Type 0} (n m : ℕ) (x : Option X) (f g : ℕ → Option X) → f m ≡ g m → with_at n x f m ≡ with_at n x g m
with_at_alike n m x f g h = rw h refl

-- parts that are placed from n on: maps that agree at a number agree there afterwards
pub placed_from_alike : (n : ℕ) (ps : List Part) (f g : ℕ → Option Part) (m : ℕ) → f m ≡ g m → placed_from n ps f m ≡ placed_from n ps g m
placed_from_alike n [] f g m h = h
placed_from_alike n (p ∷ ps) f g m h = placed_from_alike (n + 1) ps (with_at n (Some p) f) (with_at n (Some p) g) m (with_at_alike n m (Some p) f g h)

-- at a number where one is placed, nothing else counts
pub placed_from_in : (n : ℕ) (ps : List Part) (f g : ℕ → Option Part) (m : ℕ) → has m (range_with_len n (length ps)) ≡ true
    → placed_from n ps f m ≡ placed_from n ps g m
placed_from_in n [] f g m h = cc
placed_from_in n (p ∷ ps) f g m h = ⊎_elim
    (λ (e : (m == n) ≡ true).
    placed_from_alike (n + 1) ps (with_at n (Some p) f) (with_at n (Some p) g) m (with_at_same n m (Some p) f g e))
    (λ (e : (m == n) ≡ false).
    placed_from_in (n + 1) ps (with_at n (Some p) f) (with_at n (Some p) g) m (rw e at h))
    (cases_Bool (m == n))

-- and elsewhere the map stays
pub placed_from_out : (n : ℕ) (ps : List Part) (f : ℕ → Option Part) (m : ℕ) → has m (range_with_len n (length ps)) ≡ false
    → placed_from n ps f m ≡ f m
placed_from_out n [] f m h = refl
placed_from_out n (p ∷ ps) f m h =
    let parts = or_parts (m == n) (has m (range_with_len (n + 1) (length ps))) h in
    placed_from_out (n + 1) ps (with_at n (Some p) f) m parts.1 ∙ with_at_out n m (Some p) f parts.0

-- the same in the place of part i
pub placed_alike : (i n : ℕ) (ps : List Part) (f g : ℕ → Option Part) (m : ℕ) → f m ≡ g m → placed i n ps f m ≡ placed i n ps g m
placed_alike i n [] f g m h = with_at_alike i m None f g h
placed_alike i n (p ∷ ps) f g m h = placed_from_alike n ps (with_at i (Some p) f) (with_at i (Some p) g) m (with_at_alike i m (Some p) f g h)

-- at the part's own number nothing else counts
pub placed_at : (i n : ℕ) (ps : List Part) (f g : ℕ → Option Part) (m : ℕ) → (m == i) ≡ true → placed i n ps f m ≡ placed i n ps g m
placed_at i n [] f g m h = with_at_same i m None f g h
placed_at i n (p ∷ ps) f g m h = placed_from_alike n ps (with_at i (Some p) f) (with_at i (Some p) g) m (with_at_same i m (Some p) f g h)

-- nor at an unused number that is taken
pub placed_in : (i n : ℕ) (ps : List Part) (f g : ℕ → Option Part) (m : ℕ) → has m (range_with_len n (more_than_one ps)) ≡ true
    → placed i n ps f m ≡ placed i n ps g m
placed_in i n [] f g m h = cc
placed_in i n (p ∷ ps) f g m h = placed_from_in n ps (with_at i (Some p) f) (with_at i (Some p) g) m h

-- elsewhere the map stays
pub placed_out : (i n : ℕ) (ps : List Part) (f : ℕ → Option Part) (m : ℕ) → (m == i) ≡ false
    → has m (range_with_len n (more_than_one ps)) ≡ false → placed i n ps f m ≡ f m
placed_out i n [] f m h k = with_at_out i m None f h
placed_out i n (p ∷ ps) f m h k = placed_from_out n ps (with_at i (Some p) f) m k ∙ with_at_out i m (Some p) f h

-- the numbers from n on, as many as k
pub range_has : (m n k : ℕ) → n ≤ m → m < n + k → has m (range_with_len n k) ≡ true
range_has m n zero low high = absurd (omega arith)
range_has m n (suc k) low high = ⊎_elim
    (λ (e : (m == n) ≡ true). rw e refl)
    (λ (e : (m == n) ≡ false).
    let other = eqb-false m n e in
    or_right (m == n) (has m (range_with_len (n + 1) k)) (range_has m (n + 1) k (omega arith) (omega arith)))
    (cases_Bool (m == n))

-- what is among the numbers from n on is one of them
pub range_bounds : (m n k : ℕ) → has m (range_with_len n k) ≡ true → (n ≤ m) × (m < n + k)
range_bounds m n zero h = cc
range_bounds m n (suc k) h = ⊎_elim
    (λ (e : (m == n) ≡ true). let same = eqb-true m n e in (omega arith, omega arith))
    (λ (e : (m == n) ≡ false).
    let later = range_bounds m (n + 1) k (rw e at h) in (omega (arith, later.0), omega (arith, later.1)))
    (cases_Bool (m == n))

-- of two ranges, one behind the other
pub range_first : (m n a b : ℕ) → has m (range_with_len n (a + b)) ≡ false → has m (range_with_len n a) ≡ false
range_first m n a b h = false_from_ne_true _
    (λ (t : has m (range_with_len n a) ≡ true).
    let bounds = range_bounds m n a t in
    both_ways _ h (range_has m n (a + b) bounds.0 (omega (arith, bounds.1))))

-- what is in neither range isn't in the second
pub range_second : (m n a b : ℕ) → has m (range_with_len n (a + b)) ≡ false → has m (range_with_len (n + a) b) ≡ false
range_second m n a b h = false_from_ne_true _
    (λ (t : has m (range_with_len (n + a) b) ≡ true).
    let bounds = range_bounds m (n + a) b t in
    both_ways _ h (range_has m n (a + b) (omega (arith, bounds.0)) (omega (arith, bounds.1))))

-- what is in both together is in one of them
pub range_either : (m n a b : ℕ) → has m (range_with_len n (a + b)) ≡ true
    → (has m (range_with_len n a) ≡ true) ⊎ (has m (range_with_len (n + a) b) ≡ true)
range_either m n a b h =
    let bounds = range_bounds m n (a + b) h in
    ⊎_elim
    (λ (low : m < n + a). inl (range_has m n a bounds.0 low))
    (λ (high : n + a ≤ m). inr (range_has m (n + a) b high (omega (arith, bounds.1))))
    (cases_lt m (n + a))
