-- Parts in channels' lists: who stands in one, and lists without two or with one more.
use Rattle.std.proofs.Common.{◌≡◌, ◌≢◌, ℕ, zero, suc, true, false, Bool, List, [], ◌∷◌, ◌++◌, filter, ◌==◌, ◌||◌, not, ◌+◌, ◌≤◌, ◌<◌, Option, Some, None, refl}
use Rattle.std.proofs.Common.{sym, ap, arith, ne_eqb, ◌∙◌, ⊎_elim}
use Rattle.std.proofs.lemmas.Bool.{cases_Bool, or_cases, or_left, or_right, or_from, or_parts, and_parts, and_from, eqb-true, eqb-false, not-true}
use Rattle.std.proofs.lemmas.Bool.{not_from_false, both_ways, false_from_ne_true}
use Rattle.std.specs.List.{list_any, range_with_len}
use mathlib.Core.Logic.{dite}
use native.Mathlib.Decide.{ℕ_discrete}
use Rattle.cqp_book.specs.Keys.{has}
use Rattle.cqp_syntax.specs.Lists.{is_distinct}
use Rattle.cqp_machine.specs.Cells.{Channel, Cells}
use Rattle.cqp_machine.specs.After.{without_two}
use Rattle.cqp_waiting.specs.Waiting.{waits_in, is_parked}
use Rattle.cqp_local.proofs.KeyLemmas.{has-append}

-- the part stands in the list of a channel
pub record Parked (chans : ℕ → Option Channel) (i : ℕ) : Type 0 where
  pub chan : ℕ
  pub channel : Channel
  pub there : chans chan ≡ Some channel
  pub waits : has i channel.waiting ≡ true

-- a test that some number of a range passes
any_range : (g : ℕ → Bool) (k m n : ℕ) → m ≤ k → k < m + n → g k ≡ true → list_any g (range_with_len m n) ≡ true
any_range g k m zero low high h = absurd (omega arith)
any_range g k m (suc n) low high h = dite (ℕ_discrete k m)
    (λ (e : k ≡ m). or_left (g m) (list_any g (range_with_len (m + 1) n)) (sym (ap g e) ∙ h))
    (λ (e : k ≢ m). or_right (g m) (list_any g (range_with_len (m + 1) n)) (any_range g k (m + 1) n (omega arith) (omega arith) h))

-- and what passes
range_any : (g : ℕ → Bool) (m n : ℕ) → list_any g (range_with_len m n) ≡ true → (k : ℕ) × (g k ≡ true)
range_any g m zero h = cc
range_any g m (suc n) h = ⊎_elim
    (λ (t : g m ≡ true). (m, t))
    (λ (t : list_any g (range_with_len (m + 1) n) ≡ true). range_any g (m + 1) n t)
    (or_cases (g m) (list_any g (range_with_len (m + 1) n)) h)

-- the test is right
waiter : (i k : ℕ) (chans : ℕ → Option Channel) (x : Option Channel) → chans k ≡ x → waits_in i x ≡ true → Parked chans i
waiter i k chans None e h = cc
waiter i k chans (Some c) e h = record { chan = k; channel = c; there = e; waits = h }

-- one who waits by the test stands in a list
pub parked_there : (n : ℕ) (c : Cells) (i : ℕ) → is_parked n c i ≡ true → Parked c.chans i
parked_there n c i h = let one = range_any (λ k. waits_in i (c.chans k)) 0 n h in waiter i one.0 c.chans (c.chans one.0) refl one.1

-- and the other way round
pub there_parked : (n : ℕ) (c : Cells) (i : ℕ) (x : Parked c.chans i) → x.chan < n → is_parked n c i ≡ true
there_parked n c i x h = any_range (λ k. waits_in i (c.chans k)) x.chan 0 n (omega arith) (omega arith) (ap (waits_in i) x.there ∙ x.waits)

-- two tests that pass together are one
pub same_test : (a b : Bool) → (a ≡ true → b ≡ true) → (b ≡ true → a ≡ true) → a ≡ b
same_test true b f g = sym (f refl)
same_test false true f g = g refl
same_test false false f g = refl

-- who is left in a list without two
abbrev is_other : ℕ → ℕ → ℕ → Bool
is_other i j x = not ((x == i) || (x == j))

-- who is left by a filter was there, and passes
in_filter : (f : ℕ → Bool) (k : ℕ) (xs : List ℕ) → has k (filter f xs) ≡ true → (has k xs ≡ true) × (f k ≡ true)
in_filter f k [] h = cc
in_filter f k (x ∷ xs) h = ⊎_elim
    (λ (t : f x ≡ true). ⊎_elim
    (λ (u : (k == x) ≡ true). (or_left (k == x) (has k xs) u, ap f (eqb-true k x u) ∙ t))
    (λ (u : has k (filter f xs) ≡ true). let later = in_filter f k xs u in (or_right (k == x) (has k xs) later.0, later.1))
    (or_cases (k == x) (has k (filter f xs)) (rw t at h)))
    (λ (t : f x ≡ false). let later = in_filter f k xs (rw t at h) in (or_right (k == x) (has k xs) later.0, later.1))
    (cases_Bool (f x))

-- and the other way round
filter_in : (f : ℕ → Bool) (k : ℕ) (xs : List ℕ) → has k xs ≡ true → f k ≡ true → has k (filter f xs) ≡ true
filter_in f k [] h e = cc
filter_in f k (x ∷ xs) h e = ⊎_elim
    (λ (u : (k == x) ≡ true). let t : f x ≡ true = sym (ap f (eqb-true k x u)) ∙ e in rw t (or_left (k == x) (has k (filter f xs)) u))
    (λ (u : has k xs ≡ true). let later = filter_in f k xs u e in ⊎_elim
    (λ (t : f x ≡ true). rw t (or_right (k == x) (has k (filter f xs)) later))
    (λ (t : f x ≡ false). rw t later)
    (cases_Bool (f x)))
    (or_cases (k == x) (has k xs) h)

-- one that is left was there, and is neither
pub record Left (i j k : ℕ) (xs : List ℕ) : Type 0 where
  pub was : has k xs ≡ true
  pub not_first : k ≢ i
  pub not_second : k ≢ j

-- who is left in a list without two
pub without_was : (i j k : ℕ) (xs : List ℕ) → has k (without_two i j xs) ≡ true → Left i j k xs
without_was i j k xs h =
    let one = in_filter (is_other i j) k xs h in
    let apart = or_parts (k == i) (k == j) (not-true ((k == i) || (k == j)) one.1) in
    record { was = one.0; not_first = eqb-false k i apart.0; not_second = eqb-false k j apart.1 }

-- and who stays
pub was_without : (i j k : ℕ) (xs : List ℕ) → Left i j k xs → has k (without_two i j xs) ≡ true
was_without i j k xs x =
    filter_in (is_other i j) k xs x.was
    (not_from_false ((k == i) || (k == j)) (or_from (k == i) (k == j) (ne_eqb k i x.not_first) (ne_eqb k j x.not_second)))

-- lists without repetition
pub any_has : (x : ℕ) (xs : List ℕ) → list_any (λ y. x == y) xs ≡ has x xs
any_has x [] = refl
any_has x (y ∷ xs) = ap (λ b. (x == y) || b) (any_has x xs)

-- a list without repetition, taken apart
distinct_parts : (x : ℕ) (xs : List ℕ) → is_distinct (x ∷ xs) ≡ true → (has x xs ≡ false) × (is_distinct xs ≡ true)
distinct_parts x xs h =
    let parts = and_parts (not (list_any (λ y. x == y) xs)) (is_distinct xs) h in
    (sym (any_has x xs) ∙ not-true (list_any (λ y. x == y) xs) parts.0, parts.1)

-- and put together
distinct_more : (x : ℕ) (xs : List ℕ) → has x xs ≡ false → is_distinct xs ≡ true → is_distinct (x ∷ xs) ≡ true
distinct_more x xs h k =
    and_from (not (list_any (λ y. x == y) xs)) (is_distinct xs) (not_from_false (list_any (λ y. x == y) xs) (any_has x xs ∙ h)) k

-- a filter brings no repetition
distinct-filter : (f : ℕ → Bool) (xs : List ℕ) → is_distinct xs ≡ true → is_distinct (filter f xs) ≡ true
distinct-filter f [] h = refl
distinct-filter f (x ∷ xs) h =
    let parts = distinct_parts x xs h in
    let later = distinct-filter f xs parts.1 in
    ⊎_elim
    (λ (t : f x ≡ true). rw t (distinct_more x (filter f xs) (false_from_ne_true _ (λ u. both_ways _ parts.0 (in_filter f x xs u).0)) later))
    (λ (t : f x ≡ false). rw t later)
    (cases_Bool (f x))

-- nor does leaving out two
pub distinct-without : (i j : ℕ) (xs : List ℕ) → is_distinct xs ≡ true → is_distinct (without_two i j xs) ≡ true
distinct-without i j xs h = distinct-filter (is_other i j) xs h

-- a test that fails adds nothing
or_none : (b : Bool) → (b || false) ≡ b
or_none true = refl
or_none false = refl

-- one more at the end
pub has-snoc : (k i : ℕ) (xs : List ℕ) → has k (xs ++ i ∷ []) ≡ (has k xs || (k == i))
has-snoc k i xs = has-append k xs (i ∷ []) ∙ ap (λ b. has k xs || b) (or_none (k == i))

-- one who was not there brings no repetition
pub distinct-snoc : (i : ℕ) (xs : List ℕ) → is_distinct xs ≡ true → has i xs ≡ false → is_distinct (xs ++ i ∷ []) ≡ true
distinct-snoc i [] h e = refl
distinct-snoc i (x ∷ xs) h e =
    let parts = distinct_parts x xs h in
    let other = or_parts (i == x) (has i xs) e in
    let apart : (x == i) ≡ false = ne_eqb x i (λ z. eqb-false i x other.0 (sym z)) in
    distinct_more x (xs ++ i ∷ []) (has-snoc x i xs ∙ or_from (has x xs) (x == i) parts.0 apart) (distinct-snoc i xs parts.1 other.1)
