-- Bindings whose names rise: a test against a name parts them, and those that are kept rise too.
use Rattle.std.proofs.Common.{◌≡◌, ℕ, zero, suc, true, false, Bool, List, [], ◌∷◌, filter, ◌≤◌, ◌<◌, nat_lt, length, slice_index_or, refl, subst, arith, ⊎_elim}
use Rattle.std.proofs.lemmas.Bool.{and_parts, and_from, ltb-true, lt-ltb, cases_lt, cases_Bool}
use Rattle.std.specs.List.{list_all}
use Rattle.cqp_parts.specs.declared.bind.Bind.{Bind}
use Rattle.cqp_standing.specs.Stands.{has_rising_names}

-- a test that holds of all holds at each place
pub all_at : {X : Type 0} (p : X → Bool) (xs : List X) (i : ℕ) (d : X) → list_all p xs ≡ true → i < length xs → p (slice_index_or xs i d) ≡ true
all_at p [] i d h w = absurd (omega arith)
all_at p (x ∷ xs) zero d h w = (and_parts (p x) (list_all p xs) h).0
all_at p (x ∷ xs) (suc i) d h w = all_at p xs i d (and_parts (p x) (list_all p xs) h).1 (omega arith)

-- the name at a place
abbrev pub name_at : List Bind → ℕ → Bind → ℕ
name_at xs i d = (slice_index_or xs i d).name

-- an earlier name is less
pub rises : (xs : List Bind) (i j : ℕ) (d : Bind) → has_rising_names xs ≡ true → i < j → j < length xs → name_at xs i d < name_at xs j d
rises [] i j d h a b = absurd (omega arith)
rises (x ∷ xs) zero zero d h a b = absurd (omega arith)
rises (x ∷ xs) (suc i) zero d h a b = absurd (omega arith)
rises (x ∷ xs) zero (suc j) d h a b =
    let parts = and_parts (list_all (λ c. nat_lt x.name c.name) xs) (has_rising_names xs) h in
    ltb-true x.name (name_at xs j d) (all_at (λ (c : Bind). nat_lt x.name c.name) xs j d parts.0 (omega arith))
rises (x ∷ xs) (suc i) (suc j) d h a b =
    let parts = and_parts (list_all (λ c. nat_lt x.name c.name) xs) (has_rising_names xs) h in
    rises xs i j d parts.1 (omega arith) (omega arith)

-- names that rise are parted by a test against one
pub names_parted : (xs : List Bind) (x : ℕ) → has_rising_names xs ≡ true → (i j : ℕ) (d : Bind) → i ≤ j → j < length xs
    → nat_lt (name_at xs j d) x ≡ true → nat_lt (name_at xs i d) x ≡ true
names_parted xs x rising i j d low w h = ⊎_elim
    (λ (t : i < j). lt-ltb (name_at xs i d) x (omega (arith, rises xs i j d rising t w, ltb-true (name_at xs j d) x h)))
    (λ (t : j ≤ i). let same : j ≡ i = omega arith in subst (λ k. nat_lt (name_at xs k d) x ≡ true) same h)
    (cases_lt i j)

-- a test that holds of all holds of those that are kept
all_kept : (keep p : Bind → Bool) (xs : List Bind) → list_all p xs ≡ true → list_all p (filter keep xs) ≡ true
all_kept keep p [] h = refl
all_kept keep p (x ∷ xs) h =
    let parts = and_parts (p x) (list_all p xs) h in ⊎_elim
    (λ (t : keep x ≡ true). rw t (and_from (p x) (list_all p (filter keep xs)) parts.0 (all_kept keep p xs parts.1)))
    (λ (t : keep x ≡ false). rw t (all_kept keep p xs parts.1))
    (cases_Bool (keep x))

-- names of bindings that are kept rise
pub kept_names_rise : (keep : Bind → Bool) (xs : List Bind) → has_rising_names xs ≡ true → has_rising_names (filter keep xs) ≡ true
kept_names_rise keep [] h = refl
kept_names_rise keep (x ∷ xs) h =
    let parts = and_parts (list_all (λ c. nat_lt x.name c.name) xs) (has_rising_names xs) h in ⊎_elim
    (λ (t : keep x ≡ true).
    rw t (and_from (list_all (λ c. nat_lt x.name c.name) (filter keep xs)) (has_rising_names (filter keep xs))
    (all_kept keep (λ c. nat_lt x.name c.name) xs parts.0) (kept_names_rise keep xs parts.1)))
    (λ (t : keep x ≡ false). rw t (kept_names_rise keep xs parts.1))
    (cases_Bool (keep x))
