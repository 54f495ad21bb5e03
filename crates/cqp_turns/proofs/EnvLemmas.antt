-- The value of a name in a list whose names rise.
use Rattle.std.proofs.Common.{◌≡◌, ◌≢◌, ℕ, zero, suc, true, List, [], ◌∷◌, ◌≤◌, ◌<◌, nat_lt, length, slice_index_or, Some, None, refl, sym, subst, arith}
use Rattle.std.proofs.Common.{⊎_elim}
use Rattle.std.proofs.lemmas.Bool.{and_parts, eq-eqb, ltb-true, ne_eqb, cases_lt}
use Rattle.std.specs.List.{list_all}
use Rattle.cqp_parts.specs.declared.bind.Bind.{Bind}
use Rattle.cqp_standing.specs.Stands.{val_of, has_rising_names}
use Rattle.cqp_standing.proofs.RisingNames.{all_at, name_at, rises}

-- the name at a place
pub found_at : (xs : List Bind) (i : ℕ) (d : Bind) (x : ℕ) → has_rising_names xs ≡ true → i < length xs → name_at xs i d ≡ x
    → val_of x xs ≡ Some (slice_index_or xs i d).val
found_at [] i d x h w e = absurd (omega arith)
found_at (b ∷ bs) zero d x h w e = rw (eq-eqb x b.name (sym e)) refl
found_at (b ∷ bs) (suc i) d x h w e =
    let parts = and_parts (list_all (λ c. nat_lt b.name c.name) bs) (has_rising_names bs) h in
    let less : b.name < name_at bs i d = ltb-true b.name (name_at bs i d) (all_at (λ (c : Bind). nat_lt b.name c.name) bs i d parts.0 (omega arith)) in
    let other : x ≢ b.name = λ same. absurd (omega (arith, less, e, same)) in
    rw (ne_eqb x b.name other) (found_at bs i d x parts.1 (omega arith) e)

-- a name that is at no place
pub found_nowhere : (xs : List Bind) (d : Bind) (x : ℕ) → ((i : ℕ) → i < length xs → name_at xs i d ≡ x → ⊥) → val_of x xs ≡ None
found_nowhere [] d x h = refl
found_nowhere (b ∷ bs) d x h =
    let other : x ≢ b.name = λ same. h 0 (omega arith) (sym same) in
    rw (ne_eqb x b.name other) (found_nowhere bs d x (λ i w e. h (suc i) (omega arith) e))

-- a test that parts the list: names below the place are less than x, and those from it on aren't
pub parted_nowhere : (xs : List Bind) (d : Bind) (x at : ℕ) → has_rising_names xs ≡ true → ((i : ℕ) → i < at → i < length xs → name_at xs i d < x)
    → ((i : ℕ) → at ≤ i → i < length xs → x ≤ name_at xs i d) → (at < length xs → name_at xs at d ≢ x) → val_of x xs ≡ None
parted_nowhere xs d x at rising below above other = found_nowhere xs d x (λ i w e. ⊎_elim
    (λ (t : i < at). absurd (omega (arith, below i t w)))
    (λ (t : at ≤ i). ⊎_elim
    (λ (u : at < i). absurd (omega (arith, rises xs at i d rising u w, above at (omega arith) (omega arith))))
    (λ (u : i ≤ at). let same : i ≡ at = omega arith in absurd (other (omega arith) (subst (λ j. name_at xs j d ≡ x) same e)))
    (cases_lt at i))
    (cases_lt i at))
