-- The binding of a name removed, where names rise.
use Rattle.std.proofs.Common.{◌≡◌, ◌≢◌, ℕ, zero, suc, true, List, [], ◌∷◌, filter, not, ◌≤◌, ◌<◌, ◌==◌, nat_lt, length, refl, sym, ap, arith, ◌∙◌}
use Rattle.std.proofs.lemmas.Bool.{and_parts, and_from, eq-eqb, ne_eqb, ltb-true, lt-ltb}
use Rattle.std.specs.List.{list_all, remove}
use Rattle.cqp_parts.specs.declared.bind.Bind.{Bind}
use Rattle.cqp_standing.specs.Stands.{has_rising_names}
use Rattle.cqp_standing.proofs.RisingNames.{all_at, name_at}

-- the bindings of other names
abbrev pub others : ℕ → List Bind → List Bind
others x xs = filter (λ b. not (x == b.name)) xs

-- one of another name is kept
other_first : (x : ℕ) (b : Bind) (bs : List Bind) → x ≢ b.name → others x (b ∷ bs) ≡ b ∷ others x bs
other_first x b bs h = rw (ne_eqb x b.name h) refl

-- all are others where each name is greater
all_greater : (x : ℕ) (xs : List Bind) → list_all (λ c. nat_lt x c.name) xs ≡ true → others x xs ≡ xs
all_greater x [] h = refl
all_greater x (b ∷ bs) h =
    let parts = and_parts (nat_lt x b.name) (list_all (λ c. nat_lt x c.name) bs) h in
    let less : x < b.name = ltb-true x b.name parts.0 in
    rw (other_first x b bs (λ e. absurd (omega (arith, less, e)))) (ap (λ cs. b ∷ cs) (all_greater x bs parts.1))

-- the binding at a place is the one of its name
pub removed : (xs : List Bind) (at x : ℕ) (d : Bind) → has_rising_names xs ≡ true → at < length xs → name_at xs at d ≡ x → remove xs at ≡ others x xs
removed [] at x d h w e = absurd (omega arith)
removed (b ∷ bs) zero x d h w e =
    let parts = and_parts (list_all (λ c. nat_lt b.name c.name) bs) (has_rising_names bs) h in
    rw (eq-eqb x b.name (sym e)) (sym (all_greater x bs (ap (λ y. list_all (λ c. nat_lt y c.name) bs) (sym e) ∙ parts.0)))
removed (b ∷ bs) (suc at) x d h w e =
    let parts = and_parts (list_all (λ c. nat_lt b.name c.name) bs) (has_rising_names bs) h in
    let less : b.name < name_at bs at d = ltb-true b.name (name_at bs at d) (all_at (λ (c : Bind). nat_lt b.name c.name) bs at d parts.0 (omega arith)) in
    rw (other_first x b bs (λ s. absurd (omega (arith, less, e, s)))) (ap (λ cs. b ∷ cs) (removed bs at x d parts.1 (omega arith) e))

-- a name that isn't at the place behind the lesser ones is nowhere
pub nothing_removed : (xs : List Bind) (at x : ℕ) (d : Bind) → has_rising_names xs ≡ true → ((i : ℕ) → i < at → i < length xs → name_at xs i d < x)
    → ((i : ℕ) → at ≤ i → i < length xs → x ≤ name_at xs i d) → (at < length xs → name_at xs at d ≢ x) → xs ≡ others x xs
nothing_removed [] at x d h below above other = refl
nothing_removed (b ∷ bs) zero x d h below above other =
    let parts = and_parts (list_all (λ c. nat_lt b.name c.name) bs) (has_rising_names bs) h in
    let least : x ≤ b.name = above 0 (omega arith) (omega arith) in
    let differs : x ≢ b.name = λ e. other (omega arith) (sym e) in
    rw (other_first x b bs differs) (ap (λ cs. b ∷ cs) (sym (all_greater x bs (lesser bs b.name x (omega (arith, least, differs)) parts.0))))
  where
    lesser : (cs : List Bind) (y z : ℕ) → z < y → list_all (λ c. nat_lt y c.name) cs ≡ true → list_all (λ c. nat_lt z c.name) cs ≡ true
    lesser [] y z l a = refl
    lesser (c ∷ cs) y z l a =
        let both = and_parts (nat_lt y c.name) (list_all (λ k. nat_lt y k.name) cs) a in
        let first = lt-ltb z c.name (omega (arith, l, ltb-true y c.name both.0)) in
        and_from (nat_lt z c.name) (list_all (λ k. nat_lt z k.name) cs) first (lesser cs y z l both.1)
nothing_removed (b ∷ bs) (suc at) x d h below above other =
    let parts = and_parts (list_all (λ c. nat_lt b.name c.name) bs) (has_rising_names bs) h in
    let less : b.name < x = below 0 (omega arith) (omega arith) in
    rw (other_first x b bs (λ s. absurd (omega (arith, less, s))))
    (ap (λ cs. b ∷ cs) (nothing_removed bs at x d parts.1 (λ i k w. below (suc i) (omega arith) (omega arith))
    (λ i k w. above (suc i) (omega arith) (omega arith)) (λ w. other (omega arith))))
