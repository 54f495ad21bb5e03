-- Bindings without those of several names, one after another.
use Rattle.std.proofs.Common.{◌≡◌, ℕ, suc, true, false, Bool, List, [], ◌∷◌, ◌++◌, ◌+◌, ◌-◌, ◌<◌, ◌==◌, ◌||◌, refl, sym, ap, arith, ◌∙◌, ⊎_elim}
use Rattle.std.proofs.lemmas.Bool.{cases_Bool, eqb-true, or_cases, or_left}
use Rattle.std.specs.List.{AllByRecursion, list_any, flat_map, range_with_len}
use Rattle.cqp_syntax.specs.Listing.{Listing, process_at}
use Rattle.cqp_syntax.specs.NodeNames.{uses_in}
use Rattle.cqp_parts.specs.declared.bind.Bind.{Bind}
use Rattle.cqp_parts.specs.Free.{is_free}
use Rattle.cqp_parts.specs.Parts.{node_at, kept_at}
use Rattle.cqp_onward.specs.Forgetting.{without, without_one, used_between}
use Rattle.cqp_onward.proofs.Removals.{others}

-- names of two lists are let go one list after the other
pub without_both : (l : Listing) (n : ℕ) (xs ys : List ℕ) (env : List Bind) → without l n (xs ++ ys) env ≡ without l n ys (without l n xs env)
without_both l n [] ys env = refl
without_both l n (x ∷ xs) ys env = without_both l n xs ys (without_one l n x env)

-- the names that nodes between use, those of the first node first
pub used_first : (l : Listing) (a b : ℕ) → a < b → used_between l a b ≡ uses_in (node_at l a) ++ used_between l (a + 1) b
used_first l a b h =
    let more : b - a ≡ suc (b - (a + 1)) = omega arith in
    ap (λ k. flat_map (λ m. uses_in (node_at l m)) (range_with_len a k)) more

module _ (l : Listing) (n : ℕ) where
  -- a name that is free at n, or is one of these
  abbrev pub stays_or_in : List ℕ → Bind → Bool
  stays_or_in xs b = is_free b.name (process_at l n) || list_any (λ y. y == b.name) xs

  -- where all are free, all are kept
  all_free : (env : List Bind) → AllByRecursion (λ b. stays_or_in [] b ≡ true) env → env ≡ kept_at l n env
  all_free [] a = refl
  all_free (b ∷ env) a =
      let free : is_free b.name (process_at l n) ≡ true = ⊎_elim
      (λ (t : is_free b.name (process_at l n) ≡ true). t)
      (λ (t : false ≡ true). absurd (cc t))
      (or_cases (is_free b.name (process_at l n)) false a.0) in
      rw free (ap (λ bs. b ∷ bs) (all_free env a.1))

  -- a name that is free needs not be one of them
  without_free : (x : ℕ) (xs : List ℕ) → is_free x (process_at l n) ≡ true → (env : List Bind) → AllByRecursion (λ b. stays_or_in (x ∷ xs) b ≡ true) env
      → AllByRecursion (λ b. stays_or_in xs b ≡ true) env
  without_free x xs free [] a = tt
  without_free x xs free (b ∷ env) a = (
    ⊎_elim
        (λ (t : (x == b.name) ≡ true).
        let same : x ≡ b.name = eqb-true x b.name t in
        or_left (is_free b.name (process_at l n)) (list_any (λ y. y == b.name) xs) (ap (λ y. is_free y (process_at l n)) (sym same) ∙ free))
        (λ (t : (x == b.name) ≡ false).
        ap (λ c. is_free b.name (process_at l n) || (c || list_any (λ y. y == b.name) xs)) (sym t) ∙ a.0)
        (cases_Bool (x == b.name)),
    without_free x xs free env a.1,
  )

  -- nor need it where it isn't bound
  without_others : (x : ℕ) (xs : List ℕ) (env : List Bind) → AllByRecursion (λ b. stays_or_in (x ∷ xs) b ≡ true) env
      → AllByRecursion (λ b. stays_or_in xs b ≡ true) (others x env)
  without_others x xs [] a = tt
  without_others x xs (b ∷ env) a = ⊎_elim
      (λ (t : (x == b.name) ≡ true). rw t (without_others x xs env a.1))
      (λ (t : (x == b.name) ≡ false).
      rw t (ap (λ c. is_free b.name (process_at l n) || (c || list_any (λ y. y == b.name) xs)) (sym t) ∙ a.0, without_others x xs env a.1))
      (cases_Bool (x == b.name))

  -- the binding of a name that isn't free isn't kept anyway
  others_kept : (x : ℕ) → is_free x (process_at l n) ≡ false → (env : List Bind) → kept_at l n (others x env) ≡ kept_at l n env
  others_kept x free [] = refl
  others_kept x free (b ∷ env) = ⊎_elim
      (λ (t : (x == b.name) ≡ true).
      let gone : is_free b.name (process_at l n) ≡ false = ap (λ y. is_free y (process_at l n)) (sym (eqb-true x b.name t)) ∙ free in
      rw (t, gone) (others_kept x free env))
      (λ (t : (x == b.name) ≡ false). rw t (⊎_elim
      (λ (u : is_free b.name (process_at l n) ≡ true). rw u (ap (λ bs. b ∷ bs) (others_kept x free env)))
      (λ (u : is_free b.name (process_at l n) ≡ false). rw u (others_kept x free env))
      (cases_Bool (is_free b.name (process_at l n)))))
      (cases_Bool (x == b.name))

  -- without the names that may be gone, those are left that are free
  pub without_kept : (xs : List ℕ) (env : List Bind) → AllByRecursion (λ b. stays_or_in xs b ≡ true) env → without l n xs env ≡ kept_at l n env
  without_kept [] env a = all_free env a
  without_kept (x ∷ xs) env a = ⊎_elim
      (λ (t : is_free x (process_at l n) ≡ true). rw t (without_kept xs env (without_free x xs t env a)))
      (λ (t : is_free x (process_at l n) ≡ false).
      rw t (without_kept xs (others x env) (without_others x xs env a) ∙ others_kept x t env))
      (cases_Bool (is_free x (process_at l n)))
