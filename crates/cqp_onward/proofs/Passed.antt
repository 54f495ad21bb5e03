-- A name that is free where a prefix ends is free behind it too, or is used at a node that is passed.
use Rattle.std.proofs.Common.{◌≡◌, ◌⊎◌, inl, inr, ℕ, zero, suc, true, Bool, List, [], ◌∷◌, ◌++◌, ◌+◌, ◌-◌, ◌≤◌, ◌<◌, ◌==◌, ◌||◌, refl, sym, ap, arith, ◌∙◌}
use Rattle.std.proofs.Common.{⊎_elim}
use Rattle.std.proofs.lemmas.Bool.{cases_lt, or_cases, or_left, or_right}
use Rattle.std.proofs.lemmas.List.Folds.{list_any-append}
use Rattle.std.specs.List.{AllByRecursion, list_any, flat_map, range_with_len}
use Rattle.cqp_syntax.specs.Ends.{end_at}
use Rattle.cqp_syntax.specs.Subterms.{term_size}
use Rattle.cqp_syntax.specs.NodeNames.{binds_in, uses_in}
use Rattle.cqp_syntax.specs.Listing.{Listing, term_at, process_at}
use Rattle.cqp_parts.specs.declared.bind.Bind.{Bind}
use Rattle.cqp_parts.specs.Free.{is_free}
use Rattle.cqp_parts.specs.Parts.{node_at, kept_at, IsProcessAt}
use Rattle.cqp_uses.specs.Users.{UseTables, IsUses}
use Rattle.cqp_uses.proofs.FreeUses.{uses_at}
use Rattle.cqp_uses.proofs.FreeTests.{any_here}
use Rattle.cqp_uses.proofs.FreeAnswers.{free_is}
use Rattle.cqp_onward.specs.Forgetting.{without, used_between, passed_names, is_known}
use Rattle.cqp_onward.proofs.Without.{stays_or_in, without_kept}

-- a number of a range that passes a test, where some do
any_from : (q : ℕ → Bool) (n k : ℕ) → list_any q (range_with_len n k) ≡ true → (m : ℕ) × (n ≤ m) × (m < n + k) × (q m ≡ true)
any_from q n zero h = absurd (cc h)
any_from q n (suc k) h = ⊎_elim
    (λ (t : q n ≡ true). (n, omega arith, omega arith, t))
    (λ (t : list_any q (range_with_len (n + 1) k) ≡ true).
    let later = any_from q (n + 1) k t in (later.0, omega (arith, later.1), omega (arith, later.2), later.3))
    (or_cases (q n) (list_any q (range_with_len (n + 1) k)) h)

-- some of lists that are joined pass where some of one do
any_joined : (r : ℕ → Bool) (f : ℕ → List ℕ) (ks : List ℕ) → list_any r (flat_map f ks) ≡ list_any (λ k. list_any r (f k)) ks
any_joined r f [] = refl
any_joined r f (k ∷ ks) = list_any-append r (f k) (flat_map f ks) ∙ ap (λ b. list_any r (f k) || b) (any_joined r f ks)

-- a name that a node between uses is used between
used_there : (l : Listing) (x a b m : ℕ) → a ≤ m → m < b → uses_at l x m ≡ true → list_any (λ y. y == x) (used_between l a b) ≡ true
used_there l x a b m low high h =
    any_joined (λ y. y == x) (λ k. uses_in (node_at l k)) (range_with_len a (b - a))
    ∙ any_here (uses_at l x) a (b - a) m low (omega arith) h

module _ (l : Listing) (u : UseTables) (is : IsUses l u) (p n : ℕ) (there : IsProcessAt l p) (next : IsProcessAt l n) where
  -- the names that nodes outside the subtree of n use
  abbrev outside : List ℕ
  outside = used_between l p n ++ used_between l (end_at l n) (end_at l p)

  -- a name that is free at p
  free_passed : (x : ℕ) → is_free x (process_at l p) ≡ true → (is_free x (process_at l n) ≡ true) ⊎ (list_any (λ y. y == x) outside ≡ true)
  free_passed x free =
      let place = any_from (uses_at l x) p (term_size (term_at l p)) (sym (free_is l u is x 0 p there) ∙ free) in
      let m = place.0 in
      let both = list_any-append (λ y. y == x) (used_between l p n) (used_between l (end_at l n) (end_at l p)) in
      ⊎_elim
      (λ (t : m < n). inr (both ∙ or_left _ _ (used_there l x p n m place.1 t place.3)))
      (λ (t : n ≤ m). ⊎_elim
      (λ (s : m < end_at l n). inl (free_is l u is x 0 n next ∙ any_here (uses_at l x) n (term_size (term_at l n)) m t s place.3))
      (λ (s : end_at l n ≤ m). inr (both ∙ or_right _ _ (used_there l x (end_at l n) (end_at l p) m s place.2 place.3)))
      (cases_lt m (end_at l n)))
      (cases_lt m n)

  -- a name that p binds or that is free there
  known_passed : (x : ℕ) → is_known l p x ≡ true → (is_free x (process_at l n) || list_any (λ y. y == x) (passed_names l p n)) ≡ true
  known_passed x known =
      let both = list_any-append (λ y. y == x) (binds_in (node_at l p)) outside in
      ⊎_elim
      (λ (t : is_free x (process_at l p) ≡ true). ⊎_elim
      (λ (s : is_free x (process_at l n) ≡ true). or_left _ _ s)
      (λ (s : list_any (λ y. y == x) outside ≡ true). or_right _ _ (both ∙ or_right _ _ s))
      (free_passed x t))
      (λ (t : list_any (λ y. y == x) (binds_in (node_at l p)) ≡ true). or_right _ _ (both ∙ or_left _ _ t))
      (or_cases (is_free x (process_at l p)) (list_any (λ y. y == x) (binds_in (node_at l p))) known)

  -- of all bindings
  all_passed : (env : List Bind) → AllByRecursion (λ b. is_known l p b.name ≡ true) env
      → AllByRecursion (λ b. stays_or_in l n (passed_names l p n) b ≡ true) env
  all_passed [] a = tt
  all_passed (b ∷ env) a = (known_passed b.name a.0, all_passed env a.1)

  -- so without the names that are passed those are left that are free at n
  pub passed_kept : (env : List Bind) → AllByRecursion (λ b. is_known l p b.name ≡ true) env → without l n (passed_names l p n) env ≡ kept_at l n env
  passed_kept env a = without_kept l n (passed_names l p n) env (all_passed env a)
