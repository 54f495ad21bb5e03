-- Law: copying a process under other numbers of its names is renaming a copy of it.
use Rattle.std.proofs.Common.{◌≡◌, ℕ, suc, zero, ◌+◌, ◌<◌, ◌≤◌, List, [], ◌∷◌, map, length, Bool, true, false, ◌==◌, nat_lt, bytes_eq, slice_index, refl}
use Rattle.std.proofs.Common.{ap, ap₂, sym, ◌∙◌, subst, arith, inl, inr, length-append}
use Rattle.std.proofs.lemmas.List.{length-map}
use Rattle.std.proofs.lemmas.Bool.Decides.{nat_tests}
use Rattle.std.specs.List.{range_with_len}
use Rattle.cqp_syntax.specs.TypeTrees.{qbit_type}
use Rattle.cqp_syntax.specs.Trees.{named, slot, sig, add, apply, measure, Process, par, new, qbit, act, branch}
use Rattle.cqp_syntax.specs.Binders.{binders_of}
use Rattle.cqp_syntax.specs.Scope.{is_bound}
use Rattle.cqp_grammar.specs.Trees as tree
use Rattle.cqp_grammar.specs.Trees.{Occurrence, Parameter, ExprTree, ExprTrees, ProcessTree}
use Rattle.cqp_expand.specs.Scopes.{Scope, find, below, below_all}
use Rattle.cqp_expand.specs.Renaming.{rename, rename_slot, rename_binder, rename_expr}
use Rattle.cqp_expand.specs.Expansion.{Template, binder_count, binders_from, argument_or_later, number_in, numbers_in, expr_in, exprs_in, process_in}
use Rattle.cqp_expand.specs.Faults.{Signature, unbound_at, names_faults, name_faults, expr_faults, exprs_faults, repeats, process_faults}
use Rattle.cqp_expand.proofs.Bools.{either}
use Rattle.cqp_syntax.proofs.Bools.{fails}
use Rattle.cqp_expand.proofs.Renamed.{same_name, binders-rename}
use Rattle.cqp_expand.proofs.Agreeing.{AgreeOn, AgreeIn, rename_twice, process_agrees}
use Rattle.cqp_expand.proofs.Templates.{AreTemplates, known, empty_parts}
use Rattle.cqp_expand.proofs.Numbering.{later_name, length-binders_from}
use Rattle.cqp_expand.proofs.Closing.{Alike, alike_below}
use Rattle.cqp_expand.proofs.Small.{filled}

-- the number of names that a renamed process binds
pub count-rename : (r : ℕ → ℕ) (p : Process) → binder_count (rename r p) ≡ binder_count p
count-rename r p = ap length (binders-rename r p) ∙ length-map (binders_of p) (rename_binder r)

-- names are in a range
in_range : (x j m : ℕ) → is_bound (range_with_len j m) (named x) ≡ true → x < j + m
in_range x j zero h = absurd (fails h)
in_range x j (suc m) h = elim (either (x == j) (is_bound (range_with_len (j + 1) m) (named x)) h) [
  | inl e ↦ let same = same_name x j e in omega (arith, same)
  | inr e ↦ let later = in_range x (j + 1) m e in omega (arith, later)
]

module _ (r : ℕ → ℕ) where
  -- the second scope has the names of the first with their numbers renamed
  abbrev pub Renames : Scope → Scope → Type 0
  Renames [] [] = Unit {0}
  Renames (b ∷ s) (c ∷ u) = (b.text ≡ c.text) × (c.number ≡ r b.number) × Renames s u
  Renames s u = ⊥

  -- m numbers from k on are renamed to those from n on
  pub record Shifts (k n m : ℕ) : Type 0 where
    pub at : (j : ℕ) → j < m → r (k + j) ≡ n + j

  -- a renaming that shifts names shifts the first of them
  shifts_first : (k n a m : ℕ) → a ≤ m → Shifts k n m → Shifts k n a
  shifts_first k n a m h s = record { at = λ j g. s.at j (omega arith) }

  -- and those behind the first
  shifts_later : (k n a b m : ℕ) → a + b ≤ m → Shifts k n m → Shifts (k + a) (n + a) b
  shifts_later k n a b m h s = record { at = at }
    where
      at : (j : ℕ) → j < b → r (k + a + j) ≡ n + a + j
      at j g =
          let here : k + a + j ≡ k + (a + j) = omega arith in
          let there : n + a + j ≡ n + (a + j) = omega arith in
          rw (here, there) (s.at (a + j) (omega arith))

  -- the first of shifted names becomes the first new one
  pub shift_one : (k n m : ℕ) → 0 < m → Shifts k n m → r k ≡ n
  shift_one k n m h s =
      let here : k + 0 ≡ k = omega arith in
      let there : n + 0 ≡ n = omega arith in
      ap r (sym here) ∙ s.at 0 h ∙ there

  -- a bound name
  pub name_renamed : (s₀ s u : Scope) (x : List ℕ) (n : ℕ) → Alike s₀ s → Renames s u → unbound_at (find s₀ x) n ≡ [] → r (number_in s x) ≡ number_in u x
  name_renamed [] s u x n a e h = absurd (filled _ _ h)
  name_renamed (d ∷ s₀) [] u x n a e h = absurd a
  name_renamed (d ∷ s₀) (b ∷ s) [] x n a e h = absurd e
  name_renamed (d ∷ s₀) (b ∷ s) (c ∷ u) x n a e h = by (bytes_eq d.text x) refl (λ g. name_renamed s₀ s u x n a.1 e.2 g)
    where
      by : (t : Bool) → bytes_eq d.text x ≡ t → (unbound_at (find s₀ x) n ≡ [] → r (number_in s x) ≡ number_in u x)
          → r (number_in (b ∷ s) x) ≡ number_in (c ∷ u) x
      by true g k =
          let here : bytes_eq b.text x ≡ true = rw (← a.0) g in
          let there : bytes_eq c.text x ≡ true = rw (← e.0) here in
          let left : number_in (b ∷ s) x ≡ b.number = rw here refl in
          let right : number_in (c ∷ u) x ≡ c.number = rw there refl in
          ap r left ∙ sym e.1 ∙ sym right
      by false g k =
          let here : bytes_eq b.text x ≡ false = rw (← a.0) g in
          let there : bytes_eq c.text x ≡ false = rw (← e.0) here in
          let no : unbound_at (find s₀ x) n ≡ [] = rw g at h in
          let left : number_in (b ∷ s) x ≡ number_in s x = rw here refl in
          let right : number_in (c ∷ u) x ≡ number_in u x = rw there refl in
          ap r left ∙ k no ∙ sym right

  -- names without a fault are renamed as their scope is
  pub names_renamed : (s₀ s u : Scope) (xs : List Occurrence) → Alike s₀ s → Renames s u → names_faults s₀ xs ≡ [] → map r (numbers_in s xs) ≡ numbers_in u xs
  names_renamed s₀ s u [] a e h = refl
  names_renamed s₀ s u (x ∷ xs) a e h =
      let parts = empty_parts (name_faults s₀ x) (names_faults s₀ xs) h in
      ap₂ (λ y ys. y ∷ ys) (name_renamed s₀ s u x.name x.at a e parts.0) (names_renamed s₀ s u xs a e parts.1)

  -- names in slots are renamed in their slots
  slots_of : (ns : List ℕ) → map (rename_slot r) (map named ns) ≡ map named (map r ns)
  slots_of [] = refl
  slots_of (n ∷ ns) = ap (λ ys. named (r n) ∷ ys) (slots_of ns)

  -- slots without a fault are renamed as their scope is
  slots_renamed : (s₀ s u : Scope) (xs : List Occurrence) → Alike s₀ s → Renames s u → names_faults s₀ xs ≡ []
      → map (rename_slot r) (map named (numbers_in s xs)) ≡ map named (numbers_in u xs)
  slots_renamed s₀ s u xs a e h = slots_of (numbers_in s xs) ∙ ap (map named) (names_renamed s₀ s u xs a e h)

  -- an expression without a fault is renamed as its scope is
  expr_renamed : (s₀ s u : Scope) (t : ExprTree) → Alike s₀ s → Renames s u → expr_faults s₀ t ≡ [] → rename_expr r (expr_in s t) ≡ expr_in u t
  expr_renamed s₀ s u (tree.number at v) a e h = refl
  expr_renamed s₀ s u (tree.unit at) a e h = refl
  expr_renamed s₀ s u (tree.name at x) a e h = ap (λ n. slot (named n)) (name_renamed s₀ s u x at a e h)
  expr_renamed s₀ s u (tree.gate at op) a e h = refl
  expr_renamed s₀ s u (tree.sig at t) a e h = ap sig (expr_renamed s₀ s u t a e h)
  expr_renamed s₀ s u (tree.add at t o) a e h =
      let parts = empty_parts (expr_faults s₀ t) (expr_faults s₀ o) h in
      ap₂ add (expr_renamed s₀ s u t a e parts.0) (expr_renamed s₀ s u o a e parts.1)
  expr_renamed s₀ s u (tree.apply at xs t) a e h =
      let parts = empty_parts (names_faults s₀ xs) (expr_faults s₀ t) h in
      ap₂ apply (slots_renamed s₀ s u xs a e parts.0) (expr_renamed s₀ s u t a e parts.1)
  expr_renamed s₀ s u (tree.measure at xs) a e h = ap measure (slots_renamed s₀ s u xs a e h)

  -- so are expressions without a fault
  exprs_renamed : (s₀ s u : Scope) (ts : ExprTrees) → Alike s₀ s → Renames s u → exprs_faults s₀ ts ≡ [] → map (rename_expr r) (exprs_in s ts) ≡ exprs_in u ts
  exprs_renamed s₀ s u tree.no_exprs a e h = refl
  exprs_renamed s₀ s u (tree.expr_and t ts) a e h =
      let parts = empty_parts (expr_faults s₀ t) (exprs_faults s₀ ts) h in
      ap₂ (λ y ys. y ∷ ys) (expr_renamed s₀ s u t a e parts.0) (exprs_renamed s₀ s u ts a e parts.1)

  -- parameters
  binders_renamed : (k n : ℕ) (ps : List Parameter) → Shifts k n (length ps) → map (rename_binder r) (binders_from k ps) ≡ binders_from n ps
  binders_renamed k n [] s = refl
  binders_renamed k n (p ∷ ps) s =
      ap₂ (λ x bs. record { name = x; ty = p.ty } ∷ bs) (shift_one k n (length (p ∷ ps)) (omega arith) s)
      (binders_renamed (k + 1) (n + 1) ps (shifts_later k n 1 (length ps) (length (p ∷ ps)) (omega arith) s))

  -- the same parameters below a scope and below the renamed one leave it so
  pub scopes_renamed : (s u : Scope) (k n : ℕ) (ps : List Parameter) → Renames s u → Shifts k n (length ps) → Renames (below_all s k ps) (below_all u n ps)
  scopes_renamed s u k n [] e h = e
  scopes_renamed s u k n (p ∷ ps) e h =
      scopes_renamed (below s k p.name p.ty) (below u n p.name p.ty) (k + 1) (n + 1) ps (refl, sym (shift_one k n (length (p ∷ ps)) (omega arith) h), e)
      (shifts_later k n 1 (length ps) (length (p ∷ ps)) (omega arith) h)

  -- an element of a renamed list is the renamed element
  index_map : (xs : List ℕ) (i : ℕ) → i < length xs → r (slice_index xs i) ≡ slice_index (map r xs) i
  index_map [] i h = absurd (omega (arith, h))
  index_map (x ∷ xs) zero h = refl
  index_map (x ∷ xs) (suc i) h = index_map xs i (omega arith)

  -- arguments, and the binders behind them, of a copy
  argument_agrees : (args : List ℕ) (k n x : ℕ) → x < length args → r (argument_or_later args k x) ≡ argument_or_later (map r args) n x
  argument_agrees args k n x h =
      let here : nat_lt x (length args) ≡ true = grind (arith, nat_tests) in
      let there : nat_lt x (length (map r args)) ≡ true = rw (length-map args r) here in
      let left : argument_or_later args k x ≡ slice_index args x = rw here refl in
      let right : argument_or_later (map r args) n x ≡ slice_index (map r args) x = rw there refl in
      ap r left ∙ index_map args x h ∙ sym right

  -- behind the arguments, renaming a copy is copying at the renamed number
  later_agrees : (args : List ℕ) (k n m j : ℕ) → j < m → Shifts k n m
      → r (argument_or_later args k (length args + j)) ≡ argument_or_later (map r args) n (length args + j)
  later_agrees args k n m j h s =
      let right = ap (λ z. argument_or_later (map r args) n (z + j)) (sym (length-map args r)) ∙ later_name (map r args) n j in
      ap r (later_name args k j) ∙ s.at j h ∙ sym right

  -- and so for all names there
  laters_agree : (args : List ℕ) (k n m j c : ℕ) → j + c ≤ m → Shifts k n m
      → AgreeOn (λ x. r (argument_or_later args k x)) (argument_or_later (map r args) n) (range_with_len (length args + j) c)
  laters_agree args k n m j zero h s = tt
  laters_agree args k n m j (suc c) h s =
      let next : length args + (j + 1) ≡ length args + j + 1 = omega arith in
      let more = laters_agree args k n m (j + 1) c (omega arith) s in
      (later_agrees args k n m j (omega arith) s, rw next at more)

  -- a renamed process in a scope is the process in the renamed scope
  pub process_copied : (ts : List Template) (ds : List Signature) (s₀ s u : Scope) (k n : ℕ) (p : ProcessTree) → AreTemplates ts ds → Alike s₀ s → Renames s u
      → process_faults ds s₀ p ≡ [] → Shifts k n (binder_count (process_in ts s k p)) → rename r (process_in ts s k p) ≡ process_in ts u n p
  process_copied ts ds s₀ s u k n (tree.nil at) t a e h m = refl
  process_copied ts ds s₀ s u k n (tree.par at p q) t a e h m =
      let parts = empty_parts (process_faults ds s₀ p) (process_faults ds s₀ q) h in
      let left = process_in ts s k p in
      let right = process_in ts s (k + binder_count left) q in
      let total : binder_count (par left right) ≡ binder_count left + binder_count right = length-append (binders_of left) (binders_of right) in
      let first = process_copied ts ds s₀ s u k n p t a e parts.0 (shifts_first k n (binder_count left) _ (omega (arith, total)) m) in
      let second = process_copied ts ds s₀ s u (k + binder_count left) (n + binder_count left) q t a e parts.1 (shifts_later k n (binder_count left)
      (binder_count right) _ (omega (arith, total)) m) in
      let count : binder_count left ≡ binder_count (process_in ts u n p) = sym (count-rename r left) ∙ ap binder_count first in
      ap₂ par first (second ∙ ap (λ c. process_in ts u (n + c) q) count)
  process_copied ts ds s₀ s u k n (tree.new at x ty p) t a e h m =
      let own = shift_one k n (binder_count (process_in ts s k (tree.new at x ty p))) (omega arith) m in
      let body = process_copied ts ds (below s₀ 0 x.name ty) (below s k x.name ty) (below u n x.name ty) (k + 1) (n + 1) p t (refl, a) (refl, sym own, e) h
      (shifts_later k n 1 (binder_count (process_in ts (below s k x.name ty) (k + 1) p)) _ (omega arith) m) in
      ap₂ (λ y z. new (record { name = y; ty = ty }) z) own body
  process_copied ts ds s₀ s u k n (tree.qbit at x p) t a e h m =
      let own = shift_one k n (binder_count (process_in ts s k (tree.qbit at x p))) (omega arith) m in
      let body = process_copied ts ds (below s₀ 0 x.name qbit_type) (below s k x.name qbit_type) (below u n x.name qbit_type) (k + 1) (n + 1) p t
      (refl, a) (refl, sym own, e) h
      (shifts_later k n 1 (binder_count (process_in ts (below s k x.name qbit_type) (k + 1) p)) _ (omega arith) m) in
      ap₂ qbit own body
  process_copied ts ds s₀ s u k n (tree.act at f p) t a e h m =
      let parts = empty_parts (expr_faults s₀ f) (process_faults ds s₀ p) h in
      ap₂ act (expr_renamed s₀ s u f a e parts.0) (process_copied ts ds s₀ s u k n p t a e parts.1 m)
  process_copied ts ds s₀ s u k n (tree.input at c ps p) t a e h m =
      let outer = empty_parts (name_faults s₀ c) _ h in
      let parts = empty_parts (repeats [] ps) _ outer.1 in
      let body = process_in ts (below_all s k ps) (k + length ps) p in
      let total : binder_count (process_in ts s k (tree.input at c ps p)) ≡ length ps + binder_count body =
      length-append (binders_from k ps) (binders_of body) ∙ ap (λ z. z + binder_count body) (length-binders_from k ps) in
      let own = shifts_first k n (length ps) _ (omega (arith, total)) m in
      let later = shifts_later k n (length ps) (binder_count body) _ (omega (arith, total)) m in
      let inner = process_copied ts ds (below_all s₀ 0 ps) (below_all s k ps) (below_all u n ps) (k + length ps) (n + length ps) p t
      (alike_below s₀ s 0 k ps a) (scopes_renamed s u k n ps e own) parts.1 later in
      rw (name_renamed s₀ s u c.name c.at a e outer.0, binders_renamed k n ps own, inner) refl
  process_copied ts ds s₀ s u k n (tree.output at c es p) t a e h m =
      let outer = empty_parts (name_faults s₀ c) _ h in
      let parts = empty_parts (exprs_faults s₀ es) _ outer.1 in
      rw (name_renamed s₀ s u c.name c.at a e outer.0, exprs_renamed s₀ s u es a e parts.0, process_copied ts ds s₀ s u k n p t a e parts.1 m) refl
  process_copied ts ds s₀ s u k n (tree.branch at f g p q) t a e h m =
      let one = empty_parts (expr_faults s₀ f) _ h in
      let two = empty_parts (expr_faults s₀ g) _ one.1 in
      let parts = empty_parts (process_faults ds s₀ p) (process_faults ds s₀ q) two.1 in
      let left = process_in ts s k p in
      let right = process_in ts s (k + binder_count left) q in
      let total : binder_count (process_in ts s k (tree.branch at f g p q))
      ≡ binder_count left + binder_count right = length-append (binders_of left) (binders_of right) in
      let first = process_copied ts ds s₀ s u k n p t a e parts.0 (shifts_first k n (binder_count left) _ (omega (arith, total)) m) in
      let second = process_copied ts ds s₀ s u (k + binder_count left) (n + binder_count left) q t a e parts.1 (shifts_later k n (binder_count left)
      (binder_count right) _ (omega (arith, total)) m) in
      let count : binder_count left ≡ binder_count (process_in ts u n p) = sym (count-rename r left) ∙ ap binder_count first in
      rw (expr_renamed s₀ s u f a e one.0, expr_renamed s₀ s u g a e two.0) (ap₂ (λ y z. branch (expr_in u f) (expr_in u g) y z) first (second
      ∙ ap (λ c. process_in ts u (n + c) q) count))
  process_copied ts ds s₀ s u k n (tree.call at f xs) t a e h m =
      let parts = empty_parts (names_faults s₀ xs) _ h in
      let d = known s₀ at xs f ts ds t parts.1 in
      let body = d.template.body in
      let args = numbers_in s xs in
      let arity : d.template.arity ≡ length args = d.arity ∙ sym (length-map xs (λ x. number_in s x.name)) in
      let there : map r args ≡ numbers_in u xs = names_renamed s₀ s u xs a e parts.0 in
      let copy = argument_or_later args k in
      let count : binder_count (process_in ts s k (tree.call at f xs)) ≡ binder_count body = rw d.is (count-rename copy body) in
      let shift : Shifts k n (binder_count body) = subst (Shifts k n) count m in
      let own : AgreeIn (λ x. r (copy x)) (argument_or_later (map r args) n)
      (range_with_len 0 d.template.arity) = record { at = λ x g. argument_agrees args k n x (omega (arith, in_range x 0 d.template.arity g, arity)) } in
      let start : length args + 0 ≡ d.template.arity = omega arith in
      let laters = laters_agree args k n (binder_count body) 0 (binder_count body) (omega arith) shift in
      let behind = subst (λ z. AgreeOn (λ x. r (copy x)) (argument_or_later (map r args) n) z) (ap (λ z. range_with_len z
      (binder_count body)) start ∙ sym d.right.numbered) laters in
      let agrees = process_agrees (λ x. r (copy x)) (argument_or_later (map r args) n) (range_with_len 0 d.template.arity) body own behind d.right.scoped in
      rw d.is (rename_twice r copy body ∙ agrees ∙ ap (λ z. rename (argument_or_later z n) body) there)
