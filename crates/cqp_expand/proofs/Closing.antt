-- Law: each name of a process without faults stands under a binder.
use Rattle.std.proofs.Common.{◌≡◌, ℕ, suc, zero, ◌+◌, ◌<◌, ◌≤◌, List, [], ◌∷◌, ◌++◌, map, length, Bool, true, false, ◌==◌, ◌&&◌, nat_lt, bytes_eq}
use Rattle.std.proofs.Common.{slice_index, refl, ap, sym, ◌∙◌, subst, arith, inl, inr, eq-eqb, append-nil}
use Rattle.std.proofs.lemmas.List.{length-map}
use Rattle.std.proofs.lemmas.Bool.Decides.{nat_tests}
use Rattle.std.specs.List.{range_with_len, list_all}
use Rattle.cqp_syntax.specs.TypeTrees.{qbit_type}
use Rattle.cqp_syntax.specs.Trees.{named}
use Rattle.cqp_syntax.specs.Scope.{is_bound, is_scoped_expr, is_scoped}
use Rattle.cqp_grammar.specs.Trees as tree
use Rattle.cqp_grammar.specs.Trees.{Occurrence, Parameter, ExprTree, ExprTrees, ProcessTree}
use Rattle.cqp_expand.specs.Scopes.{Scope, find, below, below_all}
use Rattle.cqp_expand.specs.Renaming.{rename}
use Rattle.cqp_expand.specs.Expansion.{Template, binder_count, binders_from, argument_or_later, number_in, numbers_in, expr_in, exprs_in, process_in}
use Rattle.cqp_expand.specs.Faults.{Signature, unbound_at, names_faults, name_faults, expr_faults, exprs_faults, repeats, process_faults}
use Rattle.cqp_expand.proofs.Bools.{either}
use Rattle.cqp_syntax.proofs.Bools.{fails, or_left, or_right, both_hold}
use Rattle.cqp_expand.proofs.Subsets.{Within, process_within}
use Rattle.cqp_expand.proofs.Renamed.{same_name, process_renamed}
use Rattle.cqp_expand.proofs.Templates.{AreTemplates, known, empty_parts}
use Rattle.cqp_expand.proofs.Numbering.{params_from, length-binders_from}
use Rattle.cqp_expand.proofs.Small.{filled}

-- scopes with the same names
abbrev pub Alike : Scope → Scope → Type 0
Alike [] [] = Unit {0}
Alike (a ∷ s) (b ∷ u) = (a.text ≡ b.text) × Alike s u
Alike s u = ⊥

-- the same parameters below alike scopes leave them alike
pub alike_below : (s u : Scope) (m n : ℕ) (ps : List Parameter) → Alike s u → Alike (below_all s m ps) (below_all u n ps)
alike_below s u m n [] a = a
alike_below s u m n (p ∷ ps) a = alike_below (below s m p.name p.ty) (below u n p.name p.ty) (m + 1) (n + 1) ps (refl, a)

-- the numbers of the names of a scope
abbrev pub names_in : Scope → List ℕ
names_in s = map (λ b. b.number) s

-- a name that is bound in one of two such scopes is so in the other
pub bound_in : (s u : Scope) (x : List ℕ) (n : ℕ) → Alike s u → unbound_at (find s x) n ≡ [] → is_bound (names_in u) (named (number_in u x)) ≡ true
bound_in [] [] x n a h = absurd (filled _ _ h)
bound_in [] (b ∷ u) x n a h = absurd a
bound_in (b ∷ s) [] x n a h = absurd a
bound_in (b ∷ s) (c ∷ u) x n a h = at_first (bytes_eq b.text x) refl (λ g. bound_in s u x n a.1 g)
  where
    at_first : (t : Bool) → bytes_eq b.text x ≡ t → (unbound_at (find s x) n ≡ [] → is_bound (names_in u) (named (number_in u x)) ≡ true)
        → is_bound (names_in (c ∷ u)) (named (number_in (c ∷ u) x)) ≡ true
    at_first true e later =
        let here : bytes_eq c.text x ≡ true = rw (← a.0) e in
        let is : number_in (c ∷ u) x ≡ c.number = rw here refl in
        subst (λ m. is_bound (names_in (c ∷ u)) (named m) ≡ true) (sym is)
        (or_left (c.number == c.number) (is_bound (names_in u) (named c.number)) (eq-eqb c.number c.number refl))
    at_first false e later =
        let other : bytes_eq c.text x ≡ false = rw (← a.0) e in
        let no : unbound_at (find s x) n ≡ [] = rw e at h in
        let is : number_in (c ∷ u) x ≡ number_in u x = rw other refl in
        subst (λ m. is_bound (names_in (c ∷ u)) (named m) ≡ true) (sym is)
        (or_right (number_in u x == c.number) (is_bound (names_in u) (named (number_in u x))) (later no))

-- names without a fault in a scope are bound in one alike
names_bound : (s u : Scope) (xs : List Occurrence) → Alike s u → names_faults s xs ≡ [] → list_all (is_bound (names_in u)) (map named (numbers_in u xs)) ≡ true
names_bound s u [] a h = refl
names_bound s u (x ∷ xs) a h =
    let parts = empty_parts (name_faults s x) (names_faults s xs) h in
    both_hold (is_bound (names_in u) (named (number_in u x.name))) (list_all (is_bound (names_in u)) (map named (numbers_in u xs)))
    (bound_in s u x.name x.at a parts.0) (names_bound s u xs a parts.1)

-- an expression without a fault names only what is bound
expr_closed : (s u : Scope) (e : ExprTree) → Alike s u → expr_faults s e ≡ [] → is_scoped_expr (names_in u) (expr_in u e) ≡ true
expr_closed s u (tree.number at v) a h = refl
expr_closed s u (tree.unit at) a h = refl
expr_closed s u (tree.name at x) a h = bound_in s u x at a h
expr_closed s u (tree.gate at op) a h = refl
expr_closed s u (tree.sig at e) a h = expr_closed s u e a h
expr_closed s u (tree.add at e f) a h =
    let parts = empty_parts (expr_faults s e) (expr_faults s f) h in
    both_hold (is_scoped_expr (names_in u) (expr_in u e)) (is_scoped_expr (names_in u) (expr_in u f)) (expr_closed s u e a parts.0)
    (expr_closed s u f a parts.1)
expr_closed s u (tree.apply at xs e) a h =
    let parts = empty_parts (names_faults s xs) (expr_faults s e) h in
    both_hold (list_all (is_bound (names_in u)) (map named (numbers_in u xs))) (is_scoped_expr (names_in u) (expr_in u e))
    (names_bound s u xs a parts.0) (expr_closed s u e a parts.1)
expr_closed s u (tree.measure at xs) a h = names_bound s u xs a h

-- so do expressions without a fault
exprs_closed : (s u : Scope) (es : ExprTrees) → Alike s u → exprs_faults s es ≡ [] → list_all (is_scoped_expr (names_in u)) (exprs_in u es) ≡ true
exprs_closed s u tree.no_exprs a h = refl
exprs_closed s u (tree.expr_and e es) a h =
    let parts = empty_parts (expr_faults s e) (exprs_faults s es) h in
    both_hold (is_scoped_expr (names_in u) (expr_in u e)) (list_all (is_scoped_expr (names_in u)) (exprs_in u es)) (expr_closed s u e a parts.0)
    (exprs_closed s u es a parts.1)

-- a name behind others may stand before them
to_front : (z : ℕ) (xs ys : List ℕ) → Within (xs ++ z ∷ ys) (z ∷ xs ++ ys)
to_front z [] ys = record { are = λ x h. h }
to_front z (y ∷ xs) ys = record { are = are (to_front z xs ys) }
  where
    are : Within (xs ++ z ∷ ys) (z ∷ xs ++ ys) → (x : ℕ) → is_bound (y ∷ xs ++ z ∷ ys) (named x) ≡ true → is_bound (z ∷ y ∷ xs ++ ys) (named x) ≡ true
    are w x h = elim (either (x == y) (is_bound (xs ++ z ∷ ys) (named x)) h) [
      | inl e ↦ or_right (x == z) (is_bound (y ∷ xs ++ ys) (named x)) (or_left (x == y) (is_bound (xs ++ ys) (named x)) e)
      | inr e ↦ elim (either (x == z) (is_bound (xs ++ ys) (named x)) (w.are x e)) [
        | inl g ↦ or_left (x == z) (is_bound (y ∷ xs ++ ys) (named x)) g
        | inr g ↦ or_right (x == z) (is_bound (y ∷ xs ++ ys) (named x)) (or_right (x == y) (is_bound (xs ++ ys) (named x)) g)
      ]
    ]

-- what is among others is among those that they are among
through : {xs ys zs : List ℕ} → Within xs ys → Within ys zs → Within xs zs
through v w = record { are = λ x h. w.are x (v.are x h) }

-- the names below parameters are these and those around
params_within : (u : Scope) (n : ℕ) (ps : List Parameter) → Within (names_in (below_all u n ps)) (map (λ b. b.name) (binders_from n ps) ++ names_in u)
params_within u n [] = record { are = λ x h. h }
params_within u n (p ∷ ps) = through (params_within (below u n p.name p.ty) (n + 1) ps) (to_front n (map (λ b. b.name) (binders_from (n + 1) ps)) (names_in u))

-- the names that stand for parameters are the arguments
index_bound : (args : List ℕ) (j : ℕ) → j < length args → is_bound args (named (slice_index args j)) ≡ true
index_bound [] j h = absurd (omega (arith, h))
index_bound (a ∷ as_) zero h = or_left (a == a) (is_bound as_ (named a)) (eq-eqb a a refl)
index_bound (a ∷ as_) (suc j) h = or_right (slice_index as_ j == a) (is_bound as_ (named (slice_index as_ j))) (index_bound as_ j (omega arith))

-- the first names of a copy become arguments
params_renamed : (args : List ℕ) (n j k : ℕ) → j + k ≤ length args → Within (map (argument_or_later args n) (range_with_len j k)) args
params_renamed args n j zero h = record { are = λ x g. absurd (fails g) }
params_renamed args n j (suc k) h = record { are = are (params_renamed args n (j + 1) k (omega arith)) }
  where
    are : Within (map (argument_or_later args n) (range_with_len (j + 1) k)) args → (x : ℕ)
        → is_bound (argument_or_later args n j ∷ map (argument_or_later args n) (range_with_len (j + 1) k)) (named x) ≡ true → is_bound args (named x) ≡ true
    are w x g =
        let before : nat_lt j (length args) ≡ true = grind (arith, nat_tests) in
        let is : argument_or_later args n j ≡ slice_index args j = rw before refl in
        elim (either (x == argument_or_later args n j) (is_bound (map (argument_or_later args n) (range_with_len (j + 1) k)) (named x)) g) [
          | inl e ↦ let same = same_name x _ e ∙ is in rw same (index_bound args j (omega arith))
          | inr e ↦ w.are x e
        ]

-- arguments without a fault are names of the scope
args_within : (s u : Scope) (xs : List Occurrence) → Alike s u → names_faults s xs ≡ [] → Within (numbers_in u xs) (names_in u)
args_within s u [] a h = record { are = λ x g. absurd (fails g) }
args_within s u (x ∷ xs) a h =
    let parts = empty_parts (name_faults s x) (names_faults s xs) h in
    record { are = are (bound_in s u x.name x.at a parts.0) (args_within s u xs a parts.1) }
  where
    are : is_bound (names_in u) (named (number_in u x.name)) ≡ true → Within (numbers_in u xs) (names_in u) → (y : ℕ)
        → is_bound (numbers_in u (x ∷ xs)) (named y) ≡ true → is_bound (names_in u) (named y) ≡ true
    are b w y g = elim (either (y == number_in u x.name) (is_bound (numbers_in u xs) (named y)) g) [
      | inl e ↦ let same = same_name y _ e in rw same b
      | inr e ↦ w.are y e
    ]

-- each name of a process without faults is bound
pub process_closed : (ts : List Template) (ds : List Signature) (s u : Scope) (n : ℕ) (p : ProcessTree) → AreTemplates ts ds → Alike s u
    → process_faults ds s p ≡ [] → is_scoped (names_in u) (process_in ts u n p) ≡ true
process_closed ts ds s u n (tree.nil at) a l h = refl
process_closed ts ds s u n (tree.par at p q) a l h =
    let parts = empty_parts (process_faults ds s p) (process_faults ds s q) h in
    both_hold (is_scoped (names_in u) (process_in ts u n p)) (is_scoped (names_in u) (process_in ts u (n + binder_count (process_in ts u n p)) q))
    (process_closed ts ds s u n p a l parts.0) (process_closed ts ds s u (n + binder_count (process_in ts u n p)) q a l parts.1)
process_closed ts ds s u n (tree.new at x t p) a l h = process_closed ts ds (below s 0 x.name t) (below u n x.name t) (n + 1) p a (refl, l) h
process_closed ts ds s u n (tree.qbit at x p) a l h =
    process_closed ts ds (below s 0 x.name qbit_type) (below u n x.name qbit_type) (n + 1) p a (refl, l) h
process_closed ts ds s u n (tree.act at e p) a l h =
    let parts = empty_parts (expr_faults s e) (process_faults ds s p) h in
    both_hold (is_scoped_expr (names_in u) (expr_in u e)) (is_scoped (names_in u) (process_in ts u n p))
    (expr_closed s u e l parts.0) (process_closed ts ds s u n p a l parts.1)
process_closed ts ds s u n (tree.input at c ps p) a l h =
    let outer = empty_parts (name_faults s c) _ h in
    let parts = empty_parts (repeats [] ps) _ outer.1 in
    let inner = process_closed ts ds (below_all s 0 ps) (below_all u n ps) (n + length ps) p a (alike_below s u 0 n ps l) parts.1 in
    let body = process_in ts (below_all u n ps) (n + length ps) p in
    let names = map (λ b. b.name) (binders_from n ps) ++ names_in u in
    both_hold (is_bound (names_in u) (named (number_in u c.name))) (is_scoped names body)
    (bound_in s u c.name c.at l outer.0) (process_within (names_in (below_all u n ps)) names body (params_within u n ps) inner)
process_closed ts ds s u n (tree.output at c es p) a l h =
    let outer = empty_parts (name_faults s c) _ h in
    let parts = empty_parts (exprs_faults s es) _ outer.1 in
    let sent = list_all (is_scoped_expr (names_in u)) (exprs_in u es) in
    both_hold (is_bound (names_in u) (named (number_in u c.name)) && sent) (is_scoped (names_in u) (process_in ts u n p))
    (both_hold (is_bound (names_in u) (named (number_in u c.name))) sent (bound_in s u c.name c.at l outer.0) (exprs_closed s u es l parts.0))
    (process_closed ts ds s u n p a l parts.1)
process_closed ts ds s u n (tree.branch at e f p q) a l h =
    let first = empty_parts (expr_faults s e) _ h in
    let second = empty_parts (expr_faults s f) _ first.1 in
    let parts = empty_parts (process_faults ds s p) (process_faults ds s q) second.1 in
    let left = is_scoped_expr (names_in u) (expr_in u e) in
    let right = is_scoped_expr (names_in u) (expr_in u f) in
    let yes = is_scoped (names_in u) (process_in ts u n p) in
    let m = n + binder_count (process_in ts u n p) in
    both_hold (left && right && yes) (is_scoped (names_in u) (process_in ts u m q))
    (both_hold (left && right) yes (both_hold left right (expr_closed s u e l first.0) (expr_closed s u f l second.0))
    (process_closed ts ds s u n p a l parts.0))
    (process_closed ts ds s u m q a l parts.1)
process_closed ts ds s u n (tree.call at f xs) a l h =
    let parts = empty_parts (names_faults s xs) _ h in
    let k = known s at xs f ts ds a parts.1 in
    let args = numbers_in u xs in
    let r = argument_or_later args n in
    let count : k.template.arity ≡ length args = k.arity ∙ sym (length-map xs (λ x. number_in u x.name)) in
    let body = process_renamed r (range_with_len 0 k.template.arity) k.template.body k.right.scoped in
    let within = through (params_renamed args n 0 k.template.arity (omega (arith, count))) (args_within s u xs l parts.0) in
    rw k.is (process_within _ (names_in u) (rename r k.template.body) within body)

-- the names below a definition's parameters are these
pub nothing_behind : (n : ℕ) (ps : List Parameter) → Within (names_in (below_all [] n ps)) (range_with_len n (length ps))
nothing_behind n ps =
    let is : map (λ b. b.name) (binders_from n ps) ++ [] ≡ range_with_len n (length ps) =
    append-nil _ ∙ params_from n ps ∙ ap (range_with_len n) (length-binders_from n ps) in
    subst (λ xs. Within (names_in (below_all [] n ps)) xs) is (params_within [] n ps)
