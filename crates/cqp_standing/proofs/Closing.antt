-- Where each free name has a value, no name is left in a prefix's expressions.
use Rattle.std.proofs.Common.{◌≡◌, ℕ, true, false, Bool, List, [], ◌∷◌, map, ◌==◌, ◌&&◌, subst, Option, Some, None, refl, ⊎_elim}
use Rattle.std.proofs.lemmas.Bool.{cases_Bool, or_cases, or_left, or_right, and_parts, and_from, eq-eqb, eqb-true}
use Rattle.std.specs.Prelude.{IsSome}
use Rattle.std.specs.List.{list_any, list_all}
use Rattle.cqp_syntax.specs.Trees.{Slot, named, valued, Expr, slot, sig, add, apply, measure, Process, nil, par, new, qbit, act, input, output, branch}
use Rattle.cqp_cells.specs.Redex.{exprs_of}
use Rattle.cqp_parts.specs.declared.bind.Bind.{Bind}
use Rattle.cqp_parts.specs.Free.{is_in_slot, is_in_expr}
use Rattle.cqp_results.specs.Results.{is_closed}
use Rattle.cqp_parts.specs.Bound.{expr_bound}
use Rattle.cqp_syntax.specs.Scope.{is_bound, is_scoped_expr, is_scoped}
use Rattle.cqp_standing.specs.Stands.{val_of, names_of}
use Rattle.cqp_standing.proofs.ScopeLemmas.{has}
use Rattle.cqp_standing.proofs.Bindings.{slot_in, sig_in, add_in, apply_in, measure_in, found_in, valued_in}

-- a name equals itself
same_name : (x : ℕ) → (x == x) ≡ true
same_name x = eq-eqb x x refl

-- what is there
pub is_there : {X : Type 0} (x : Option X) → IsSome x → (v : X) × (x ≡ Some v)
is_there (Some v) h = (v, refl)
is_there None h = absurd (cc h)

-- each name has a value
module _ (bs : List Bind) where
  -- each name that passes has a value
  abbrev pub Has : (ℕ → Bool) → Type 0
  Has uses = (x : ℕ) → uses x ≡ true → IsSome (val_of x bs)

  -- an expression whose names have values has no name left
  pub expr_closed : (e : Expr) → Has (λ x. is_in_expr x e) → is_closed (expr_bound bs e) ≡ true
  expr_closed (slot (named x)) h =
      let there = is_there (val_of x bs) (h x (same_name x)) in
      rw (slot_in bs (named x), found_in bs x there.0 there.1) refl
  expr_closed (slot (valued v)) h = rw (slot_in bs (valued v), valued_in bs v) refl
  expr_closed (sig e) h = rw (sig_in bs e) (expr_closed e h)
  expr_closed (add e f) h =
      rw (add_in bs e f)
      (and_from _ _ (expr_closed e (λ x k. h x (or_left (is_in_expr x e) (is_in_expr x f) k)))
      (expr_closed f (λ x k. h x (or_right (is_in_expr x e) (is_in_expr x f) k))))
  expr_closed (apply qs e) h =
      rw (apply_in bs qs e) (expr_closed e (λ x k. h x (or_right (list_any (is_in_slot x) qs) (is_in_expr x e) k)))
  expr_closed (measure qs) h = rw (measure_in bs qs) refl

  -- so have several
  pub exprs_closed : (es : List Expr) → Has (λ x. list_any (is_in_expr x) es) → list_all is_closed (map (expr_bound bs) es) ≡ true
  exprs_closed [] h = refl
  exprs_closed (e ∷ es) h =
      and_from _ _ (expr_closed e (λ x k. h x (or_left (is_in_expr x e) (list_any (is_in_expr x) es) k)))
      (exprs_closed es (λ x k. h x (or_right (is_in_expr x e) (list_any (is_in_expr x) es) k)))

-- a name that bindings bind has a value
pub has_value : (bs : List Bind) (x : ℕ) → has x (names_of bs) ≡ true → IsSome (val_of x bs)
has_value [] x h = absurd (cc h)
has_value (b ∷ bs) x h = ⊎_elim
    (λ (t : (x == b.name) ≡ true). rw t refl)
    (λ (t : (x == b.name) ≡ false). rw t (has_value bs x (rw t at h)))
    (cases_Bool (x == b.name))

-- names that are used are bound
module _ (ys : List ℕ) (x : ℕ) where
  -- a name in a slot that is bound is among the bound ones
  pub slot_bound_there : (s : Slot) → is_bound ys s ≡ true → is_in_slot x s ≡ true → has x ys ≡ true
  slot_bound_there (named y) h k = subst (λ z. has z ys ≡ true) (eqb-true y x k) h
  slot_bound_there (valued v) h k = absurd (cc k)

  -- so is one in several
  slots_bound_there : (ss : List Slot) → list_all (is_bound ys) ss ≡ true → list_any (is_in_slot x) ss ≡ true → has x ys ≡ true
  slots_bound_there [] h k = absurd (cc k)
  slots_bound_there (s ∷ ss) h k =
      let parts = and_parts (is_bound ys s) (list_all (is_bound ys) ss) h in
      ⊎_elim (λ t. slot_bound_there s parts.0 t) (λ t. slots_bound_there ss parts.1 t) (or_cases (is_in_slot x s) (list_any (is_in_slot x) ss) k)

  -- so is one in an expression
  expr_bound_there : (e : Expr) → is_scoped_expr ys e ≡ true → is_in_expr x e ≡ true → has x ys ≡ true
  expr_bound_there (slot (named y)) h k = slot_bound_there (named y) h k
  expr_bound_there (slot (valued v)) h k = absurd (cc k)
  expr_bound_there (sig e) h k = expr_bound_there e h k
  expr_bound_there (add e f) h k =
      let parts = and_parts (is_scoped_expr ys e) (is_scoped_expr ys f) h in
      ⊎_elim (λ t. expr_bound_there e parts.0 t) (λ t. expr_bound_there f parts.1 t) (or_cases (is_in_expr x e) (is_in_expr x f) k)
  expr_bound_there (apply qs e) h k =
      let parts = and_parts (list_all (is_bound ys) qs) (is_scoped_expr ys e) h in
      ⊎_elim (λ t. slots_bound_there qs parts.0 t) (λ t. expr_bound_there e parts.1 t) (or_cases (list_any (is_in_slot x) qs) (is_in_expr x e) k)
  expr_bound_there (measure qs) h k = slots_bound_there qs h k

  -- so is one in several expressions
  exprs_bound_there : (es : List Expr) → list_all (is_scoped_expr ys) es ≡ true → list_any (is_in_expr x) es ≡ true → has x ys ≡ true
  exprs_bound_there [] h k = absurd (cc k)
  exprs_bound_there (e ∷ es) h k =
      let parts = and_parts (is_scoped_expr ys e) (list_all (is_scoped_expr ys) es) h in
      ⊎_elim (λ t. expr_bound_there e parts.0 t) (λ t. exprs_bound_there es parts.1 t) (or_cases (is_in_expr x e) (list_any (is_in_expr x) es) k)

-- so the expressions of a prefix are closed under the bindings of its names
pub prefix_scoped : (ys : List ℕ) (p : Process) → is_scoped ys p ≡ true → list_all (is_scoped_expr ys) (exprs_of p) ≡ true
prefix_scoped ys nil h = refl
prefix_scoped ys (par p q) h = refl
prefix_scoped ys (new b p) h = refl
prefix_scoped ys (qbit y p) h = refl
prefix_scoped ys (input c bs p) h = refl
prefix_scoped ys (act e p) h = and_from (is_scoped_expr ys e) true (and_parts (is_scoped_expr ys e) (is_scoped ys p) h).0 refl
prefix_scoped ys (output c es p) h =
    (and_parts (is_bound ys c) (list_all (is_scoped_expr ys) es) (and_parts (is_bound ys c && list_all (is_scoped_expr ys) es) (is_scoped ys p) h).0).1
prefix_scoped ys (branch e f p q) h =
    let parts = and_parts (is_scoped_expr ys e && is_scoped_expr ys f && is_scoped ys p) (is_scoped ys q) h in
    let two = and_parts (is_scoped_expr ys e) (is_scoped_expr ys f) (and_parts (is_scoped_expr ys e && is_scoped_expr ys f) (is_scoped ys p) parts.0).0 in
    and_from (is_scoped_expr ys e) (list_all (is_scoped_expr ys) (f ∷ [])) two.0 (and_from (is_scoped_expr ys f) true two.1 refl)

-- a prefix whose names are bound has no name left in its expressions
pub prefix_closed : (bs : List Bind) (p : Process) → is_scoped (names_of bs) p ≡ true → list_all is_closed (map (expr_bound bs) (exprs_of p)) ≡ true
prefix_closed bs p h =
    exprs_closed bs (exprs_of p) (λ x k. has_value bs x (exprs_bound_there (names_of bs) x (exprs_of p) (prefix_scoped (names_of bs) p h) k))
