-- A renamed process is scoped below the renamed names, and binds the renamed names.
use Rattle.std.proofs.Common.{◌≡◌, ℕ, List, [], ◌∷◌, ◌++◌, map, true, ◌&&◌, ◌==◌, refl, ap, ap₂, sym, ◌∙◌, subst, inl, inr, eq-eqb, arith}
use Rattle.std.proofs.lemmas.Bool.Decides.{nat_tests}
use Rattle.std.proofs.lemmas.List.{map-append}
use Rattle.std.specs.List.{list_all}
use Rattle.cqp_syntax.specs.Trees.{Slot, named, valued, Expr, slot, sig, add, apply, measure}
use Rattle.cqp_syntax.specs.Trees.{Binder, Process, nil, par, new, qbit, act, input, output, branch}
use Rattle.cqp_syntax.specs.TypeTrees.{qbit_type}
use Rattle.cqp_syntax.specs.Binders.{binders_of}
use Rattle.cqp_syntax.specs.Scope.{is_bound, is_scoped_expr, is_scoped}
use Rattle.cqp_expand.specs.Renaming.{rename_slot, rename_binder, rename_expr, rename}
use Rattle.cqp_expand.proofs.Bools.{either}
use Rattle.cqp_syntax.proofs.Bools.{fails, both, or_left, or_right, both_hold}

-- names that are told to be equal are one
pub same_name : (x y : ℕ) → (x == y) ≡ true → x ≡ y
same_name x y h = grind (arith, nat_tests)

-- a name that is among others is so when all are renamed
pub renamed_bound : (r : ℕ → ℕ) (xs : List ℕ) (x : ℕ) → is_bound xs (named x) ≡ true → is_bound (map r xs) (named (r x)) ≡ true
renamed_bound r [] x h = absurd (fails h)
renamed_bound r (y ∷ ys) x h = elim (either (x == y) (is_bound ys (named x)) h) [
  | inl e ↦ or_left (r x == r y) (is_bound (map r ys) (named (r x))) (eq-eqb (r x) (r y) (ap r (same_name x y e)))
  | inr e ↦ or_right (r x == r y) (is_bound (map r ys) (named (r x))) (renamed_bound r ys x e)
]

-- a slot that is bound below names is so below the renamed ones
slot_renamed : (r : ℕ → ℕ) (xs : List ℕ) (s : Slot) → is_bound xs s ≡ true → is_bound (map r xs) (rename_slot r s) ≡ true
slot_renamed r xs (named x) h = renamed_bound r xs x h
slot_renamed r xs (valued v) h = absurd (fails h)

-- so are slots that are bound
slots_renamed : (r : ℕ → ℕ) (xs : List ℕ) (qs : List Slot) → list_all (is_bound xs) qs ≡ true → list_all (is_bound (map r xs)) (map (rename_slot r) qs) ≡ true
slots_renamed r xs [] h = refl
slots_renamed r xs (q ∷ qs) h =
    let parts = both (is_bound xs q) (list_all (is_bound xs) qs) h in
    both_hold (is_bound (map r xs) (rename_slot r q)) (list_all (is_bound (map r xs)) (map (rename_slot r) qs))
    (slot_renamed r xs q parts.0) (slots_renamed r xs qs parts.1)

-- an expression that is scoped below names is so below the renamed ones
expr_renamed : (r : ℕ → ℕ) (xs : List ℕ) (e : Expr) → is_scoped_expr xs e ≡ true → is_scoped_expr (map r xs) (rename_expr r e) ≡ true
expr_renamed r xs (slot (named x)) h = renamed_bound r xs x h
expr_renamed r xs (slot (valued v)) h = h
expr_renamed r xs (sig e) h = expr_renamed r xs e h
expr_renamed r xs (add e f) h =
    let parts = both (is_scoped_expr xs e) (is_scoped_expr xs f) h in
    both_hold (is_scoped_expr (map r xs) (rename_expr r e)) (is_scoped_expr (map r xs) (rename_expr r f))
    (expr_renamed r xs e parts.0) (expr_renamed r xs f parts.1)
expr_renamed r xs (apply qs e) h =
    let parts = both (list_all (is_bound xs) qs) (is_scoped_expr xs e) h in
    both_hold (list_all (is_bound (map r xs)) (map (rename_slot r) qs)) (is_scoped_expr (map r xs) (rename_expr r e))
    (slots_renamed r xs qs parts.0) (expr_renamed r xs e parts.1)
expr_renamed r xs (measure qs) h = slots_renamed r xs qs h

-- so are expressions that are scoped
exprs_renamed : (r : ℕ → ℕ) (xs : List ℕ) (es : List Expr) → list_all (is_scoped_expr xs) es ≡ true
    → list_all (is_scoped_expr (map r xs)) (map (rename_expr r) es) ≡ true
exprs_renamed r xs [] h = refl
exprs_renamed r xs (e ∷ es) h =
    let parts = both (is_scoped_expr xs e) (list_all (is_scoped_expr xs) es) h in
    both_hold (is_scoped_expr (map r xs) (rename_expr r e)) (list_all (is_scoped_expr (map r xs)) (map (rename_expr r) es))
    (expr_renamed r xs e parts.0) (exprs_renamed r xs es parts.1)

-- the names of renamed binders are the renamed names
pub renamed_names : (r : ℕ → ℕ) (bs : List Binder) → map (λ b. b.name) (map (rename_binder r) bs) ≡ map r (map (λ b. b.name) bs)
renamed_names r [] = refl
renamed_names r (b ∷ bs) = ap (λ xs. r b.name ∷ xs) (renamed_names r bs)

-- the names below renamed binders are the renamed names
below_renamed : (r : ℕ → ℕ) (bs : List Binder) (xs : List ℕ) → map r (map (λ b. b.name) bs ++ xs) ≡ map (λ b. b.name) (map (rename_binder r) bs) ++ map r xs
below_renamed r [] xs = refl
below_renamed r (b ∷ bs) xs = ap (λ ys. r b.name ∷ ys) (below_renamed r bs xs)

-- a renamed process is scoped below the renamed names
pub process_renamed : (r : ℕ → ℕ) (xs : List ℕ) (p : Process) → is_scoped xs p ≡ true → is_scoped (map r xs) (rename r p) ≡ true
process_renamed r xs nil h = refl
process_renamed r xs (par p q) h =
    let parts = both (is_scoped xs p) (is_scoped xs q) h in
    both_hold (is_scoped (map r xs) (rename r p)) (is_scoped (map r xs) (rename r q)) (process_renamed r xs p parts.0) (process_renamed r xs q parts.1)
process_renamed r xs (new b p) h = process_renamed r (b.name ∷ xs) p h
process_renamed r xs (qbit x p) h = process_renamed r (x ∷ xs) p h
process_renamed r xs (act e p) h =
    let parts = both (is_scoped_expr xs e) (is_scoped xs p) h in
    both_hold (is_scoped_expr (map r xs) (rename_expr r e)) (is_scoped (map r xs) (rename r p)) (expr_renamed r xs e parts.0) (process_renamed r xs p parts.1)
process_renamed r xs (input c bs p) h =
    let names = map (λ b. b.name) bs in
    let parts = both (is_bound xs c) (is_scoped (names ++ xs) p) h in
    let inner = subst (λ ys. is_scoped ys (rename r p) ≡ true) (below_renamed r bs xs) (process_renamed r (names ++ xs) p parts.1) in
    both_hold (is_bound (map r xs) (rename_slot r c)) (is_scoped (map (λ b. b.name) (map (rename_binder r) bs) ++ map r xs) (rename r p))
    (slot_renamed r xs c parts.0) inner
process_renamed r xs (output c es p) h =
    let parts = both (is_bound xs c && list_all (is_scoped_expr xs) es) (is_scoped xs p) h in
    let first = both (is_bound xs c) (list_all (is_scoped_expr xs) es) parts.0 in
    both_hold (is_bound (map r xs) (rename_slot r c) && list_all (is_scoped_expr (map r xs)) (map (rename_expr r) es)) (is_scoped (map r xs) (rename r p))
    (both_hold (is_bound (map r xs) (rename_slot r c)) (list_all (is_scoped_expr (map r xs)) (map (rename_expr r) es))
    (slot_renamed r xs c first.0) (exprs_renamed r xs es first.1))
    (process_renamed r xs p parts.1)
process_renamed r xs (branch e f p q) h =
    let parts = both (is_scoped_expr xs e && is_scoped_expr xs f && is_scoped xs p) (is_scoped xs q) h in
    let three = both (is_scoped_expr xs e && is_scoped_expr xs f) (is_scoped xs p) parts.0 in
    let two = both (is_scoped_expr xs e) (is_scoped_expr xs f) three.0 in
    let ys = map r xs in
    both_hold (is_scoped_expr ys (rename_expr r e) && is_scoped_expr ys (rename_expr r f) && is_scoped ys (rename r p)) (is_scoped ys (rename r q))
    (both_hold (is_scoped_expr ys (rename_expr r e) && is_scoped_expr ys (rename_expr r f)) (is_scoped ys (rename r p))
    (both_hold (is_scoped_expr ys (rename_expr r e)) (is_scoped_expr ys (rename_expr r f)) (expr_renamed r xs e two.0) (expr_renamed r xs f two.1))
    (process_renamed r xs p three.1))
    (process_renamed r xs q parts.1)

-- the binders of a renamed process are the renamed binders
pub binders-rename : (r : ℕ → ℕ) (p : Process) → binders_of (rename r p) ≡ map (rename_binder r) (binders_of p)
binders-rename r nil = refl
binders-rename r (par p q) = ap₂ (λ xs ys. xs ++ ys) (binders-rename r p) (binders-rename r q)
    ∙ sym (map-append (rename_binder r) (binders_of p) (binders_of q))
binders-rename r (new b p) = ap (λ xs. rename_binder r b ∷ xs) (binders-rename r p)
binders-rename r (qbit x p) = ap (λ xs. record { name = r x; ty = qbit_type } ∷ xs) (binders-rename r p)
binders-rename r (act e p) = binders-rename r p
binders-rename r (input c bs p) = ap (λ xs. map (rename_binder r) bs ++ xs) (binders-rename r p) ∙ sym (map-append (rename_binder r) bs (binders_of p))
binders-rename r (output c es p) = binders-rename r p
binders-rename r (branch e f p q) = ap₂ (λ xs ys. xs ++ ys) (binders-rename r p) (binders-rename r q)
    ∙ sym (map-append (rename_binder r) (binders_of p) (binders_of q))
