-- A process whose free names are bound stays so under other binders of them.
use Rattle.std.proofs.Common.{◌≡◌, ℕ, true, false, Bool, List, [], ◌∷◌, ◌++◌, map, filter, ◌==◌, ◌||◌, ◌&&◌, refl, sym, ap, eq-eqb, ◌∙◌, ⊎_elim}
use Rattle.std.proofs.lemmas.Bool.{cases_Bool, or_cases, or_left, or_right, and_parts, and_from, eqb-true}
use Rattle.std.specs.List.{list_any, list_all}
use Rattle.cqp_syntax.specs.Trees.{Slot, named, valued, Expr, slot, sig, add, apply, measure, Process, nil, par, new, qbit, act, input, output, branch}
use Rattle.cqp_syntax.specs.Scope.{is_bound, is_scoped_expr, is_scoped}
use Rattle.cqp_parts.specs.declared.bind.Bind.{Bind}
use Rattle.std.proofs.lemmas.List.Folds.{list_any-append}
use Rattle.cqp_standing.specs.Stands.{names_of}
use Rattle.cqp_parts.specs.Free.{is_in_slot, is_in_expr, is_free}

-- the number is in the list
abbrev pub has : ℕ → List ℕ → Bool
has x xs = list_any (λ y. x == y) xs

-- the second list has those names of the first that pass the test
abbrev pub Covers : (ℕ → Bool) → List ℕ → List ℕ → Type 0
Covers test xs ys = (x : ℕ) → test x ≡ true → has x xs ≡ true → has x ys ≡ true

-- a test that is one of two
first_of : (f g : ℕ → Bool) (xs ys : List ℕ) → Covers (λ x. f x || g x) xs ys → Covers f xs ys
first_of f g xs ys h x t = h x (or_left (f x) (g x) t)

-- or the other
second_of : (f g : ℕ → Bool) (xs ys : List ℕ) → Covers (λ x. f x || g x) xs ys → Covers g xs ys
second_of f g xs ys h x t = h x (or_right (f x) (g x) t)

-- a slot is bound by names that cover its own
slot_scoped : (xs ys : List ℕ) (s : Slot) → Covers (λ x. is_in_slot x s) xs ys → is_bound xs s ≡ true → is_bound ys s ≡ true
slot_scoped xs ys (named y) h t = h y (eq-eqb y y refl) t
slot_scoped xs ys (valued v) h t = t

-- slots are bound by names that cover their own
slots_scoped : (xs ys : List ℕ) (ss : List Slot) → Covers (λ x. list_any (is_in_slot x) ss) xs ys → list_all (is_bound xs) ss ≡ true
    → list_all (is_bound ys) ss ≡ true
slots_scoped xs ys [] h t = refl
slots_scoped xs ys (s ∷ ss) h t =
    let parts = and_parts (is_bound xs s) (list_all (is_bound xs) ss) t in
    and_from (is_bound ys s) (list_all (is_bound ys) ss)
    (slot_scoped xs ys s (first_of (λ x. is_in_slot x s) (λ x. list_any (is_in_slot x) ss) xs ys h) parts.0)
    (slots_scoped xs ys ss (second_of (λ x. is_in_slot x s) (λ x. list_any (is_in_slot x) ss) xs ys h) parts.1)

-- an expression is in scope of names that cover its own
expr_scoped : (xs ys : List ℕ) (e : Expr) → Covers (λ x. is_in_expr x e) xs ys → is_scoped_expr xs e ≡ true → is_scoped_expr ys e ≡ true
expr_scoped xs ys (slot (named x)) h t = slot_scoped xs ys (named x) h t
expr_scoped xs ys (slot (valued v)) h t = t
expr_scoped xs ys (sig e) h t = expr_scoped xs ys e h t
expr_scoped xs ys (add e f) h t =
    let parts = and_parts (is_scoped_expr xs e) (is_scoped_expr xs f) t in
    and_from (is_scoped_expr ys e) (is_scoped_expr ys f)
    (expr_scoped xs ys e (first_of (λ x. is_in_expr x e) (λ x. is_in_expr x f) xs ys h) parts.0)
    (expr_scoped xs ys f (second_of (λ x. is_in_expr x e) (λ x. is_in_expr x f) xs ys h) parts.1)
expr_scoped xs ys (apply qs e) h t =
    let parts = and_parts (list_all (is_bound xs) qs) (is_scoped_expr xs e) t in
    and_from (list_all (is_bound ys) qs) (is_scoped_expr ys e)
    (slots_scoped xs ys qs (first_of (λ x. list_any (is_in_slot x) qs) (λ x. is_in_expr x e) xs ys h) parts.0)
    (expr_scoped xs ys e (second_of (λ x. list_any (is_in_slot x) qs) (λ x. is_in_expr x e) xs ys h) parts.1)
expr_scoped xs ys (measure qs) h t = slots_scoped xs ys qs h t

-- expressions are in scope of names that cover their own
exprs_scoped : (xs ys : List ℕ) (es : List Expr) → Covers (λ x. list_any (is_in_expr x) es) xs ys → list_all (is_scoped_expr xs) es ≡ true
    → list_all (is_scoped_expr ys) es ≡ true
exprs_scoped xs ys [] h t = refl
exprs_scoped xs ys (e ∷ es) h t =
    let parts = and_parts (is_scoped_expr xs e) (list_all (is_scoped_expr xs) es) t in
    and_from (is_scoped_expr ys e) (list_all (is_scoped_expr ys) es)
    (expr_scoped xs ys e (first_of (λ x. is_in_expr x e) (λ x. list_any (is_in_expr x) es) xs ys h) parts.0)
    (exprs_scoped xs ys es (second_of (λ x. is_in_expr x e) (λ x. list_any (is_in_expr x) es) xs ys h) parts.1)

-- further binders on both sides
more_binders : (test : ℕ → Bool) (zs xs ys : List ℕ) → Covers test xs ys → Covers test (zs ++ xs) (zs ++ ys)
more_binders test zs xs ys h x t u =
    list_any-append (λ y. x == y) zs ys ∙ ⊎_elim
    (λ (a : has x zs ≡ true). or_left (has x zs) (has x ys) a)
    (λ (a : has x xs ≡ true). or_right (has x zs) (has x ys) (h x t a))
    (or_cases (has x zs) (has x xs) (sym (list_any-append (λ y. x == y) zs xs) ∙ u))

-- a process is in scope of names that cover its free ones
pub scoped_more : (xs ys : List ℕ) (p : Process) → Covers (λ x. is_free x p) xs ys → is_scoped xs p ≡ true → is_scoped ys p ≡ true
scoped_more xs ys nil h t = refl
scoped_more xs ys (par p q) h t =
    let parts = and_parts (is_scoped xs p) (is_scoped xs q) t in
    and_from (is_scoped ys p) (is_scoped ys q)
    (scoped_more xs ys p (first_of (λ x. is_free x p) (λ x. is_free x q) xs ys h) parts.0)
    (scoped_more xs ys q (second_of (λ x. is_free x p) (λ x. is_free x q) xs ys h) parts.1)
scoped_more xs ys (new b p) h t = scoped_more (b.name ∷ xs) (b.name ∷ ys) p (more_binders (λ x. is_free x p) (b.name ∷ []) xs ys h) t
scoped_more xs ys (qbit y p) h t = scoped_more (y ∷ xs) (y ∷ ys) p (more_binders (λ x. is_free x p) (y ∷ []) xs ys h) t
scoped_more xs ys (act e p) h t =
    let parts = and_parts (is_scoped_expr xs e) (is_scoped xs p) t in
    and_from (is_scoped_expr ys e) (is_scoped ys p)
    (expr_scoped xs ys e (first_of (λ x. is_in_expr x e) (λ x. is_free x p) xs ys h) parts.0)
    (scoped_more xs ys p (second_of (λ x. is_in_expr x e) (λ x. is_free x p) xs ys h) parts.1)
scoped_more xs ys (input c bs p) h t =
    let zs = map (λ b. b.name) bs in
    let parts = and_parts (is_bound xs c) (is_scoped (map (λ b. b.name) bs ++ xs) p) t in
    and_from (is_bound ys c) (is_scoped (map (λ b. b.name) bs ++ ys) p)
    (slot_scoped xs ys c (first_of (λ x. is_in_slot x c) (λ x. is_free x p) xs ys h) parts.0)
    (scoped_more (map (λ b. b.name) bs ++ xs) (map (λ b. b.name) bs ++ ys) p
    (more_binders (λ x. is_free x p) (map (λ b. b.name) bs) xs ys (second_of (λ x. is_in_slot x c) (λ x. is_free x p) xs ys h)) parts.1)
scoped_more xs ys (output c es p) h t =
    let later = second_of (λ x. is_in_slot x c) (λ x. list_any (is_in_expr x) es || is_free x p) xs ys h in
    let parts = and_parts (is_bound xs c && list_all (is_scoped_expr xs) es) (is_scoped xs p) t in
    let two = and_parts (is_bound xs c) (list_all (is_scoped_expr xs) es) parts.0 in
    and_from (is_bound ys c && list_all (is_scoped_expr ys) es) (is_scoped ys p)
    (and_from (is_bound ys c) (list_all (is_scoped_expr ys) es)
    (slot_scoped xs ys c (first_of (λ x. is_in_slot x c) (λ x. list_any (is_in_expr x) es || is_free x p) xs ys h) two.0)
    (exprs_scoped xs ys es (first_of (λ x. list_any (is_in_expr x) es) (λ x. is_free x p) xs ys later) two.1))
    (scoped_more xs ys p (second_of (λ x. list_any (is_in_expr x) es) (λ x. is_free x p) xs ys later) parts.1)
scoped_more xs ys (branch e f p q) h t =
    let later = second_of (λ x. is_in_expr x e) (λ x. is_in_expr x f || (is_free x p || is_free x q)) xs ys h in
    let last = second_of (λ x. is_in_expr x f) (λ x. is_free x p || is_free x q) xs ys later in
    let parts = and_parts (is_scoped_expr xs e && is_scoped_expr xs f && is_scoped xs p) (is_scoped xs q) t in
    let three = and_parts (is_scoped_expr xs e && is_scoped_expr xs f) (is_scoped xs p) parts.0 in
    let two = and_parts (is_scoped_expr xs e) (is_scoped_expr xs f) three.0 in
    and_from (is_scoped_expr ys e && is_scoped_expr ys f && is_scoped ys p) (is_scoped ys q)
    (and_from (is_scoped_expr ys e && is_scoped_expr ys f) (is_scoped ys p)
    (and_from (is_scoped_expr ys e) (is_scoped_expr ys f)
    (expr_scoped xs ys e (first_of (λ x. is_in_expr x e) (λ x. is_in_expr x f || (is_free x p || is_free x q)) xs ys h) two.0)
    (expr_scoped xs ys f (first_of (λ x. is_in_expr x f) (λ x. is_free x p || is_free x q) xs ys later) two.1))
    (scoped_more xs ys p (first_of (λ x. is_free x p) (λ x. is_free x q) xs ys last) three.1))
    (scoped_more xs ys q (second_of (λ x. is_free x p) (λ x. is_free x q) xs ys last) parts.1)

-- kept bindings bind the names that are kept
pub kept_names : (keep : ℕ → Bool) (env : List Bind) → Covers keep (names_of env) (names_of (filter (λ b. keep b.name) env))
kept_names keep [] x t u = cc
kept_names keep (b ∷ env) x t u = ⊎_elim
    (λ (k : keep b.name ≡ true). rw k (⊎_elim
    (λ (a : (x == b.name) ≡ true). or_left (x == b.name) (has x (names_of (filter (λ b. keep b.name) env))) a)
    (λ (a : has x (names_of env) ≡ true). or_right (x == b.name) (has x (names_of (filter (λ b. keep b.name) env))) (kept_names keep env x t a))
    (or_cases (x == b.name) (has x (names_of env)) u)))
    (λ (k : keep b.name ≡ false). rw k (⊎_elim
    (λ (a : (x == b.name) ≡ true). let same : keep x ≡ keep b.name = ap keep (eqb-true x b.name a) in let no : true ≡ false = sym t ∙ (same ∙ k) in cc)
    (λ (a : has x (names_of env) ≡ true). kept_names keep env x t a)
    (or_cases (x == b.name) (has x (names_of env)) u)))
    (cases_Bool (keep b.name))
