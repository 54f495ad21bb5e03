-- Names that are among others: a process that is scoped below some names is so below more.
use Rattle.std.proofs.Common.{◌≡◌, ℕ, List, [], ◌∷◌, ◌++◌, map, true, ◌&&◌, ◌==◌, refl, inl, inr}
use Rattle.std.specs.List.{list_all}
use Rattle.cqp_syntax.specs.Trees.{Slot, named, valued, Expr, slot, sig, add, apply, measure}
use Rattle.cqp_syntax.specs.Trees.{Process, nil, par, new, qbit, act, input, output, branch}
use Rattle.cqp_syntax.specs.Scope.{is_bound, is_scoped_expr, is_scoped}
use Rattle.cqp_expand.proofs.Bools.{either}
use Rattle.cqp_syntax.proofs.Bools.{fails, both, both_hold, or_left, or_right}

-- each of the names is among the others
pub record Within (xs ys : List ℕ) : Type 0 where
  pub are : (x : ℕ) → is_bound xs (named x) ≡ true → is_bound ys (named x) ≡ true

-- so they are with one more name on both sides
pub with_one : (z : ℕ) (xs ys : List ℕ) → Within xs ys → Within (z ∷ xs) (z ∷ ys)
with_one z xs ys w = record { are = are }
  where
    are : (x : ℕ) → is_bound (z ∷ xs) (named x) ≡ true → is_bound (z ∷ ys) (named x) ≡ true
    are x h = elim (either (x == z) (is_bound xs (named x)) h) [
      | inl e ↦ or_left (x == z) (is_bound ys (named x)) e
      | inr e ↦ or_right (x == z) (is_bound ys (named x)) (w.are x e)
    ]

-- so they are with more names on both sides
pub with_all : (zs xs ys : List ℕ) → Within xs ys → Within (zs ++ xs) (zs ++ ys)
with_all [] xs ys w = w
with_all (z ∷ zs) xs ys w = with_one z (zs ++ xs) (zs ++ ys) (with_all zs xs ys w)

-- a slot that is bound below some names is so below more
slot_within : (xs ys : List ℕ) (s : Slot) → Within xs ys → is_bound xs s ≡ true → is_bound ys s ≡ true
slot_within xs ys (named x) w h = w.are x h
slot_within xs ys (valued v) w h = absurd (fails h)

-- so are slots that are bound
slots_within : (xs ys : List ℕ) (qs : List Slot) → Within xs ys → list_all (is_bound xs) qs ≡ true → list_all (is_bound ys) qs ≡ true
slots_within xs ys [] w h = refl
slots_within xs ys (q ∷ qs) w h =
    let parts = both (is_bound xs q) (list_all (is_bound xs) qs) h in
    both_hold (is_bound ys q) (list_all (is_bound ys) qs) (slot_within xs ys q w parts.0) (slots_within xs ys qs w parts.1)

-- an expression that is scoped below some names is so below more
expr_within : (xs ys : List ℕ) (e : Expr) → Within xs ys → is_scoped_expr xs e ≡ true → is_scoped_expr ys e ≡ true
expr_within xs ys (slot (named x)) w h = w.are x h
expr_within xs ys (slot (valued v)) w h = h
expr_within xs ys (sig e) w h = expr_within xs ys e w h
expr_within xs ys (add e f) w h =
    let parts = both (is_scoped_expr xs e) (is_scoped_expr xs f) h in
    both_hold (is_scoped_expr ys e) (is_scoped_expr ys f) (expr_within xs ys e w parts.0) (expr_within xs ys f w parts.1)
expr_within xs ys (apply qs e) w h =
    let parts = both (list_all (is_bound xs) qs) (is_scoped_expr xs e) h in
    both_hold (list_all (is_bound ys) qs) (is_scoped_expr ys e) (slots_within xs ys qs w parts.0) (expr_within xs ys e w parts.1)
expr_within xs ys (measure qs) w h = slots_within xs ys qs w h

-- so are expressions that are scoped
exprs_within : (xs ys : List ℕ) (es : List Expr) → Within xs ys → list_all (is_scoped_expr xs) es ≡ true → list_all (is_scoped_expr ys) es ≡ true
exprs_within xs ys [] w h = refl
exprs_within xs ys (e ∷ es) w h =
    let parts = both (is_scoped_expr xs e) (list_all (is_scoped_expr xs) es) h in
    both_hold (is_scoped_expr ys e) (list_all (is_scoped_expr ys) es) (expr_within xs ys e w parts.0) (exprs_within xs ys es w parts.1)

-- a process that is scoped below some names is so below more
pub process_within : (xs ys : List ℕ) (p : Process) → Within xs ys → is_scoped xs p ≡ true → is_scoped ys p ≡ true
process_within xs ys nil w h = refl
process_within xs ys (par p q) w h =
    let parts = both (is_scoped xs p) (is_scoped xs q) h in
    both_hold (is_scoped ys p) (is_scoped ys q) (process_within xs ys p w parts.0) (process_within xs ys q w parts.1)
process_within xs ys (new b p) w h = process_within (b.name ∷ xs) (b.name ∷ ys) p (with_one b.name xs ys w) h
process_within xs ys (qbit x p) w h = process_within (x ∷ xs) (x ∷ ys) p (with_one x xs ys w) h
process_within xs ys (act e p) w h =
    let parts = both (is_scoped_expr xs e) (is_scoped xs p) h in
    both_hold (is_scoped_expr ys e) (is_scoped ys p) (expr_within xs ys e w parts.0) (process_within xs ys p w parts.1)
process_within xs ys (input c bs p) w h =
    let names = map (λ b. b.name) bs in
    let parts = both (is_bound xs c) (is_scoped (names ++ xs) p) h in
    both_hold (is_bound ys c) (is_scoped (names ++ ys) p) (slot_within xs ys c w parts.0)
    (process_within (names ++ xs) (names ++ ys) p (with_all names xs ys w) parts.1)
process_within xs ys (output c es p) w h =
    let parts = both (is_bound xs c && list_all (is_scoped_expr xs) es) (is_scoped xs p) h in
    let first = both (is_bound xs c) (list_all (is_scoped_expr xs) es) parts.0 in
    both_hold (is_bound ys c && list_all (is_scoped_expr ys) es) (is_scoped ys p)
    (both_hold (is_bound ys c) (list_all (is_scoped_expr ys) es) (slot_within xs ys c w first.0) (exprs_within xs ys es w first.1))
    (process_within xs ys p w parts.1)
process_within xs ys (branch e f p q) w h =
    let parts = both (is_scoped_expr xs e && is_scoped_expr xs f && is_scoped xs p) (is_scoped xs q) h in
    let three = both (is_scoped_expr xs e && is_scoped_expr xs f) (is_scoped xs p) parts.0 in
    let two = both (is_scoped_expr xs e) (is_scoped_expr xs f) three.0 in
    both_hold (is_scoped_expr ys e && is_scoped_expr ys f && is_scoped ys p) (is_scoped ys q)
    (both_hold (is_scoped_expr ys e && is_scoped_expr ys f) (is_scoped ys p)
    (both_hold (is_scoped_expr ys e) (is_scoped_expr ys f) (expr_within xs ys e w two.0) (expr_within xs ys f w two.1))
    (process_within xs ys p w three.1))
    (process_within xs ys q w parts.1)
