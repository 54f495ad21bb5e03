-- The names that are free in a process. Binders are distinct, so none is hidden.
use Rattle.std.specs.Prelude.{ℕ, Bool, false, ◌==◌, ◌||◌}
use Rattle.std.specs.List.{list_any}
use Rattle.cqp_syntax.specs.Trees.{Slot, named, valued, Expr, slot, sig, add, apply, measure}
use Rattle.cqp_syntax.specs.Trees.{Process, nil, par, new, qbit, act, input, output, branch}

-- the name stands in the slot
abbrev pub is_in_slot : ℕ → Slot → Bool
is_in_slot x (named y) = y == x
is_in_slot x (valued v) = false

-- the name stands in the expression
abbrev pub is_in_expr : ℕ → Expr → Bool
is_in_expr x (slot s) = is_in_slot x s
is_in_expr x (sig e) = is_in_expr x e
is_in_expr x (add e f) = is_in_expr x e || is_in_expr x f
is_in_expr x (apply qs e) = list_any (is_in_slot x) qs || is_in_expr x e
is_in_expr x (measure qs) = list_any (is_in_slot x) qs

-- the name stands in the process
abbrev pub is_free : ℕ → Process → Bool
is_free x nil = false
is_free x (par p q) = is_free x p || is_free x q
is_free x (new b p) = is_free x p
is_free x (qbit y p) = is_free x p
is_free x (act e p) = is_in_expr x e || is_free x p
is_free x (input c bs p) = is_in_slot x c || is_free x p
is_free x (output c es p) = is_in_slot x c || (list_any (is_in_expr x) es || is_free x p)
is_free x (branch e f p q) =
    is_in_expr x e || (is_in_expr x f || (is_free x p || is_free x q))
