-- The redex that is next after so many results, with its operands' values.
use Rattle.std.specs.Prelude.{ℕ, ◌+◌, ◌-◌, List, [], ◌∷◌, length, Bool, true, false, ◌&&◌, nat_lt}
use Rattle.std.specs.Prelude.{slice_index_or, if◌then◌else◌}
use Rattle.cqp_syntax.specs.declared.val.Val.{Val}
use Rattle.cqp_syntax.specs.declared.val.Val.TheVariants as val
use Rattle.cqp_syntax.specs.Trees.{Expr, slot, named, valued, sig, add, apply, measure, value}
use Rattle.cqp_cells.specs.Redex.{Redex, lone_name, sum, pick, gate, look}
use Rattle.cqp_syntax.specs.Measures.{expr_steps}

-- no name stands in an operand's place
abbrev pub is_closed : Expr → Bool
is_closed (slot (named x)) = false
is_closed (slot (valued v)) = true
is_closed (sig e) = is_closed e
is_closed (add e f) = is_closed e && is_closed f
is_closed (apply qs e) = is_closed e
is_closed (measure qs) = true

-- the k-th redex of an expression: operands before the node, the left before the right
abbrev pub nth_redex : Expr → ℕ → Expr
nth_redex (slot s) k = slot s
nth_redex (sig e) k = if nat_lt k (expr_steps e) then nth_redex e k else sig e
nth_redex (add e f) k =
    if nat_lt k (expr_steps e) then nth_redex e k
    else
    (if nat_lt k (expr_steps e + expr_steps f) then nth_redex f (k - expr_steps e) else add e f)
nth_redex (apply qs e) k = if nat_lt k (expr_steps e) then nth_redex e k else apply qs e
nth_redex (measure qs) k = measure qs

-- the last result but so many
abbrev pub last_but : ℕ → List Val → Val
last_but skip vs = slice_index_or vs (length vs - (skip + 1)) val.Unit

-- the value of an operand behind which so many results stand: its own, or its redex's result
abbrev pub operand : List Val → ℕ → Expr → Val
operand vs skip (slot (valued v)) = v
operand vs skip e = last_but skip vs

-- the redex with its operands' values; a right operand's results stand behind the left one's
abbrev pub redex_with : List Val → Expr → Redex
redex_with vs (slot s) = lone_name 0
redex_with vs (sig e) = pick (value (operand vs 0 e))
redex_with vs (add e f) =
    sum (value (operand vs (expr_steps f) e)) (value (operand vs 0 f))
redex_with vs (apply qs e) = gate qs (value (operand vs 0 e))
redex_with vs (measure qs) = look qs

-- of several expressions: how many redexes there are, the k-th, and the values in the end
abbrev pub count_of : List Expr → ℕ
count_of [] = 0
count_of (e ∷ es) = expr_steps e + count_of es

abbrev pub nth_redex_of : List Expr → ℕ → Expr
nth_redex_of [] k = value val.Unit
nth_redex_of (e ∷ es) k =
    if nat_lt k (expr_steps e) then nth_redex e k else nth_redex_of es (k - expr_steps e)

abbrev pub operands : List Val → List Expr → List Val
operands vs [] = []
operands vs (e ∷ es) = operand vs (count_of es) e ∷ operands vs es
