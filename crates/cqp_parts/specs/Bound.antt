-- Bindings and results put into slots and expressions.
use Rattle.std.specs.Prelude.{List, [], ◌∷◌, map}
use Rattle.cqp_syntax.specs.Trees.{Slot, Expr}
use Rattle.cqp_syntax.specs.Substitution.{slot_with, expr_with}
use Rattle.cqp_syntax.specs.declared.val.Val.{Val}
use Rattle.cqp_cells.specs.Redex.{reduced, reduced_in}
use Rattle.cqp_parts.specs.declared.bind.Bind.{Bind}

-- into a slot
abbrev pub slot_bound : List Bind → Slot → Slot
slot_bound [] s = s
slot_bound (b ∷ bs) s = slot_bound bs (slot_with b.name b.val s)

-- into an expression
abbrev pub expr_bound : List Bind → Expr → Expr
expr_bound [] e = e
expr_bound (b ∷ bs) e = expr_bound bs (expr_with b.name b.val e)

-- bound in several expressions
abbrev pub exprs_bound : List Bind → List Expr → List Expr
exprs_bound [] es = es
exprs_bound (b ∷ bs) es = exprs_bound bs (map (expr_with b.name b.val) es)

-- results put into an expression, one after another
abbrev pub results_expr : List Val → Expr → Expr
results_expr [] e = e
results_expr (v ∷ vs) e = results_expr vs (reduced v e)

-- the same for expressions one behind the other
abbrev pub results_exprs : List Val → List Expr → List Expr
results_exprs [] es = es
results_exprs (v ∷ vs) es = results_exprs vs (reduced_in v es)
