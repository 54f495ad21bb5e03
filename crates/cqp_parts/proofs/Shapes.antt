-- The form of a process with bindings and results put in.
use Rattle.std.proofs.Common.{◌≡◌, true, false, List, [], ◌∷◌, is_some, if◌then◌else◌, refl, ap, ◌∙◌, ⊎_elim}
use Rattle.std.proofs.lemmas.Bool.{cases_Bool}
use Rattle.cqp_syntax.specs.declared.val.Val.{Val}
use Rattle.cqp_syntax.specs.Trees.{Slot, Expr, Process, nil, par, new, qbit, act, input, output, branch}
use Rattle.cqp_cells.specs.Redex.{reduced, reduced_in, reduced_prefix, next_redex}
use Rattle.cqp_parts.specs.declared.bind.Bind.{Bind}
use Rattle.cqp_parts.specs.Parts.{with_bindings, with_results}
use Rattle.cqp_parts.specs.Bound.{results_expr, results_exprs, slot_bound, expr_bound, exprs_bound}
use Rattle.cqp_parts.proofs.PartLemmas.{bound_nil, bound_par, bound_new, bound_qbit, bound_act, bound_input, bound_output, bound_branch, results_nil}
use Rattle.cqp_parts.proofs.PartLemmas.{results_par, results_new, results_qbit, results_input}

-- the two expressions of a choice
pub record Two : Type 0 where
  pub left : Expr
  pub right : Expr

-- a result goes into the first that has a redex
abbrev pub reduced_two : Val → Two → Two
reduced_two v t =
    if is_some (next_redex t.left) then record { left = reduced v t.left; right = t.right } else record { left = t.left; right = reduced v t.right }

-- results put into them, one after another
abbrev pub results_two : List Val → Two → Two
results_two [] t = t
results_two (v ∷ vs) t = results_two vs (reduced_two v t)

-- a choice between two processes, on two expressions
abbrev pub branch_on : Process → Process → Two → Process
branch_on p q t = branch t.left t.right p q

-- the form of a process with bindings and results put in
abbrev pub shape : List Val → List Bind → Process → Process
shape vs bs nil = nil
shape vs bs (par p q) = par (with_bindings bs p) (with_bindings bs q)
shape vs bs (new b p) = new b (with_bindings bs p)
shape vs bs (qbit x p) = qbit x (with_bindings bs p)
shape vs bs (act e p) = act (results_expr vs (expr_bound bs e)) (with_bindings bs p)
shape vs bs (input c xs p) = input (slot_bound bs c) xs (with_bindings bs p)
shape vs bs (output c es p) = output (slot_bound bs c) (results_exprs vs (exprs_bound bs es)) (with_bindings bs p)
shape vs bs (branch e f p q) =
    branch_on (with_bindings bs p) (with_bindings bs q) (results_two vs (record { left = expr_bound bs e; right = expr_bound bs f }))

-- results go into an action's expression
pub act_results : (vs : List Val) (e : Expr) (p : Process) → with_results vs (act e p) ≡ act (results_expr vs e) p
act_results [] e p = refl
act_results (v ∷ vs) e p = act_results vs (reduced v e) p

-- they go into an output's arguments
pub output_results : (vs : List Val) (c : Slot) (es : List Expr) (p : Process) → with_results vs (output c es p) ≡ output c (results_exprs vs es) p
output_results [] c es p = refl
output_results (v ∷ vs) c es p = output_results vs c (reduced_in v es) p

-- one result goes into a choice's expressions
branch_reduced : (v : Val) (t : Two) (p q : Process) → reduced_prefix v (branch_on p q t) ≡ branch_on p q (reduced_two v t)
branch_reduced v t p q = ⊎_elim
    (λ (h : is_some (next_redex t.left) ≡ true). rw h refl)
    (λ (h : is_some (next_redex t.left) ≡ false). rw h refl)
    (cases_Bool (is_some (next_redex t.left)))

-- so do several
pub branch_results : (vs : List Val) (t : Two) (p q : Process) → with_results vs (branch_on p q t) ≡ branch_on p q (results_two vs t)
branch_results [] t p q = refl
branch_results (v ∷ vs) t p q = ap (with_results vs) (branch_reduced v t p q) ∙ branch_results vs (reduced_two v t) p q

-- bindings and results give a process that form
pub shaped : (vs : List Val) (bs : List Bind) (p : Process) → with_results vs (with_bindings bs p) ≡ shape vs bs p
shaped vs bs nil = ap (with_results vs) (bound_nil bs) ∙ results_nil vs
shaped vs bs (par p q) = ap (with_results vs) (bound_par bs p q) ∙ results_par vs (with_bindings bs p) (with_bindings bs q)
shaped vs bs (new b p) = ap (with_results vs) (bound_new bs b p) ∙ results_new vs b (with_bindings bs p)
shaped vs bs (qbit x p) = ap (with_results vs) (bound_qbit bs x p) ∙ results_qbit vs x (with_bindings bs p)
shaped vs bs (act e p) = ap (with_results vs) (bound_act bs e p) ∙ act_results vs (expr_bound bs e) (with_bindings bs p)
shaped vs bs (input c xs p) = ap (with_results vs) (bound_input bs c xs p) ∙ results_input vs (slot_bound bs c) xs (with_bindings bs p)
shaped vs bs (output c es p) = ap (with_results vs) (bound_output bs c es p) ∙ output_results vs (slot_bound bs c) (exprs_bound bs es) (with_bindings bs p)
shaped vs bs (branch e f p q) =
    ap (with_results vs) (bound_branch bs e f p q)
    ∙ branch_results vs (record { left = expr_bound bs e; right = expr_bound bs f }) (with_bindings bs p) (with_bindings bs q)
