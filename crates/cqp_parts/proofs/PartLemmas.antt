-- Values put into a process, node by node.
use Rattle.std.proofs.Common.{◌≡◌, ℕ, List, [], ◌∷◌, ◌++◌, map, refl, sym}
use Rattle.std.proofs.lemmas.List.{map-append}
use Rattle.cqp_syntax.specs.declared.val.Val.{Val}
use Rattle.cqp_syntax.specs.Trees.{Slot, Expr, Binder, Process, nil, par, new, qbit, act, input, output, branch}
use Rattle.cqp_cells.specs.Config.{flattened}
use Rattle.cqp_cells.specs.Redex.{reduced_prefix}
use Rattle.cqp_syntax.specs.Substitution.{slot_with, expr_with, with_value}
use Rattle.cqp_parts.specs.Bound.{slot_bound, expr_bound, exprs_bound}
use Rattle.cqp_parts.specs.declared.bind.Bind.{Bind}
use Rattle.cqp_parts.specs.Parts.{with_bindings, with_results}

-- one result more is put in last
pub with_results-snoc : (vs : List Val) (v : Val) (p : Process) → with_results (vs ++ v ∷ []) p ≡ reduced_prefix v (with_results vs p)
with_results-snoc [] v p = refl
with_results-snoc (u ∷ vs) v p = with_results-snoc vs v (reduced_prefix u p)

-- further bindings are put in behind the first
pub with_bindings-append : (bs cs : List Bind) (p : Process) → with_bindings (bs ++ cs) p ≡ with_bindings cs (with_bindings bs p)
with_bindings-append [] cs p = refl
with_bindings-append (b ∷ bs) cs p = with_bindings-append bs cs (with_value b.name b.val p)

-- no binding goes into `0`
pub bound_nil : (bs : List Bind) → with_bindings bs nil ≡ nil
bound_nil [] = refl
bound_nil (b ∷ bs) = bound_nil bs

-- bindings go into both sides of a parallel composition
pub bound_par : (bs : List Bind) (p q : Process) → with_bindings bs (par p q) ≡ par (with_bindings bs p) (with_bindings bs q)
bound_par [] p q = refl
bound_par (b ∷ bs) p q = bound_par bs (with_value b.name b.val p) (with_value b.name b.val q)

-- they go into the body of a channel's binder
pub bound_new : (bs : List Bind) (x : Binder) (p : Process) → with_bindings bs (new x p) ≡ new x (with_bindings bs p)
bound_new [] x p = refl
bound_new (b ∷ bs) x p = bound_new bs x (with_value b.name b.val p)

-- they go into the body of a qubit's binder
pub bound_qbit : (bs : List Bind) (x : ℕ) (p : Process) → with_bindings bs (qbit x p) ≡ qbit x (with_bindings bs p)
bound_qbit [] x p = refl
bound_qbit (b ∷ bs) x p = bound_qbit bs x (with_value b.name b.val p)

-- they go into an action's expression and its body
pub bound_act : (bs : List Bind) (e : Expr) (p : Process) → with_bindings bs (act e p) ≡ act (expr_bound bs e) (with_bindings bs p)
bound_act [] e p = refl
bound_act (b ∷ bs) e p = bound_act bs (expr_with b.name b.val e) (with_value b.name b.val p)

-- they go into an input's channel and its body
pub bound_input : (bs : List Bind) (c : Slot) (xs : List Binder) (p : Process)
    → with_bindings bs (input c xs p) ≡ input (slot_bound bs c) xs (with_bindings bs p)
bound_input [] c xs p = refl
bound_input (b ∷ bs) c xs p = bound_input bs (slot_with b.name b.val c) xs (with_value b.name b.val p)

-- they go into an output's channel, its arguments and its body
pub bound_output : (bs : List Bind) (c : Slot) (es : List Expr) (p : Process)
    → with_bindings bs (output c es p) ≡ output (slot_bound bs c) (exprs_bound bs es) (with_bindings bs p)
bound_output [] c es p = refl
bound_output (b ∷ bs) c es p = bound_output bs (slot_with b.name b.val c) (map (expr_with b.name b.val) es) (with_value b.name b.val p)

-- they go into a choice's expressions and its branches
pub bound_branch : (bs : List Bind) (e f : Expr) (p q : Process)
    → with_bindings bs (branch e f p q) ≡ branch (expr_bound bs e) (expr_bound bs f) (with_bindings bs p) (with_bindings bs q)
bound_branch [] e f p q = refl
bound_branch (b ∷ bs) e f p q =
    bound_branch bs (expr_with b.name b.val e) (expr_with b.name b.val f) (with_value b.name b.val p) (with_value b.name b.val q)

-- no result goes into `0`
pub results_nil : (vs : List Val) → with_results vs nil ≡ nil
results_nil [] = refl
results_nil (v ∷ vs) = results_nil vs

-- no result goes into a parallel composition
pub results_par : (vs : List Val) (p q : Process) → with_results vs (par p q) ≡ par p q
results_par [] p q = refl
results_par (v ∷ vs) p q = results_par vs p q

-- none goes into a channel's binder
pub results_new : (vs : List Val) (b : Binder) (p : Process) → with_results vs (new b p) ≡ new b p
results_new [] b p = refl
results_new (v ∷ vs) b p = results_new vs b p

-- none goes into a qubit's binder
pub results_qbit : (vs : List Val) (x : ℕ) (p : Process) → with_results vs (qbit x p) ≡ qbit x p
results_qbit [] x p = refl
results_qbit (v ∷ vs) x p = results_qbit vs x p

-- none goes into an input
pub results_input : (vs : List Val) (c : Slot) (bs : List Binder) (p : Process) → with_results vs (input c bs p) ≡ input c bs p
results_input [] c bs p = refl
results_input (v ∷ vs) c bs p = results_input vs c bs p

-- the processes side by side, with bindings
pub flattened-bound : (bs : List Bind) (p : Process) → flattened (with_bindings bs p) ≡ map (with_bindings bs) (flattened p)
flattened-bound bs nil = rw (bound_nil bs) refl
flattened-bound bs (par p q) =
    rw (bound_par bs p q, flattened-bound bs p, flattened-bound bs q) (sym (map-append (with_bindings bs) (flattened p) (flattened q)))
flattened-bound bs (new b p) = rw (bound_new bs b p) refl
flattened-bound bs (qbit x p) = rw (bound_qbit bs x p) refl
flattened-bound bs (act e p) = rw (bound_act bs e p) refl
flattened-bound bs (input c xs p) = rw (bound_input bs c xs p) refl
flattened-bound bs (output c es p) = rw (bound_output bs c es p) refl
flattened-bound bs (branch e f p q) = rw (bound_branch bs e f p q) refl
