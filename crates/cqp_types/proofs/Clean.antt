-- A tree of which no node fails.
use Rattle.std.proofs.Common.{◌≡◌, List, [], ◌∷◌, ◌++◌, None}
use Rattle.std.specs.List.{AllByRecursion}
use Rattle.cqp_syntax.specs.Trees.{Expr, slot, sig, add, apply, measure, Binder, Process, nil, par, new, qbit, act, input, output, branch}
use Rattle.cqp_types.specs.Faults.{Annotation, expr_fault, process_fault}

-- no node of the expression fails
abbrev pub ExprClean : Annotation → Expr → Type 0
ExprClean ty (slot s) = Unit {0}
ExprClean ty (sig e) = (expr_fault ty (sig e) ≡ None) × ExprClean ty e
ExprClean ty (add e f) = (expr_fault ty (add e f) ≡ None) × ExprClean ty e × ExprClean ty f
ExprClean ty (apply qs e) = (expr_fault ty (apply qs e) ≡ None) × ExprClean ty e
ExprClean ty (measure qs) = expr_fault ty (measure qs) ≡ None

-- no node of the expressions fails
abbrev pub ExprsClean : Annotation → List Expr → Type 0
ExprsClean ty es = AllByRecursion (ExprClean ty) es

-- no node of the process fails
abbrev pub ProcessClean : Annotation → Process → Type 0
ProcessClean ty nil = Unit {0}
ProcessClean ty (par p q) = (process_fault ty (par p q) ≡ None) × ProcessClean ty p × ProcessClean ty q
ProcessClean ty (new b p) = (process_fault ty (new b p) ≡ None) × ProcessClean ty p
ProcessClean ty (qbit x p) = ProcessClean ty p
ProcessClean ty (act e p) = ExprClean ty e × ProcessClean ty p
ProcessClean ty (input c bs p) = (process_fault ty (input c bs p) ≡ None) × ProcessClean ty p
ProcessClean ty (output c es p) = (process_fault ty (output c es p) ≡ None) × ExprsClean ty es × ProcessClean ty p
ProcessClean ty (branch e f p q) =
    (process_fault ty (branch e f p q) ≡ None) × ExprClean ty e × ExprClean ty f × ProcessClean ty p × ProcessClean ty q

-- the binders have the types that names have
abbrev pub Annotates : Annotation → List Binder → Type 0
Annotates ty bs = AllByRecursion (λ b. ty b.name ≡ b.ty) bs

-- the binders on each side
pub front : (ty : Annotation) (bs cs : List Binder) → Annotates ty (bs ++ cs) → Annotates ty bs
front ty [] cs a = tt
front ty (b ∷ bs) cs a = (a.0, front ty bs cs a.1)

-- so do those behind them
pub back : (ty : Annotation) (bs cs : List Binder) → Annotates ty (bs ++ cs) → Annotates ty cs
back ty [] cs a = a
back ty (b ∷ bs) cs a = back ty bs cs a.1
