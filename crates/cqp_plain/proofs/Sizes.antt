-- A process is reduced at most once for each of its nodes.
use Rattle.std.proofs.Common.{◌≤◌, List, [], ◌∷◌, arith}
use Rattle.cqp_syntax.specs.Trees.{Expr, slot, sig, add, apply, measure}
use Rattle.cqp_syntax.specs.Trees.{Process, nil, par, new, qbit, act, input, output, branch}
use Rattle.cqp_syntax.specs.Measures.{expr_steps, exprs_steps, size}
use Rattle.cqp_syntax.specs.Preorder.{expr_size, exprs_size, process_size}

-- in an expression
steps_within : (e : Expr) → expr_steps e ≤ expr_size e
steps_within (slot s) = omega arith
steps_within (sig e) = let a = steps_within e in omega arith
steps_within (add e f) = let a = steps_within e in let b = steps_within f in omega arith
steps_within (apply qs e) = let a = steps_within e in omega arith
steps_within (measure qs) = omega arith

-- in a list of expressions
all_within : (es : List Expr) → exprs_steps es ≤ exprs_size es
all_within [] = omega arith
all_within (e ∷ es) = let a = steps_within e in let b = all_within es in omega arith

-- in a process
pub size_within : (p : Process) → size p ≤ process_size p
size_within nil = omega arith
size_within (par p q) = let a = size_within p in let b = size_within q in omega arith
size_within (new b p) = let a = size_within p in omega arith
size_within (qbit x p) = let a = size_within p in omega arith
size_within (act e p) = let a = steps_within e in let b = size_within p in omega arith
size_within (input c bs p) = let a = size_within p in omega arith
size_within (output c es p) = let a = all_within es in let b = size_within p in omega arith
size_within (branch e f p q) =
    let a = steps_within e in
    let b = steps_within f in
    let c = size_within p in
    let d = size_within q in
    omega arith
