-- Law: each node of an expanded process has an offset.
use Rattle.std.proofs.Common.{◌≡◌, ℕ, ◌+◌, List, [], ◌∷◌, ◌++◌, map, length, refl, sym, ◌∙◌, arith, length-append}
use Rattle.cqp_syntax.specs.Trees.{Expr, slot, sig, add, apply, measure, Process, nil, par, new, qbit, act, input, output, branch}
use Rattle.cqp_syntax.specs.TypeTrees.{qbit_type}
use Rattle.cqp_syntax.specs.Preorder.{expr_size, exprs_size, process_size}
use Rattle.cqp_grammar.specs.Trees as tree
use Rattle.cqp_grammar.specs.Trees.{ExprTree, ExprTrees, ProcessTree}
use Rattle.cqp_program.specs.Listing.{expr_offsets, exprs_offsets}
use Rattle.cqp_expand.specs.Scopes.{Scope, below, below_all}
use Rattle.cqp_expand.specs.Renaming.{rename, rename_expr}
use Rattle.cqp_expand.specs.Expansion.{Template, binder_count, argument_or_later, numbers_in, expr_in, exprs_in, process_in, offsets_in}
use Rattle.cqp_expand.specs.Faults.{Signature, names_faults, name_faults, expr_faults, exprs_faults, repeats, process_faults}
use Rattle.cqp_expand.proofs.Templates.{AreTemplates, known, empty_parts}

-- a renamed process has as many nodes
expr_size-rename : (r : ℕ → ℕ) (e : Expr) → expr_size (rename_expr r e) ≡ expr_size e
expr_size-rename r (slot s) = refl
expr_size-rename r (sig e) = omega (arith, expr_size-rename r e)
expr_size-rename r (add e f) = omega (arith, expr_size-rename r e, expr_size-rename r f)
expr_size-rename r (apply qs e) = omega (arith, expr_size-rename r e)
expr_size-rename r (measure qs) = refl

-- renamed expressions have as many nodes
exprs_size-rename : (r : ℕ → ℕ) (es : List Expr) → exprs_size (map (rename_expr r) es) ≡ exprs_size es
exprs_size-rename r [] = refl
exprs_size-rename r (e ∷ es) = omega (arith, expr_size-rename r e, exprs_size-rename r es)

-- a renamed process has as many nodes
pub process_size-rename : (r : ℕ → ℕ) (p : Process) → process_size (rename r p) ≡ process_size p
process_size-rename r nil = refl
process_size-rename r (par p q) = omega (arith, process_size-rename r p, process_size-rename r q)
process_size-rename r (new b p) = omega (arith, process_size-rename r p)
process_size-rename r (qbit x p) = omega (arith, process_size-rename r p)
process_size-rename r (act e p) = omega (arith, expr_size-rename r e, process_size-rename r p)
process_size-rename r (input c bs p) = omega (arith, process_size-rename r p)
process_size-rename r (output c es p) = omega (arith, exprs_size-rename r es, process_size-rename r p)
process_size-rename r (branch e f p q) = omega (arith, expr_size-rename r e, expr_size-rename r f, process_size-rename r p, process_size-rename r q)

-- the offsets of two parts
joined : (xs ys : List ℕ) (a b : ℕ) → length xs ≡ a → length ys ≡ b → length (xs ++ ys) ≡ a + b
joined xs ys a b f g = omega (arith, length-append xs ys)

-- each node of an expression has an offset
pub expr_placed : (s : Scope) (e : ExprTree) → length (expr_offsets e) ≡ expr_size (expr_in s e)
expr_placed s (tree.number at v) = refl
expr_placed s (tree.unit at) = refl
expr_placed s (tree.name at x) = refl
expr_placed s (tree.gate at op) = refl
expr_placed s (tree.sig at e) = omega (arith, expr_placed s e)
expr_placed s (tree.add at e f) = omega (arith, joined (expr_offsets e) (expr_offsets f) _ _ (expr_placed s e) (expr_placed s f))
expr_placed s (tree.apply at xs e) = omega (arith, expr_placed s e)
expr_placed s (tree.measure at xs) = refl

-- expressions have as many offsets as nodes
pub exprs_placed : (s : Scope) (es : ExprTrees) → length (exprs_offsets es) ≡ exprs_size (exprs_in s es)
exprs_placed s tree.no_exprs = refl
exprs_placed s (tree.expr_and e es) = joined (expr_offsets e) (exprs_offsets es) _ _ (expr_placed s e) (exprs_placed s es)

-- each node of a process has an offset
pub process_placed : (ts : List Template) (ds : List Signature) (s u : Scope) (n : ℕ) (p : ProcessTree) → AreTemplates ts ds → process_faults ds s p ≡ []
    → length (offsets_in ts p) ≡ process_size (process_in ts u n p)
process_placed ts ds s u n (tree.nil at) a h = refl
process_placed ts ds s u n (tree.par at p q) a h =
    let parts = empty_parts (process_faults ds s p) (process_faults ds s q) h in
    let m = n + binder_count (process_in ts u n p) in
    omega (arith, joined (offsets_in ts p) (offsets_in ts q) _ _ (process_placed ts ds s u n p a parts.0) (process_placed ts ds s u m q a parts.1))
process_placed ts ds s u n (tree.new at x t p) a h = omega (arith, process_placed ts ds (below s 0 x.name t) (below u n x.name t) (n + 1) p a h)
process_placed ts ds s u n (tree.qbit at x p) a h = omega (arith, process_placed ts ds (below s 0 x.name qbit_type) (below u n x.name qbit_type) (n + 1) p a h)
process_placed ts ds s u n (tree.act at e p) a h =
    let body = process_placed ts ds s u n p a (empty_parts (expr_faults s e) _ h).1 in
    omega (arith, joined (expr_offsets e) (offsets_in ts p) _ _ (expr_placed u e) body)
process_placed ts ds s u n (tree.input at c ps p) a h =
    let parts = empty_parts (repeats [] ps) _ (empty_parts (name_faults s c) _ h).1 in
    omega (arith, process_placed ts ds (below_all s 0 ps) (below_all u n ps) (n + length ps) p a parts.1)
process_placed ts ds s u n (tree.output at c es p) a h =
    let body = process_placed ts ds s u n p a (empty_parts (exprs_faults s es) _ (empty_parts (name_faults s c) _ h).1).1 in
    omega (arith, joined (exprs_offsets es) (offsets_in ts p) _ _ (exprs_placed u es) body)
process_placed ts ds s u n (tree.branch at e f p q) a h =
    let parts = empty_parts (process_faults ds s p) (process_faults ds s q) (empty_parts (expr_faults s f) _ (empty_parts (expr_faults s e) _ h).1).1 in
    let m = n + binder_count (process_in ts u n p) in
    let bodies = joined (offsets_in ts p) (offsets_in ts q) _ _ (process_placed ts ds s u n p a parts.0) (process_placed ts ds s u m q a parts.1) in
    let behind = joined (expr_offsets f) (offsets_in ts p ++ offsets_in ts q) _ _ (expr_placed u f) bodies in
    omega (arith, joined (expr_offsets e) (expr_offsets f ++ (offsets_in ts p ++ offsets_in ts q)) _ _ (expr_placed u e) behind)
process_placed ts ds s u n (tree.call at f xs) a h =
    let k = known s at xs f ts ds a (empty_parts (names_faults s xs) _ h).1 in
    rw k.is (k.right.placed ∙ sym (process_size-rename (argument_or_later (numbers_in u xs) n) k.template.body))
