-- A process has as many members and offsets as its tree has nodes.
use Rattle.std.proofs.Common.{◌≡◌, ℕ, ◌+◌, List, [], ◌∷◌, ◌++◌, map, length, Option, refl, ◌∙◌, arith, length-append}
use Rattle.std.proofs.lemmas.List.{length-map}
use Rattle.cqp_syntax.specs.TypeTrees.{qbit_type}
use Rattle.cqp_syntax.specs.Preorder.{expr_nodes, exprs_nodes}
use Rattle.cqp_syntax.proofs.Sizes.{length-expr_nodes, length-exprs_nodes}
use Rattle.cqp_grammar.specs.Trees as tree
use Rattle.cqp_grammar.specs.Trees.{ExprTree, ExprTrees, ProcessTree}
use Rattle.cqp_program.specs.Listing.{expr_size, exprs_size, process_size, expr_offsets, exprs_offsets, process_offsets}
use Rattle.cqp_expand.specs.declared.outline.Member.TheVariants.{Own}
use Rattle.cqp_expand.specs.Scopes.{Scope, below, below_all}
use Rattle.cqp_expand.specs.Expansion.{numbers_in, expr_in, exprs_in}
use Rattle.cqp_expand.specs.Members.{def_of, call_member, locals, members_in}
use Rattle.cqp_expand.proofs.Placing.{expr_placed, exprs_placed}
use Rattle.cqp_expand.proofs.SpreadExprs.{size_in, sizes_in}

-- the length of two parts
joined : {X : Type 0} (xs ys : List X) (a b : ℕ) → length xs ≡ a → length ys ≡ b → length (xs ++ ys) ≡ a + b
joined xs ys a b f g = omega (arith, length-append xs ys)

-- the members of an expression
own_expr : (s : Scope) (i : ℕ) (e : ExprTree) → length (map Own (expr_nodes i (expr_in s e))) ≡ expr_size e
own_expr s i e = length-map (expr_nodes i (expr_in s e)) Own ∙ length-expr_nodes i (expr_in s e) ∙ size_in s e

-- the members of expressions
own_exprs : (s : Scope) (i : ℕ) (es : ExprTrees) → length (map Own (exprs_nodes i (exprs_in s es))) ≡ exprs_size es
own_exprs s i es = length-map (exprs_nodes i (exprs_in s es)) Own ∙ length-exprs_nodes i (exprs_in s es) ∙ sizes_in s es

-- a call is one member
call_length : (args : List ℕ) (o : Option ℕ) → length (call_member args o ∷ []) ≡ 1
call_length args o = refl

-- as many members as nodes
pub length-members_in : (ds : List (List ℕ)) (s : Scope) (k i : ℕ) (p : ProcessTree) → length (members_in ds s k i p) ≡ process_size p
length-members_in ds s k i (tree.nil at) = refl
length-members_in ds s k i (tree.par at p q) =
    let right = i + 1 + process_size p in
    omega (
      arith,
      joined (members_in ds s k (i + 1) p) (members_in ds s (k + locals p) right q) _ _ (length-members_in ds s k (i + 1) p)
          (length-members_in ds s (k + locals p) right q),
    )
length-members_in ds s k i (tree.new at x t p) = omega (arith, length-members_in ds (below s k x.name t) (k + 1) (i + 1) p)
length-members_in ds s k i (tree.qbit at x p) = omega (arith, length-members_in ds (below s k x.name qbit_type) (k + 1) (i + 1) p)
length-members_in ds s k i (tree.act at e p) =
    let body = i + 1 + expr_size e in
    omega (arith, joined (map Own (expr_nodes (i + 1) (expr_in s e))) (members_in ds s k body p) _ _ (own_expr s (i + 1) e) (length-members_in ds s k body p))
length-members_in ds s k i (tree.input at c ps p) = omega (arith, length-members_in ds (below_all s k ps) (k + length ps) (i + 1) p)
length-members_in ds s k i (tree.output at c es p) =
    let body = i + 1 + exprs_size es in
    omega (
      arith,
      joined (map Own (exprs_nodes (i + 1) (exprs_in s es))) (members_in ds s k body p) _ _ (own_exprs s (i + 1) es)
          (length-members_in ds s k body p),
    )
length-members_in ds s k i (tree.branch at e f p q) =
    let right = i + 1 + expr_size e in
    let first = right + expr_size f in
    let other = first + process_size p in
    let xs = members_in ds s k first p in
    let ys = members_in ds s (k + locals p) other q in
    let two = joined xs ys _ _ (length-members_in ds s k first p) (length-members_in ds s (k + locals p) other q) in
    let three = joined (map Own (expr_nodes right (expr_in s f))) (xs ++ ys) _ _ (own_expr s right f) two in
    omega (arith, joined (map Own (expr_nodes (i + 1) (expr_in s e))) (map Own (expr_nodes right (expr_in s f)) ++ (xs ++ ys)) _ _ (own_expr s (i + 1) e) three)
length-members_in ds s k i (tree.call at f xs) = call_length (numbers_in s xs) (def_of ds f)

-- the offsets of an expression
expr_count : (e : ExprTree) → length (expr_offsets e) ≡ expr_size e
expr_count e = expr_placed [] e ∙ size_in [] e

-- the offsets of expressions
exprs_count : (es : ExprTrees) → length (exprs_offsets es) ≡ exprs_size es
exprs_count es = exprs_placed [] es ∙ sizes_in [] es

-- as many offsets as nodes
pub length-process_offsets : (p : ProcessTree) → length (process_offsets p) ≡ process_size p
length-process_offsets (tree.nil at) = refl
length-process_offsets (tree.par at p q) = omega (
  arith,
  joined (process_offsets p) (process_offsets q) _ _ (length-process_offsets p)
      (length-process_offsets q),
)
length-process_offsets (tree.new at x t p) = omega (arith, length-process_offsets p)
length-process_offsets (tree.qbit at x p) = omega (arith, length-process_offsets p)
length-process_offsets (tree.act at e p) = omega (arith, joined (expr_offsets e) (process_offsets p) _ _ (expr_count e) (length-process_offsets p))
length-process_offsets (tree.input at c ps p) = omega (arith, length-process_offsets p)
length-process_offsets (tree.output at c es p) = omega (arith, joined (exprs_offsets es) (process_offsets p) _ _ (exprs_count es) (length-process_offsets p))
length-process_offsets (tree.branch at e f p q) =
    let two = joined (process_offsets p) (process_offsets q) _ _ (length-process_offsets p) (length-process_offsets q) in
    let three = joined (expr_offsets f) (process_offsets p ++ process_offsets q) _ _ (expr_count f) two in
    omega (arith, joined (expr_offsets e) (expr_offsets f ++ (process_offsets p ++ process_offsets q)) _ _ (expr_count e) three)
length-process_offsets (tree.call at f xs) = refl
