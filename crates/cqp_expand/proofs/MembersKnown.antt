-- The calls among the members of a body name definitions before it.
use Rattle.std.proofs.Common.{◌≡◌, ℕ, ◌+◌, ◌<◌, List, [], ◌∷◌, ◌++◌, map, length, Option, Some, None, refl, arith}
use Rattle.std.specs.List.{AllByRecursion}
use Rattle.cqp_syntax.specs.declared.node.Node.{Node}
use Rattle.cqp_syntax.specs.TypeTrees.{qbit_type}
use Rattle.cqp_syntax.specs.Preorder.{expr_nodes, exprs_nodes}
use Rattle.cqp_grammar.specs.Trees.{ExprTree, ExprTrees, ProcessTree, nil, par, new, qbit, act}
use Rattle.cqp_grammar.specs.Trees.{input, output, branch, call}
use Rattle.cqp_program.specs.Listing.{expr_size, exprs_size, process_size}
use Rattle.cqp_expand.specs.declared.outline.Outline.{Outline}
use Rattle.cqp_expand.specs.declared.outline.Member.TheVariants.{Own}
use Rattle.cqp_expand.specs.Scopes.{Scope, below, below_all}
use Rattle.cqp_expand.specs.Expansion.{numbers_in, expr_in, exprs_in}
use Rattle.cqp_expand.specs.Sizes.{IsKnown}
use Rattle.cqp_expand.specs.Members.{locals, def_of, call_member, expr_members, exprs_members, members_in}
use Rattle.cqp_expand.proofs.Growing.{all_both}
use Rattle.cqp_expand.proofs.Found.{def_below}

module _ (front : List Outline) (ds : List (List ℕ)) (count : length ds ≡ length front) where
  -- a call of a definition that is found
  called_known : (o : Option ℕ) (xs : List ℕ) → ((i : ℕ) → o ≡ Some i → i < length ds) → IsKnown front (call_member xs o)
  called_known None xs h = tt
  called_known (Some i) xs h = omega (arith, h i refl, count)

  -- a node is no call
  own_known : (xs : List Node) → AllByRecursion (IsKnown front) (map Own xs)
  own_known [] = tt
  own_known (x ∷ xs) = (tt, own_known xs)

  -- an expression has no calls
  expr_known : (s : Scope) (k : ℕ) (e : ExprTree) → AllByRecursion (IsKnown front) (expr_members s k e)
  expr_known s k e = own_known (expr_nodes k (expr_in s e))

  -- the nodes of expressions are no calls
  exprs_known : (s : Scope) (k : ℕ) (es : ExprTrees) → AllByRecursion (IsKnown front) (exprs_members s k es)
  exprs_known s k es = own_known (exprs_nodes k (exprs_in s es))

  -- all members are known
  pub members_known : (s : Scope) (n k : ℕ) (p : ProcessTree) → AllByRecursion (IsKnown front) (members_in ds s n k p)
  members_known s n k (nil at) = (tt, tt)
  members_known s n k (par at p q) = (
    tt,
    all_both (IsKnown front) (members_in ds s n (k + 1) p) (members_in ds s (n + locals p) (k + 1 + process_size p) q) (members_known s n (k + 1) p)
        (members_known s (n + locals p) (k + 1 + process_size p) q),
  )
  members_known s n k (new at x t p) = (tt, members_known (below s n x.name t) (n + 1) (k + 1) p)
  members_known s n k (qbit at x p) = (tt, members_known (below s n x.name qbit_type) (n + 1) (k + 1) p)
  members_known s n k (act at e p) = (
    tt,
    all_both (IsKnown front) (expr_members s (k + 1) e) (members_in ds s n (k + 1 + expr_size e) p) (expr_known s (k + 1) e) (members_known s n
        (k + 1 + expr_size e) p),
  )
  members_known s n k (input at c ps p) = (tt, members_known (below_all s n ps) (n + length ps) (k + 1) p)
  members_known s n k (output at c es p) = (
    tt,
    all_both (IsKnown front) (exprs_members s (k + 1) es) (members_in ds s n (k + 1 + exprs_size es) p) (exprs_known s (k + 1) es) (members_known s n
        (k + 1 + exprs_size es) p),
  )
  members_known s n k (branch at e f p q) =
      let right = k + 1 + expr_size e in
      let first = right + expr_size f in
      let other = first + process_size p in
      let bodies = all_both (IsKnown front) (members_in ds s n first p) (members_in ds s (n + locals p) other q) (members_known s n first p) (members_known s
      (n + locals p) other q) in
      let behind = all_both (IsKnown front) (expr_members s right f) (members_in ds s n first p ++ members_in ds s (n + locals p) other q)
      (expr_known s right f) bodies in (
        tt,
        all_both (IsKnown front) (expr_members s (k + 1) e) (expr_members s right f ++ (members_in ds s n first p ++ members_in ds s (n + locals p) other q))
            (expr_known s (k + 1) e) behind,
      )
  members_known s n k (call at f xs) = (called_known (def_of ds f) (numbers_in s xs) (λ i e. def_below ds f i e), tt)
