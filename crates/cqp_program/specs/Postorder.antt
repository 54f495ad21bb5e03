-- The nodes of a tree in postorder: a node's expressions from left to right, then its bodies from
-- left to right, then the node.
use Rattle.std.specs.Prelude.{ℕ, ◌+◌, List, [], ◌∷◌, ◌++◌, map}
use Rattle.cqp_program.specs.declared.fragment.Fragment.{Fragment}
use Rattle.cqp_program.specs.declared.fragment.Kind.{Kind}
use Rattle.cqp_program.specs.declared.fragment.Kind.TheVariants as kind
use Rattle.cqp_grammar.specs.Trees.{ExprTree, number, unit, name, gate, sig, add, apply, measure}
use Rattle.cqp_grammar.specs.Trees.{ExprTrees, no_exprs, expr_and, ProcessTree, nil, par, new, qbit}
use Rattle.cqp_grammar.specs.Trees.{act, input, output, branch, call}
use Rattle.cqp_program.specs.Listing.{occ, ty_tree, param}

-- a node behind its parts: its offset and its kind
abbrev pub ends : ℕ → Kind → List Fragment
ends at k = (record { kind = k; at = at }) ∷ []

-- how many expressions there are
abbrev pub expr_count : ExprTrees → ℕ
expr_count no_exprs = 0
expr_count (expr_and e es) = 1 + expr_count es

abbrev mutual
  -- the nodes of an expression
  pub expr_postorder : ExprTree → List Fragment
  expr_postorder (number at v) = ends at (kind.Num v)
  expr_postorder (unit at) = ends at kind.Unit
  expr_postorder (name at x) = ends at (kind.Name x)
  expr_postorder (gate at op) = ends at (kind.Gate op)
  expr_postorder (sig at e) = expr_postorder e ++ ends at kind.Sig
  expr_postorder (add at e f) = expr_postorder e ++ expr_postorder f ++ ends at kind.Add
  expr_postorder (apply at xs e) = expr_postorder e ++ ends at (kind.Apply (map occ xs))
  expr_postorder (measure at xs) = ends at (kind.Measure (map occ xs))

  -- the fragments of expressions, from left to right
  pub exprs_postorder : ExprTrees → List Fragment
  exprs_postorder no_exprs = []
  exprs_postorder (expr_and e es) = expr_postorder e ++ exprs_postorder es

-- the nodes of a process
abbrev pub postorder : ProcessTree → List Fragment
postorder (nil at) = ends at kind.Nil
postorder (par at p q) = postorder p ++ postorder q ++ ends at kind.Par
postorder (new at x t p) = postorder p ++ ends at (kind.New (occ x) (ty_tree t))
postorder (qbit at x p) = postorder p ++ ends at (kind.Qbit (occ x))
postorder (act at e p) = expr_postorder e ++ postorder p ++ ends at kind.Act
postorder (input at c ps p) = postorder p ++ ends at (kind.In (occ c) (map param ps))
postorder (output at c es p) =
    exprs_postorder es ++ postorder p ++ ends at (kind.Out (occ c) (expr_count es))
postorder (branch at e f p q) =
    expr_postorder e ++ expr_postorder f ++ postorder p ++ postorder q ++ ends at kind.If
postorder (call at x xs) = ends at (kind.Call x (map occ xs))
