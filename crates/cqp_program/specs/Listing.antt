-- A tree of the grammar as lists: its nodes in preorder, which are a node, then its expressions
-- from left to right, then its bodies from left to right; and their offsets.
use Rattle.std.specs.Prelude.{ℕ, ◌+◌, List, [], ◌∷◌, ◌++◌, map}
use Rattle.cqp_syntax.specs.declared.ty.Ty.{Ty}
use Rattle.cqp_syntax.specs.declared.ty.Ty.TheVariants as ty
use Rattle.cqp_syntax.specs.TypeTrees.{TypeTree, int_type, unit_type, qbit_type, op_type, chan_type}
use Rattle.cqp_syntax.specs.TypeTrees.{TypeTrees, no_types, type_and}
use Rattle.cqp_program.specs.declared.program.Occ.{Occ}
use Rattle.cqp_program.specs.declared.program.Param.{Param}
use Rattle.cqp_program.specs.declared.program.TyTree.{TyTree}
use Rattle.cqp_program.specs.declared.tree.Tree.{Tree}
use Rattle.cqp_program.specs.declared.tree.TreeNode.{TreeNode}
use Rattle.cqp_program.specs.declared.tree.TreeNode.TheVariants as node
use Rattle.cqp_grammar.specs.Trees.{Occurrence, Parameter, ExprTree, number, unit, name, gate, sig}
use Rattle.cqp_grammar.specs.Trees.{add, apply, measure, ExprTrees, no_exprs, expr_and, ProcessTree}
use Rattle.cqp_grammar.specs.Trees.{nil, par, new, qbit, act, input, output, branch, call}

abbrev mutual
  -- how many parts a type has, with itself
  pub type_size : TypeTree → ℕ
  type_size (chan_type ts) = 1 + types_size ts
  type_size t = 1

  -- how many nodes the types have
  pub types_size : TypeTrees → ℕ
  types_size no_types = 0
  types_size (type_and t ts) = type_size t + types_size ts

-- the numbers of types that stand behind one another, the first at n
abbrev pub type_numbers : ℕ → TypeTrees → List ℕ
type_numbers n no_types = []
type_numbers n (type_and t ts) = n ∷ type_numbers (n + type_size t) ts

abbrev mutual
  -- the parts of a type whose first has number n
  pub type_nodes : ℕ → TypeTree → List Ty
  type_nodes n int_type = ty.Int ∷ []
  type_nodes n unit_type = ty.Unit ∷ []
  type_nodes n qbit_type = ty.Qbit ∷ []
  type_nodes n (op_type places) = ty.Op places ∷ []
  type_nodes n (chan_type ts) = ty.Chan (type_numbers (n + 1) ts) ∷ types_nodes (n + 1) ts

  -- the nodes of types, from a number on
  pub types_nodes : ℕ → TypeTrees → List Ty
  types_nodes n no_types = []
  types_nodes n (type_and t ts) = type_nodes n t ++ types_nodes (n + type_size t) ts

-- names, types and parameters
abbrev pub occ : Occurrence → Occ
occ x = record { name = x.name; at = x.at }

-- a type as its list of nodes
abbrev pub ty_tree : TypeTree → TyTree
ty_tree t = record { nodes = type_nodes 0 t }

-- a parameter as programs hold it
abbrev pub param : Parameter → Param
param p = record { name = p.name; at = p.at; ty = ty_tree p.ty }

abbrev mutual
  -- how many nodes an expression has
  pub expr_size : ExprTree → ℕ
  expr_size (number at v) = 1
  expr_size (unit at) = 1
  expr_size (name at x) = 1
  expr_size (gate at op) = 1
  expr_size (sig at e) = 1 + expr_size e
  expr_size (add at e f) = 1 + expr_size e + expr_size f
  expr_size (apply at xs e) = 1 + expr_size e
  expr_size (measure at xs) = 1

  -- how many nodes the expressions have
  pub exprs_size : ExprTrees → ℕ
  exprs_size no_exprs = 0
  exprs_size (expr_and e es) = expr_size e + exprs_size es

-- how many nodes a process has
abbrev pub process_size : ProcessTree → ℕ
process_size (nil at) = 1
process_size (par at p q) = 1 + process_size p + process_size q
process_size (new at x t p) = 1 + process_size p
process_size (qbit at x p) = 1 + process_size p
process_size (act at e p) = 1 + expr_size e + process_size p
process_size (input at c ps p) = 1 + process_size p
process_size (output at c es p) = 1 + exprs_size es + process_size p
process_size (branch at e f p q) = 1 + expr_size e + expr_size f + process_size p + process_size q
process_size (call at x xs) = 1

-- the numbers of expressions that stand behind one another, the first at n
abbrev pub numbers_from : ℕ → ExprTrees → List ℕ
numbers_from n no_exprs = []
numbers_from n (expr_and e es) = n ∷ numbers_from (n + expr_size e) es

abbrev mutual
  -- the nodes of an expression whose first has number n
  pub expr_nodes : ℕ → ExprTree → List TreeNode
  expr_nodes n (number at v) = node.Num v ∷ []
  expr_nodes n (unit at) = node.Unit ∷ []
  expr_nodes n (name at x) = node.Name x ∷ []
  expr_nodes n (gate at op) = node.Gate op ∷ []
  expr_nodes n (sig at e) = node.Sig (n + 1) ∷ expr_nodes (n + 1) e
  expr_nodes n (add at e f) =
      node.Add (n + 1) (n + 1 + expr_size e) ∷ (expr_nodes (n + 1) e
      ++ expr_nodes (n + 1 + expr_size e) f)
  expr_nodes n (apply at xs e) = node.Apply (map occ xs) (n + 1) ∷ expr_nodes (n + 1) e
  expr_nodes n (measure at xs) = node.Measure (map occ xs) ∷ []

  -- the nodes of expressions, from a number on
  pub exprs_nodes : ℕ → ExprTrees → List TreeNode
  exprs_nodes n no_exprs = []
  exprs_nodes n (expr_and e es) = expr_nodes n e ++ exprs_nodes (n + expr_size e) es

-- the nodes of a process whose first has number n
abbrev pub process_nodes : ℕ → ProcessTree → List TreeNode
process_nodes n (nil at) = node.Nil ∷ []
process_nodes n (par at p q) =
    node.Par (n + 1) (n + 1 + process_size p) ∷ (process_nodes (n + 1) p
    ++ process_nodes (n + 1 + process_size p) q)
process_nodes n (new at x t p) = node.New (occ x) (ty_tree t) (n + 1) ∷ process_nodes (n + 1) p
process_nodes n (qbit at x p) = node.Qbit (occ x) (n + 1) ∷ process_nodes (n + 1) p
process_nodes n (act at e p) =
    node.Act (n + 1) (n + 1 + expr_size e) ∷ (expr_nodes (n + 1) e
    ++ process_nodes (n + 1 + expr_size e) p)
process_nodes n (input at c ps p) = node.In (occ c) (map param ps) (n + 1) ∷ process_nodes (n + 1) p
process_nodes n (output at c es p) =
    node.Out (occ c) (numbers_from (n + 1) es) (n + 1 + exprs_size es) ∷ (exprs_nodes (n + 1) es
    ++ process_nodes (n + 1 + exprs_size es) p)
process_nodes n (branch at e f p q) =
    let right = n + 1 + expr_size e in
    let yes = right + expr_size f in
    let no = yes + process_size p in
    node.If (n + 1) right yes no ∷ (expr_nodes (n + 1) e ++ (expr_nodes right f
    ++ (process_nodes yes p ++ process_nodes no q)))
process_nodes n (call at x xs) = node.Call x (map occ xs) ∷ []

abbrev mutual
  -- the offsets of an expression's nodes
  pub expr_offsets : ExprTree → List ℕ
  expr_offsets (number at v) = at ∷ []
  expr_offsets (unit at) = at ∷ []
  expr_offsets (name at x) = at ∷ []
  expr_offsets (gate at op) = at ∷ []
  expr_offsets (sig at e) = at ∷ expr_offsets e
  expr_offsets (add at e f) = at ∷ (expr_offsets e ++ expr_offsets f)
  expr_offsets (apply at xs e) = at ∷ expr_offsets e
  expr_offsets (measure at xs) = at ∷ []

  -- the offsets of expressions
  pub exprs_offsets : ExprTrees → List ℕ
  exprs_offsets no_exprs = []
  exprs_offsets (expr_and e es) = expr_offsets e ++ exprs_offsets es

-- the offsets of a process's nodes
abbrev pub process_offsets : ProcessTree → List ℕ
process_offsets (nil at) = at ∷ []
process_offsets (par at p q) = at ∷ (process_offsets p ++ process_offsets q)
process_offsets (new at x t p) = at ∷ process_offsets p
process_offsets (qbit at x p) = at ∷ process_offsets p
process_offsets (act at e p) = at ∷ (expr_offsets e ++ process_offsets p)
process_offsets (input at c ps p) = at ∷ process_offsets p
process_offsets (output at c es p) = at ∷ (exprs_offsets es ++ process_offsets p)
process_offsets (branch at e f p q) =
    at ∷ (expr_offsets e ++ (expr_offsets f ++ (process_offsets p ++ process_offsets q)))
process_offsets (call at x xs) = at ∷ []

-- the lists of a process
abbrev pub tree_lists : ProcessTree → Tree
tree_lists p = record { nodes = process_nodes 0 p; at = process_offsets p }
