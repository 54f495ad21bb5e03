-- The body of a definition as members: its nodes in preorder, with names numbered in the definition
-- and parts numbered in its tree, and calls of definitions before it. No public clause cites it.
use Rattle.std.specs.Prelude.{ℕ, ◌+◌, List, [], ◌∷◌, ◌++◌, map, length, Option, Some, None}
use Rattle.std.specs.Prelude.{if◌then◌else◌, bytes_eq}
use Rattle.std.specs.List.{range_with_len}
use Rattle.cqp_syntax.specs.declared.node.Node.TheVariants as node
use Rattle.cqp_syntax.specs.TypeTrees.{TypeTree, qbit_type}
use Rattle.cqp_syntax.specs.Preorder.{expr_nodes, exprs_nodes}
use Rattle.cqp_grammar.specs.Trees as tree
use Rattle.cqp_grammar.specs.Trees.{ExprTree, ExprTrees, ProcessTree}
use Rattle.cqp_program.specs.Listing.{expr_size, exprs_size, process_size, numbers_from}
use Rattle.cqp_expand.specs.declared.outline.Member.{Member}
use Rattle.cqp_expand.specs.declared.outline.Member.TheVariants.{Own, Call}
use Rattle.cqp_expand.specs.Scopes.{Scope, below, below_all}
use Rattle.cqp_expand.specs.Faults.{Signature}
use Rattle.cqp_expand.specs.Expansion.{number_in, numbers_in, expr_in, exprs_in}

-- the names of definitions
abbrev pub texts_of : List Signature → List (List ℕ)
texts_of ds = map (λ d. d.text) ds

-- the number of the last definition of the name; the last name stands first
abbrev pub def_of : List (List ℕ) → List ℕ → Option ℕ
def_of [] f = None
def_of (d ∷ ds) f = if bytes_eq d f then Some (length ds) else def_of ds f

-- a call; one of an unknown definition stands for `0`
abbrev pub call_member : List ℕ → Option ℕ → Member
call_member args None = Own node.Nil
call_member args (Some def) = Call def args

-- the types of the names that a process binds itself, in preorder
abbrev pub local_types : ProcessTree → List TypeTree
local_types (tree.nil at) = []
local_types (tree.par at p q) = local_types p ++ local_types q
local_types (tree.new at x t p) = t ∷ local_types p
local_types (tree.qbit at x p) = qbit_type ∷ local_types p
local_types (tree.act at e p) = local_types p
local_types (tree.input at c ps p) = map (λ p. p.ty) ps ++ local_types p
local_types (tree.output at c es p) = local_types p
local_types (tree.branch at e f p q) = local_types p ++ local_types q
local_types (tree.call at f xs) = []

-- how many names that are
abbrev pub locals : ProcessTree → ℕ
locals p = length (local_types p)

-- the members of an expression in a scope; its first node has number n
abbrev pub expr_members : Scope → ℕ → ExprTree → List Member
expr_members s n e = map Own (expr_nodes n (expr_in s e))

-- of expressions, one after the other
abbrev pub exprs_members : Scope → ℕ → ExprTrees → List Member
exprs_members s n es = map Own (exprs_nodes n (exprs_in s es))

-- the members of a process in a scope, behind the definitions of these names, the last one first;
-- its first binder has number k, and its first node number n
abbrev pub members_in : List (List ℕ) → Scope → ℕ → ℕ → ProcessTree → List Member
members_in ds s k n (tree.nil at) = Own node.Nil ∷ []
members_in ds s k n (tree.par at p q) =
    let right = n + 1 + process_size p in
    Own (node.Par (n + 1) right)
    ∷ (members_in ds s k (n + 1) p ++ members_in ds s (k + locals p) right q)
members_in ds s k n (tree.new at x t p) =
    Own (node.New k (n + 1)) ∷ members_in ds (below s k x.name t) (k + 1) (n + 1) p
members_in ds s k n (tree.qbit at x p) =
    Own (node.Qbit k (n + 1)) ∷ members_in ds (below s k x.name qbit_type) (k + 1) (n + 1) p
members_in ds s k n (tree.act at e p) =
    let body = n + 1 + expr_size e in
    Own (node.Act (n + 1) body)
    ∷ (expr_members s (n + 1) e ++ members_in ds s k body p)
members_in ds s k n (tree.input at c ps p) =
    Own (node.In (number_in s c.name) (range_with_len k (length ps)) (n + 1))
    ∷ members_in ds (below_all s k ps) (k + length ps) (n + 1) p
members_in ds s k n (tree.output at c es p) =
    let body = n + 1 + exprs_size es in
    Own (node.Out (number_in s c.name) (numbers_from (n + 1) es) body)
    ∷ (exprs_members s (n + 1) es ++ members_in ds s k body p)
members_in ds s k n (tree.branch at e f p q) =
    let right = n + 1 + expr_size e in
    let first = right + expr_size f in
    let other = first + process_size p in
    Own (node.If (n + 1) right first other)
    ∷ (expr_members s (n + 1) e ++ (expr_members s right f
    ++ (members_in ds s k first p ++ members_in ds s (k + locals p) other q)))
members_in ds s k n (tree.call at f xs) = call_member (numbers_in s xs) (def_of ds f) ∷ []
