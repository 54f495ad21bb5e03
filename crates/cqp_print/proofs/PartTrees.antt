-- Processes and expressions as parts of a process: their nodes, their tokens, and what is left of each behind its head.
use Rattle.std.proofs.Common.{◌≡◌, ℕ, ◌+◌, List, [], map, refl}
use Rattle.std.specs.Prelude.{if◌then◌else◌}
use Rattle.cqp_syntax.specs.TypeTrees.{TypeTree, int_type}
use Rattle.cqp_grammar.specs.declared.token.Token.{Token}
use Rattle.cqp_grammar.specs.Trees.{Parameter, ExprTree, number, unit, name, gate, sig, add, apply}
use Rattle.cqp_grammar.specs.Trees.{measure, ProcessTree, nil, par, new, qbit, act}
use Rattle.cqp_grammar.specs.Trees.{input, output, branch, call}
use Rattle.cqp_grammar.specs.Canonical as canonical
use Rattle.cqp_grammar.specs.Canonical.{in_parentheses, names_tokens, type_tokens, params_tokens}
use Rattle.cqp_grammar.specs.Canonical.{expr_tokens, expr_at, items_tokens, as_body, process_tokens}
use Rattle.cqp_program.specs.declared.tree.TreeNode.{TreeNode}
use Rattle.cqp_program.specs.declared.tree.TreeNode.TheVariants as node
use Rattle.cqp_program.specs.Listing.{occ, param, ty_tree, expr_size, exprs_size, process_size}
use Rattle.cqp_program.specs.Listing.{numbers_from, expr_nodes, process_nodes}
use Rattle.cqp_print.specs.declared.work.Position.{Position}
use Rattle.cqp_print.specs.declared.work.Position.TheVariants as position
use Rattle.cqp_print.specs.Trees.{is_wrapped, AreTypes}

-- a process or an expression
pub data PartTree : Type 0 where
  process : ProcessTree → PartTree
  expr : ExprTree → PartTree

-- how many nodes a part has
abbrev pub size_of : PartTree → ℕ
size_of (process p) = process_size p
size_of (expr e) = expr_size e

-- the nodes of a part, from a number on
abbrev pub nodes_of : ℕ → PartTree → List TreeNode
nodes_of n (process p) = process_nodes n p
nodes_of n (expr e) = expr_nodes n e

-- the tokens of a part without parentheses of its own
abbrev pub own_tokens : PartTree → List Token
own_tokens (process p) = process_tokens p
own_tokens (expr e) = expr_tokens e

-- the node itself, where the first of its parts has number n
abbrev pub root : ℕ → PartTree → TreeNode
root n (process (nil at)) = node.Nil
root n (process (par at p q)) = node.Par n (n + process_size p)
root n (process (new at x t p)) = node.New (occ x) (ty_tree t) n
root n (process (qbit at x p)) = node.Qbit (occ x) n
root n (process (act at e p)) = node.Act n (n + expr_size e)
root n (process (input at c ps p)) = node.In (occ c) (map param ps) n
root n (process (output at c es p)) = node.Out (occ c) (numbers_from n es) (n + exprs_size es)
root n (process (branch at e f p q)) =
    node.If n (n + expr_size e) (n + expr_size e + expr_size f) (n + expr_size e + expr_size f + process_size p)
root n (process (call at x xs)) = node.Call x (map occ xs)
root n (expr (number at v)) = node.Num v
root n (expr (unit at)) = node.Unit
root n (expr (name at x)) = node.Name x
root n (expr (gate at op)) = node.Gate op
root n (expr (sig at e)) = node.Sig n
root n (expr (add at e f)) = node.Add n (n + expr_size e)
root n (expr (apply at xs e)) = node.Apply (map occ xs) n
root n (expr (measure at xs)) = node.Measure (map occ xs)

-- the type and the parameters in it
abbrev pub ty_of : PartTree → TypeTree
ty_of (process (new at x t p)) = t
ty_of s = int_type

-- the parameters that stand at the root of a part
abbrev pub params_of : PartTree → List Parameter
params_of (process (input at c ps p)) = ps
params_of s = []

-- the types at a part's root are those of its node
pub types-root : (n : ℕ) (s : PartTree) → AreTypes (root n s) (ty_of s) (params_of s)
types-root n (process (nil at)) = tt
types-root n (process (par at p q)) = tt
types-root n (process (new at x t p)) = refl
types-root n (process (qbit at x p)) = tt
types-root n (process (act at e p)) = tt
types-root n (process (input at c ps p)) = refl
types-root n (process (output at c es p)) = tt
types-root n (process (branch at e f p q)) = tt
types-root n (process (call at x xs)) = tt
types-root n (expr (number at v)) = tt
types-root n (expr (unit at)) = tt
types-root n (expr (name at x)) = tt
types-root n (expr (gate at op)) = tt
types-root n (expr (sig at e)) = tt
types-root n (expr (add at e f)) = tt
types-root n (expr (apply at xs e)) = tt
types-root n (expr (measure at xs)) = tt

-- numbers don't matter for parentheses
pub wrapped-root : (n : ℕ) (s : PartTree) (p : Position) → is_wrapped (root n s) p ≡ is_wrapped (root 0 s) p
wrapped-root n (process (nil at)) p = refl
wrapped-root n (process (par at r q)) p = refl
wrapped-root n (process (new at x t r)) p = refl
wrapped-root n (process (qbit at x r)) p = refl
wrapped-root n (process (act at e r)) p = refl
wrapped-root n (process (input at c ps r)) p = refl
wrapped-root n (process (output at c es r)) p = refl
wrapped-root n (process (branch at e f r q)) p = refl
wrapped-root n (process (call at x xs)) p = refl
wrapped-root n (expr (number at v)) p = refl
wrapped-root n (expr (unit at)) p = refl
wrapped-root n (expr (name at x)) p = refl
wrapped-root n (expr (gate at op)) p = refl
wrapped-root n (expr (sig at e)) p = refl
wrapped-root n (expr (add at e f)) p = refl
wrapped-root n (expr (apply at xs e)) p = refl
wrapped-root n (expr (measure at xs)) p = refl

-- the tokens of a part at a position
abbrev pub part_tokens : Position → PartTree → List Token
part_tokens p s = if is_wrapped (root 0 s) p then in_parentheses (own_tokens s) else own_tokens s

-- a position of the grammar
abbrev pub offset_of : canonical.Position → Position
offset_of canonical.enclosed = position.Enclosed
offset_of canonical.last = position.Last
offset_of canonical.inner = position.Inner
offset_of canonical.behind_plus = position.BehindPlus

-- the tokens of parts are those of canonical text
pub body-is : (p : ProcessTree) → as_body p (process_tokens p) ≡ part_tokens position.Body (process p)
body-is (nil at) = refl
body-is (par at p q) = refl
body-is (new at x t p) = refl
body-is (qbit at x p) = refl
body-is (act at e p) = refl
body-is (input at c ps p) = refl
body-is (output at c es p) = refl
body-is (branch at e f p q) = refl
body-is (call at x xs) = refl

-- a whole process is written as a part that is whole
pub whole-is : (p : ProcessTree) → process_tokens p ≡ part_tokens position.Whole (process p)
whole-is (nil at) = refl
whole-is (par at p q) = refl
whole-is (new at x t p) = refl
whole-is (qbit at x p) = refl
whole-is (act at e p) = refl
whole-is (input at c ps p) = refl
whole-is (output at c es p) = refl
whole-is (branch at e f p q) = refl
whole-is (call at x xs) = refl

-- an expression is written as a part that is enclosed
pub enclosed-is : (e : ExprTree) → expr_tokens e ≡ part_tokens position.Enclosed (expr e)
enclosed-is (number at v) = refl
enclosed-is (unit at) = refl
enclosed-is (name at x) = refl
enclosed-is (gate at op) = refl
enclosed-is (sig at e) = refl
enclosed-is (add at e f) = refl
enclosed-is (apply at xs e) = refl
enclosed-is (measure at xs) = refl

-- an expression at a position is written as a part at that position
pub expr-is : (p : canonical.Position) (e : ExprTree) → expr_at p e ≡ part_tokens (offset_of p) (expr e)
expr-is canonical.enclosed (number at v) = refl
expr-is canonical.enclosed (unit at) = refl
expr-is canonical.enclosed (name at x) = refl
expr-is canonical.enclosed (gate at op) = refl
expr-is canonical.enclosed (sig at e) = refl
expr-is canonical.enclosed (add at e f) = refl
expr-is canonical.enclosed (apply at xs e) = refl
expr-is canonical.enclosed (measure at xs) = refl
expr-is canonical.last (number at v) = refl
expr-is canonical.last (unit at) = refl
expr-is canonical.last (name at x) = refl
expr-is canonical.last (gate at op) = refl
expr-is canonical.last (sig at e) = refl
expr-is canonical.last (add at e f) = refl
expr-is canonical.last (apply at xs e) = refl
expr-is canonical.last (measure at xs) = refl
expr-is canonical.inner (number at v) = refl
expr-is canonical.inner (unit at) = refl
expr-is canonical.inner (name at x) = refl
expr-is canonical.inner (gate at op) = refl
expr-is canonical.inner (sig at e) = refl
expr-is canonical.inner (add at e f) = refl
expr-is canonical.inner (apply at xs e) = refl
expr-is canonical.inner (measure at xs) = refl
expr-is canonical.behind_plus (number at v) = refl
expr-is canonical.behind_plus (unit at) = refl
expr-is canonical.behind_plus (name at x) = refl
expr-is canonical.behind_plus (gate at op) = refl
expr-is canonical.behind_plus (sig at e) = refl
expr-is canonical.behind_plus (add at e f) = refl
expr-is canonical.behind_plus (apply at xs e) = refl
expr-is canonical.behind_plus (measure at xs) = refl
