-- Processes and expressions as parts of a body: their nodes, members, types and faults.
use Rattle.std.proofs.Common.{◌≡◌, ℕ, ◌+◌, List, [], ◌∷◌, ◌++◌, map, refl, ap}
use Rattle.cqp_syntax.specs.TypeTrees.{TypeTree, int_type, qbit_type}
use Rattle.cqp_grammar.specs.Trees.{Occurrence, Parameter, ExprTree, number, unit, name, gate}
use Rattle.cqp_grammar.specs.Trees.{sig, add, apply, measure, ProcessTree, nil, par}
use Rattle.cqp_grammar.specs.Trees.{new, qbit, act, input, output, branch, call}
use Rattle.cqp_program.specs.declared.tree.TreeNode.{TreeNode}
use Rattle.cqp_program.specs.declared.tree.TreeNode.TheVariants as node
use Rattle.cqp_program.specs.Listing.{occ, param, ty_tree, expr_size, exprs_size, process_size}
use Rattle.cqp_program.specs.Listing.{numbers_from, expr_nodes, process_nodes, expr_offsets, process_offsets}
use Rattle.cqp_expand.specs.declared.fault.ScopeFault.{ScopeFault}
use Rattle.cqp_expand.specs.declared.outline.Member.{Member}
use Rattle.cqp_expand.specs.Scopes.{Scope, find}
use Rattle.cqp_expand.specs.Faults.{Signature, signature_of, unbound_at, name_faults, names_faults, expr_faults}
use Rattle.cqp_expand.specs.Faults.{call_faults, repeats, process_faults}
use Rattle.cqp_expand.specs.Members.{local_types, texts_of, expr_members, members_in}
use Rattle.cqp_expand.specs.Locals.{told}
use Rattle.cqp_expand.specs.Nodes.{AreTypes, bound_by, member_faults}

-- a process or an expression
pub data Subtree : Type 0 where
  process : ProcessTree → Subtree
  expr : ExprTree → Subtree

-- how many nodes a subtree has
abbrev pub size_of : Subtree → ℕ
size_of (process p) = process_size p
size_of (expr e) = expr_size e

-- the nodes of a subtree whose first has number n
abbrev pub nodes_of : ℕ → Subtree → List TreeNode
nodes_of n (process p) = process_nodes n p
nodes_of n (expr e) = expr_nodes n e

-- the offsets of its nodes
abbrev pub offsets_of : Subtree → List ℕ
offsets_of (process p) = process_offsets p
offsets_of (expr e) = expr_offsets e

-- the members of a subtree in a scope
abbrev pub members_of : List Signature → Scope → ℕ → ℕ → Subtree → List Member
members_of ds s n k (process p) = members_in (texts_of ds) s n k p
members_of ds s n k (expr e) = expr_members s k e

-- the types of the names that it binds
abbrev pub types_of : Subtree → List TypeTree
types_of (process p) = local_types p
types_of (expr e) = []

-- its faults in a scope
abbrev pub faults_of : List Signature → Scope → Subtree → List ScopeFault
faults_of ds s (process p) = process_faults ds s p
faults_of ds s (expr e) = expr_faults s e

-- the node itself, where the first of its parts has number n
abbrev pub root : ℕ → Subtree → TreeNode
root n (process (nil at)) = node.Nil
root n (process (par at p q)) = node.Par n (n + process_size p)
root n (process (new at x t p)) = node.New (occ x) (ty_tree t) n
root n (process (qbit at x p)) = node.Qbit (occ x) n
root n (process (act at e p)) = node.Act n (n + expr_size e)
root n (process (input at c ps p)) = node.In (occ c) (map param ps) n
root n (process (output at c es p)) = node.Out (occ c) (numbers_from n es) (n + exprs_size es)
root n (process (branch at e f p q)) =
    node.If n (n + expr_size e) (n + expr_size e + expr_size f) (n + expr_size e + expr_size f + process_size p)
root n (process (call at x xs)) = node.Call x (map occ xs)
root n (expr (number at v)) = node.Num v
root n (expr (unit at)) = node.Unit
root n (expr (name at x)) = node.Name x
root n (expr (gate at op)) = node.Gate op
root n (expr (sig at e)) = node.Sig n
root n (expr (add at e f)) = node.Add n (n + expr_size e)
root n (expr (apply at xs e)) = node.Apply (map occ xs) n
root n (expr (measure at xs)) = node.Measure (map occ xs)

-- its offset
abbrev pub offset_of : Subtree → ℕ
offset_of (process (nil at)) = at
offset_of (process (par at p q)) = at
offset_of (process (new at x t p)) = at
offset_of (process (qbit at x p)) = at
offset_of (process (act at e p)) = at
offset_of (process (input at c ps p)) = at
offset_of (process (output at c es p)) = at
offset_of (process (branch at e f p q)) = at
offset_of (process (call at x xs)) = at
offset_of (expr (number at v)) = at
offset_of (expr (unit at)) = at
offset_of (expr (name at x)) = at
offset_of (expr (gate at op)) = at
offset_of (expr (sig at e)) = at
offset_of (expr (add at e f)) = at
offset_of (expr (apply at xs e)) = at
offset_of (expr (measure at xs)) = at

-- the type and the parameters in it, and what it binds
abbrev pub ty_of : Subtree → TypeTree
ty_of (process (new at x t p)) = t
ty_of s = int_type

-- the parameters of an input
abbrev pub params_of : Subtree → List Parameter
params_of (process (input at c ps p)) = ps
params_of s = []

-- what the root of a subtree binds
abbrev pub bound_at : Subtree → List Parameter
bound_at (process (new at x t p)) = record { name = x.name; at = x.at; ty = t } ∷ []
bound_at (process (qbit at x p)) = record { name = x.name; at = x.at; ty = qbit_type } ∷ []
bound_at (process (input at c ps p)) = ps
bound_at s = []

-- its own faults
abbrev pub own_faults : List Signature → Scope → Subtree → List ScopeFault
own_faults ds s (process (input at c ps p)) = name_faults s c ++ repeats [] ps
own_faults ds s (process (output at c es p)) = name_faults s c
own_faults ds s (process (call at f xs)) = names_faults s xs ++ call_faults s at xs (signature_of ds f)
own_faults ds s (expr (name at x)) = unbound_at (find s x) at
own_faults ds s (expr (apply at xs e)) = names_faults s xs
own_faults ds s (expr (measure at xs)) = names_faults s xs
own_faults ds s t = []

-- they are those of the node
pub types-root : (n : ℕ) (s : Subtree) → AreTypes (root n s) (ty_of s) (params_of s)
types-root n (process (nil at)) = tt
types-root n (process (par at p q)) = tt
types-root n (process (new at x t p)) = refl
types-root n (process (qbit at x p)) = tt
types-root n (process (act at e p)) = tt
types-root n (process (input at c ps p)) = refl
types-root n (process (output at c es p)) = tt
types-root n (process (branch at e f p q)) = tt
types-root n (process (call at x xs)) = tt
types-root n (expr (number at v)) = tt
types-root n (expr (unit at)) = tt
types-root n (expr (name at x)) = tt
types-root n (expr (gate at op)) = tt
types-root n (expr (sig at e)) = tt
types-root n (expr (add at e f)) = tt
types-root n (expr (apply at xs e)) = tt
types-root n (expr (measure at xs)) = tt

-- names of a tree are told as they stand
pub told-occ : (xs : List Occurrence) → map told (map occ xs) ≡ xs
told-occ [] = refl
told-occ (x ∷ xs) = ap (λ l. x ∷ l) (told-occ xs)

-- what the node binds is what the part binds
pub bound-root : (n : ℕ) (s : Subtree) → bound_by (root n s) (ty_of s) (params_of s) ≡ bound_at s
bound-root n (process (nil at)) = refl
bound-root n (process (par at p q)) = refl
bound-root n (process (new at x t p)) = refl
bound-root n (process (qbit at x p)) = refl
bound-root n (process (act at e p)) = refl
bound-root n (process (input at c ps p)) = refl
bound-root n (process (output at c es p)) = refl
bound-root n (process (branch at e f p q)) = refl
bound-root n (process (call at x xs)) = refl
bound-root n (expr (number at v)) = refl
bound-root n (expr (unit at)) = refl
bound-root n (expr (name at x)) = refl
bound-root n (expr (gate at op)) = refl
bound-root n (expr (sig at e)) = refl
bound-root n (expr (add at e f)) = refl
bound-root n (expr (apply at xs e)) = refl
bound-root n (expr (measure at xs)) = refl

-- and the node's faults are the part's own
pub faults-root : (ds : List Signature) (c : Scope) (n : ℕ) (s : Subtree) → member_faults ds c (offset_of s) (root n s) (params_of s) ≡ own_faults ds c s
faults-root ds c n (process (nil at)) = refl
faults-root ds c n (process (par at p q)) = refl
faults-root ds c n (process (new at x t p)) = refl
faults-root ds c n (process (qbit at x p)) = refl
faults-root ds c n (process (act at e p)) = refl
faults-root ds c n (process (input at ch ps p)) = refl
faults-root ds c n (process (output at ch es p)) = refl
faults-root ds c n (process (branch at e f p q)) = refl
faults-root ds c n (process (call at x xs)) = ap (λ l. names_faults c l ++ call_faults c at l (signature_of ds x)) (told-occ xs)
faults-root ds c n (expr (number at v)) = refl
faults-root ds c n (expr (unit at)) = refl
faults-root ds c n (expr (name at x)) = refl
faults-root ds c n (expr (gate at op)) = refl
faults-root ds c n (expr (sig at e)) = refl
faults-root ds c n (expr (add at e f)) = refl
faults-root ds c n (expr (apply at xs e)) = ap (names_faults c) (told-occ xs)
faults-root ds c n (expr (measure at xs)) = ap (names_faults c) (told-occ xs)
