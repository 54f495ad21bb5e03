-- A node of a program's lists in its scope: the node with its names as numbers, what it binds, and
-- its own faults. No public clause cites this module.
use Rattle.std.specs.Prelude.{◌≡◌, ℕ, ◌+◌, List, [], ◌∷◌, ◌++◌, map, length}
use Rattle.std.specs.List.{range_with_len}
use Rattle.cqp_syntax.specs.declared.node.Node.{Node}
use Rattle.cqp_syntax.specs.declared.node.Node.TheVariants as node
use Rattle.cqp_syntax.specs.TypeTrees.{TypeTree, qbit_type}
use Rattle.cqp_grammar.specs.Trees.{Parameter}
use Rattle.cqp_program.specs.declared.program.Occ.{Occ}
use Rattle.cqp_program.specs.declared.tree.TreeNode.{TreeNode}
use Rattle.cqp_program.specs.declared.tree.TreeNode.TheVariants as tree
use Rattle.cqp_program.specs.Listing.{param, ty_tree}
use Rattle.cqp_expand.specs.declared.fault.ScopeFault.{ScopeFault}
use Rattle.cqp_expand.specs.declared.outline.Member.{Member}
use Rattle.cqp_expand.specs.declared.outline.Member.TheVariants.{Own}
use Rattle.cqp_expand.specs.Scopes.{Scope, find}
use Rattle.cqp_expand.specs.Expansion.{number_in, numbers_in}
use Rattle.cqp_expand.specs.Faults.{Signature, signature_of, unbound_at, names_faults, call_faults}
use Rattle.cqp_expand.specs.Faults.{repeats}
use Rattle.cqp_expand.specs.Members.{def_of, texts_of, call_member}
use Rattle.cqp_expand.specs.Locals.{told}

-- a node's type is this one, and its parameters are these
abbrev pub AreTypes : TreeNode → TypeTree → List Parameter → Type 0
AreTypes (tree.New x ty body) t ps = ty ≡ ty_tree t
AreTypes (tree.In c params body) t ps = params ≡ map param ps
AreTypes other t ps = Unit {0}

-- the types in a node are those of some trees
pub record HasTypes (x : TreeNode) : Type 0 where
  pub ty : TypeTree
  pub params : List Parameter
  pub are : AreTypes x ty params

-- a name as a parameter of the type
abbrev pub bound : Occ → TypeTree → Parameter
bound x t = record { name = x.name; at = x.at; ty = t }

-- what a node with this type or these parameters binds
abbrev pub bound_by : TreeNode → TypeTree → List Parameter → List Parameter
bound_by (tree.New x ty body) t ps = bound x t ∷ []
bound_by (tree.Qbit x body) t ps = bound x qbit_type ∷ []
bound_by (tree.In c params body) t ps = ps
bound_by other t ps = []

-- a node that neither binds nor names anything
abbrev pub plain : TreeNode → Node
plain (tree.Par left right) = node.Par left right
plain (tree.Act e body) = node.Act e body
plain (tree.If left right first other) = node.If left right first other
plain (tree.Num v) = node.Num v
plain tree.Unit = node.Unit
plain (tree.Gate op) = node.Gate op
plain (tree.Sig e) = node.Sig e
plain (tree.Add left right) = node.Add left right
plain other = node.Nil

-- a node in a scope; its first binder has number n
abbrev pub node_in : Scope → ℕ → TreeNode → Node
node_in s n (tree.New x ty body) = node.New n body
node_in s n (tree.Qbit x body) = node.Qbit n body
node_in s n (tree.In c ps body) =
    node.In (number_in s c.name) (range_with_len n (length ps)) body
node_in s n (tree.Out c es body) = node.Out (number_in s c.name) es body
node_in s n (tree.Name x) = node.Name (number_in s x)
node_in s n (tree.Apply xs e) = node.Apply (numbers_in s (map told xs)) e
node_in s n (tree.Measure xs) = node.Measure (numbers_in s (map told xs))
node_in s n other = plain other

-- a node as a member
abbrev pub member_of : List Signature → Scope → ℕ → TreeNode → Member
member_of ds s n (tree.Call f xs) =
    call_member (numbers_in s (map told xs)) (def_of (texts_of ds) f)
member_of ds s n other = Own (node_in s n other)

-- the faults of a node that is no call, at the offset
abbrev pub node_faults : Scope → ℕ → TreeNode → List Parameter → List ScopeFault
node_faults s at (tree.In c params body) ps = unbound_at (find s c.name) c.at ++ repeats [] ps
node_faults s at (tree.Out c es body) ps = unbound_at (find s c.name) c.at
node_faults s at (tree.Name x) ps = unbound_at (find s x) at
node_faults s at (tree.Apply xs e) ps = names_faults s (map told xs)
node_faults s at (tree.Measure xs) ps = names_faults s (map told xs)
node_faults s at other ps = []

-- the faults of a node, behind these definitions
abbrev pub member_faults : List Signature → Scope → ℕ → TreeNode → List Parameter → List ScopeFault
member_faults ds s at (tree.Call f xs) ps =
    names_faults s (map told xs) ++ call_faults s at (map told xs) (signature_of ds f)
member_faults ds s at other ps = node_faults s at other ps

-- how many parts a node has
abbrev pub part_count : TreeNode → ℕ
part_count (tree.Par left right) = 2
part_count (tree.New x ty body) = 1
part_count (tree.Qbit x body) = 1
part_count (tree.Act e body) = 2
part_count (tree.In c ps body) = 1
part_count (tree.Out c es body) = length es + 1
part_count (tree.If left right first other) = 4
part_count (tree.Sig e) = 1
part_count (tree.Add left right) = 2
part_count (tree.Apply xs e) = 1
part_count other = 0
