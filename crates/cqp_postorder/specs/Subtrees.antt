-- Trees as kinds of nodes over their parts, expressions and bodies alike, and the subtrees that
-- await their places in the lists.
-- No public clause cites this module.
use Rattle.std.specs.Prelude.{◌≡◌, ℕ, ◌+◌, List, [], ◌∷◌, ◌++◌, take, slice_index}
use Rattle.cqp_program.specs.declared.tree.TreeNode.{TreeNode}
use Rattle.cqp_program.specs.declared.tree.TreeNode.TheVariants as node
use Rattle.cqp_program.specs.declared.fragment.Fragment.{Fragment}
use Rattle.cqp_program.specs.declared.fragment.Kind.{Kind}
use Rattle.cqp_program.specs.declared.fragment.Kind.TheVariants as kind
use Rattle.cqp_program.specs.Postorder.{ends}

mutual
  -- a node over its parts
  pub data Subtree : Type 0 where
    over : (kind : Kind) (at : ℕ) → Subtrees → Subtree

  -- subtrees in order
  pub data Subtrees : Type 0 where
    no_parts : Subtrees
    part_and : Subtree → Subtrees → Subtrees

-- how many parts a node of this kind has
abbrev pub part_count : Kind → ℕ
part_count kind.Par = 2
part_count (kind.New x ty) = 1
part_count (kind.Qbit x) = 1
part_count kind.Act = 2
part_count (kind.In c ps) = 1
part_count (kind.Out c args) = args + 1
part_count kind.If = 4
part_count kind.Sig = 1
part_count kind.Add = 2
part_count (kind.Apply xs) = 1
part_count k = 0

-- the node of this kind whose parts have these numbers
abbrev pub node_with : Kind → List ℕ → TreeNode
node_with kind.Nil ns = node.Nil
node_with kind.Par ns = node.Par (slice_index ns 0) (slice_index ns 1)
node_with (kind.New x ty) ns = node.New x ty (slice_index ns 0)
node_with (kind.Qbit x) ns = node.Qbit x (slice_index ns 0)
node_with kind.Act ns = node.Act (slice_index ns 0) (slice_index ns 1)
node_with (kind.In c ps) ns = node.In c ps (slice_index ns 0)
node_with (kind.Out c args) ns = node.Out c (take args ns) (slice_index ns args)
node_with kind.If ns =
    node.If (slice_index ns 0) (slice_index ns 1) (slice_index ns 2) (slice_index ns 3)
node_with (kind.Num v) ns = node.Num v
node_with kind.Unit ns = node.Unit
node_with (kind.Name x) ns = node.Name x
node_with (kind.Gate op) ns = node.Gate op
node_with kind.Sig ns = node.Sig (slice_index ns 0)
node_with kind.Add ns = node.Add (slice_index ns 0) (slice_index ns 1)
node_with (kind.Apply xs) ns = node.Apply xs (slice_index ns 0)
node_with (kind.Measure xs) ns = node.Measure xs
node_with (kind.Call x xs) ns = node.Call x xs

abbrev mutual
  -- how many nodes there are
  pub size_of : Subtree → ℕ
  size_of (over k at ts) = 1 + sizes_of ts

  -- how many nodes the subtrees have
  pub sizes_of : Subtrees → ℕ
  sizes_of no_parts = 0
  sizes_of (part_and t ts) = size_of t + sizes_of ts

-- how many parts there are
abbrev pub length_of : Subtrees → ℕ
length_of no_parts = 0
length_of (part_and t ts) = 1 + length_of ts

-- the numbers of parts that stand behind one another, the first at n
abbrev pub numbers_of : ℕ → Subtrees → List ℕ
numbers_of n no_parts = []
numbers_of n (part_and t ts) = n ∷ numbers_of (n + size_of t) ts

abbrev mutual
  -- the nodes, in preorder, the first with number n
  pub nodes_of : ℕ → Subtree → List TreeNode
  nodes_of n (over k at ts) = node_with k (numbers_of (n + 1) ts) ∷ all_nodes_of (n + 1) ts

  -- the nodes of the subtrees, from a number on
  pub all_nodes_of : ℕ → Subtrees → List TreeNode
  all_nodes_of n no_parts = []
  all_nodes_of n (part_and t ts) = nodes_of n t ++ all_nodes_of (n + size_of t) ts

abbrev mutual
  -- the offsets, in preorder
  pub offsets_of : Subtree → List ℕ
  offsets_of (over k at ts) = at ∷ all_offsets_of ts

  -- the offsets of the subtrees
  pub all_offsets_of : Subtrees → List ℕ
  all_offsets_of no_parts = []
  all_offsets_of (part_and t ts) = offsets_of t ++ all_offsets_of ts

abbrev mutual
  -- the fragments, in postorder
  pub fragments_of : Subtree → List Fragment
  fragments_of (over k at ts) = all_fragments_of ts ++ ends at k

  -- the fragments of the subtrees
  pub all_fragments_of : Subtrees → List Fragment
  all_fragments_of no_parts = []
  all_fragments_of (part_and t ts) = fragments_of t ++ all_fragments_of ts

abbrev mutual
  -- how many nodes each fragment is with all nodes below it, in postorder
  pub fragment_sizes : Subtree → List ℕ
  fragment_sizes (over k at ts) = all_fragment_sizes ts ++ (1 + sizes_of ts) ∷ []

  -- the sizes of the subtrees' fragments
  pub all_fragment_sizes : Subtrees → List ℕ
  all_fragment_sizes no_parts = []
  all_fragment_sizes (part_and t ts) = fragment_sizes t ++ all_fragment_sizes ts

abbrev mutual
  -- each node has as many parts as its kind says
  pub IsCounted : Subtree → Type 0
  IsCounted (over k at ts) = (length_of ts ≡ part_count k) × AreCounted ts

  -- each node of the subtrees counts its parts
  pub AreCounted : Subtrees → Type 0
  AreCounted no_parts = Unit {0}
  AreCounted (part_and t ts) = IsCounted t × AreCounted ts

-- the sizes end in those of the fragments of these subtrees, which are so many
pub record EndIn (sizes : List ℕ) (count : ℕ) (ts : Subtrees) : Type 0 where
  pub before : List ℕ
  pub are : sizes ≡ before ++ all_fragment_sizes ts
  pub many : length_of ts ≡ count

-- subtrees that await their places, each with the number that its root gets; the last is placed
-- first
pub data Pending : Type 0 where
  nothing : Pending
  behind : Pending → (number : ℕ) → Subtree → Pending

-- their numbers, their fragments, and the sizes of these
abbrev pub pending_numbers : Pending → List ℕ
pending_numbers nothing = []
pending_numbers (behind ps n t) = pending_numbers ps ++ n ∷ []

-- the fragments that are pending
abbrev pub pending_fragments : Pending → List Fragment
pending_fragments nothing = []
pending_fragments (behind ps n t) = pending_fragments ps ++ fragments_of t

-- the sizes of the subtrees that are pending
abbrev pub pending_sizes : Pending → List ℕ
pending_sizes nothing = []
pending_sizes (behind ps n t) = pending_sizes ps ++ fragment_sizes t
