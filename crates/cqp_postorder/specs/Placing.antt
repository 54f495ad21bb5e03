-- The lists of a tree while its fragments are placed, from the last to the first.
-- No public clause cites this module.
use Rattle.std.specs.Prelude.{◌≡◌, ℕ, ◌+◌, ◌^◌, ◌<◌, ◌≤◌, List, [], ◌∷◌, ◌++◌, length, slice_set}
use Rattle.cqp_program.specs.declared.tree.TreeNode.{TreeNode}
use Rattle.cqp_program.specs.declared.fragment.Fragment.{Fragment}
use Rattle.cqp_postorder.specs.declared.placing.Placing.{Placing}
use Rattle.cqp_postorder.specs.Subtrees.{part_count, node_with, Subtree, Subtrees, length_of}
use Rattle.cqp_postorder.specs.Subtrees.{size_of, sizes_of, numbers_of, nodes_of, all_nodes_of}
use Rattle.cqp_postorder.specs.Subtrees.{offsets_of, all_offsets_of, all_fragments_of}
use Rattle.cqp_postorder.specs.Subtrees.{all_fragment_sizes, IsCounted, AreCounted}
use Rattle.cqp_postorder.specs.Subtrees.{Pending, nothing, behind, pending_fragments}
use Rattle.cqp_postorder.specs.Subtrees.{pending_numbers, pending_sizes}

-- the list with these items from number n on
abbrev pub written : {X : Type 0} → ℕ → List X → List X → List X
written n [] out = out
written n (x ∷ xs) out = slice_set (written (n + 1) xs out) n x

-- the list with what f gives of each pending subtree from its number on
abbrev pub filled : {X : Type 0} → (ℕ → Subtree → List X) → Pending → List X → List X
filled f nothing out = out
filled f (behind ps n t) out = filled f ps (written n (f n t) out)

-- the offsets from any number on
abbrev pub offsets_from : ℕ → Subtree → List ℕ
offsets_from n t = offsets_of t

-- the pending subtrees end within the limit, and are counted
abbrev pub ArePlaced : ℕ → Pending → Type 0
ArePlaced limit nothing = Unit {0}
ArePlaced limit (behind ps n t) = (n + size_of t ≤ limit) × IsCounted t × ArePlaced limit ps

-- with the nodes and offsets of the pending subtrees, whose fragments and sizes are left, the lists
-- are those of the tree
pub record PlacesRest (t : Subtree) (left : List Fragment) (sizes numbers : List ℕ)
    (nodes : List TreeNode) (offsets : List ℕ) : Type 0 where
  pub rest : Pending
  pub fragments : left ≡ pending_fragments rest
  pub sized : sizes ≡ pending_sizes rest
  pub numbered : numbers ≡ pending_numbers rest
  pub nodes_full : filled nodes_of rest nodes ≡ nodes_of 0 t
  pub offsets_full : filled offsets_from rest offsets ≡ offsets_of t
  pub placed : ArePlaced (length nodes) rest
  pub same : length offsets ≡ length nodes
  pub few : length nodes < 2 ^ 31

-- the same, where the node of x at n is to be placed too: its parts have the numbers found, and
-- their fragments and sizes are the last that are left
pub record PlacesNode (t : Subtree) (left : List Fragment) (x : Fragment) (n : ℕ)
    (found sizes numbers : List ℕ) (nodes : List TreeNode) (offsets : List ℕ) : Type 0 where
  pub rest : Pending
  pub parts : Subtrees
  pub numbers_found : found ≡ numbers_of (n + 1) parts
  pub fragments : left ≡ pending_fragments rest ++ all_fragments_of parts
  pub sized : sizes ≡ pending_sizes rest ++ all_fragment_sizes parts
  pub numbered : numbers ≡ pending_numbers rest
  pub many : length_of parts ≡ part_count x.kind
  pub counted : AreCounted parts
  pub within : n + (1 + sizes_of parts) ≤ length nodes
  pub nodes_full : filled nodes_of rest
      (written n (node_with x.kind (numbers_of (n + 1) parts) ∷ all_nodes_of (n + 1) parts) nodes)
      ≡ nodes_of 0 t
  pub offsets_full : filled offsets_from rest (written n (x.at ∷ all_offsets_of parts) offsets)
      ≡ offsets_of t
  pub placed : ArePlaced (length nodes) rest
  pub same : length offsets ≡ length nodes
  pub few : length nodes < 2 ^ 31

-- these fragments of the tree are left
abbrev pub IsPlacing : Subtree → List Fragment → Placing → Type 0
IsPlacing t left p =
    PlacesRest t left p.sizes.items p.pending.items p.nodes.items p.at.items

-- the same, where the numbers of the node's parts stand behind those of the other subtrees
pub record PlacesParts (t : Subtree) (left : List Fragment) (x : Fragment) (n : ℕ)
    (sizes all : List ℕ) (nodes : List TreeNode) (offsets : List ℕ) : Type 0 where
  pub found : List ℕ
  pub numbers : List ℕ
  pub are : all ≡ numbers ++ found
  pub node : PlacesNode t left x n found sizes numbers nodes offsets

-- these fragments of the tree are left, and x was taken, whose node has the number n
abbrev pub IsAtNode : Subtree → List Fragment → Fragment → ℕ → Placing → Type 0
IsAtNode t left x n p =
    PlacesParts t left x n p.sizes.items p.pending.items p.nodes.items p.at.items
