-- The search for a qubit on both sides, node after node. No public clause cites this module.
use Rattle.std.specs.Prelude.{◌≡◌, ℕ, ◌+◌, ◌<◌, ◌≤◌, List, length, map, Bool, true, false, nat_le}
use Rattle.std.specs.Prelude.{◌&&◌, slice_index, Some}
use Rattle.std.specs.List.Sorted.{IsNonDecreasing}
use Rattle.cqp_syntax.specs.declared.node.Node.{Node}
use Rattle.cqp_syntax.specs.declared.node.Node.TheVariants as node
use Rattle.cqp_syntax.specs.Trees.{named}
use Rattle.cqp_syntax.specs.Subterms.{term_node}
use Rattle.cqp_syntax.specs.Free.{is_among}
use Rattle.cqp_syntax.specs.Listing.{Listing, IsListing, Unfolds, type_of_name, term_at, root}
use Rattle.cqp_syntax.specs.Numbered.{IsNumbered}
use Rattle.cqp_types.specs.declared.kind.Kind.TheVariants as kind
use Rattle.cqp_types.specs.Faults.{is_qubit}
use Rattle.cqp_syntax.specs.Ends.{end_at}
use Rattle.cqp_types.specs.Rows.{split_at}
use Rattle.cqp_syntax.specs.Uses.{uses_at}
use Rattle.cqp_types.specs.Uses.{IsUsedOnBoth}

-- a node that stands at the number
pub record IsNode (l : Listing) (n : ℕ) (x : Node) : Type 0 where
  pub within : n < length l.nodes
  pub tree : Unfolds l n x
  pub numbers : x ≡ term_node n (term_at l n)

-- each node below n has been read
abbrev pub AreRead : Listing → ℕ → Type 0
AreRead l n = (m : ℕ) → m < n → (x : Node) × IsNode l m x

-- the composition at a parts a number below `behind` from n
pub record Parts (l : Listing) (a behind n : ℕ) : Type 0 where
  pub left : ℕ
  pub right : ℕ
  pub is : IsNode l a (node.Par left right)
  pub before : a < behind
  pub parted : (behind ≤ right) × (right ≤ n)

-- a number on the stack
abbrev pub IsOn : List ℕ → ℕ → Type 0
IsOn stack a = (k : ℕ) × (k < length stack) × (slice_index stack k ≡ a)

-- on the stack are compositions below n, in order: none that ends before `low`, and each that ends
-- at `high` or behind it
pub record AreOpen (l : Listing) (n low high : ℕ) (stack : List ℕ) : Type 0 where
  pub below : (k : ℕ) → k < length stack → slice_index stack k < n
  pub ends : (k : ℕ) → k < length stack → low ≤ end_at l (slice_index stack k)
  pub rises : IsNonDecreasing stack
  pub all : (a left right : ℕ) → IsNode l a (node.Par left right) → a < n → high ≤ end_at l a
      → IsOn stack a

-- The nodes below n are searched, and n for these names: `last` has the number behind the last use
-- of each, and `least` is the least composition that fails by these uses, or the count of nodes.
pub record IsSearched (l : Listing) (n : ℕ) (ys last : List ℕ) (least : ℕ) : Type 0 where
  pub listed : IsListing l (root l)
  pub numbers : IsNumbered l
  pub count : length last ≡ length l.ty_of
  pub used : (x m : ℕ) → x < length last → slice_index last x ≡ m + 1
      → (m ≤ n) × (uses_at l m (named x) ≡ true)
  pub earlier : (x m : ℕ) → is_qubit (type_of_name l) (named x) ≡ true → m < n
      → uses_at l m (named x) ≡ true → m < slice_index last x
  pub own : (x : ℕ) → is_qubit (type_of_name l) (named x) ≡ true
      → is_among (named x) (map named ys) ≡ true → n < slice_index last x
  pub within : least ≤ length l.nodes
  pub fails : least < length l.nodes → split_at l least ≡ Some kind.SplitTwice
  pub found : (a left right x : ℕ) → IsNode l a (node.Par left right)
      → (both : IsUsedOnBoth l (a + 1) right (end_at l a) (named x))
      → both.right < slice_index last x → least ≤ a

-- the node is a composition whose right side begins at `behind` or later, and by n
abbrev pub parts_from : Node → ℕ → ℕ → Bool
parts_from (node.Par left right) behind n = nat_le behind right && nat_le right n
parts_from x behind n = false
