-- Tables that are filled from the last node to the first. No public clause cites this module.
use Rattle.std.specs.Borrow.{Bor}
use Rattle.std.specs.List.{AllByRecursion}
use Rattle.cqp_syntax.specs.TypeTrees.{type_at, trees_at}
use Rattle.cqp_types.specs.Types.{carried}
use Rattle.std.specs.Prelude.{◌≡◌, ℕ, ◌<◌, ◌≤◌, List, length, slice_index, Option, Some, None}
use Rattle.cqp_syntax.specs.declared.node.Node.TheVariants as node
use Rattle.cqp_syntax.specs.Ends.{end_at}
use Rattle.cqp_syntax.specs.Trees.{Binder}
use Rattle.cqp_syntax.specs.Listing.{Listing, type_of_name}

-- the ends of the subtrees from node a on, which lie within the list
pub record EndsFrom (l : Listing) (ends : List ℕ) (a : ℕ) : Type 0 where
  pub count : length ends ≡ length l.nodes
  pub at : (m : ℕ) → a ≤ m → m < length l.nodes → slice_index ends m ≡ end_at l m
  pub within : (m : ℕ) → a ≤ m → m < length l.nodes → end_at l m ≤ length l.nodes

-- a name with its type
abbrev pub binder_in : Listing → ℕ → Binder
binder_in l x = record { name = x; ty = type_of_name l x }

-- what was found of the types that a name carries
abbrev pub Carries : Listing → ℕ → Option (Bor (List ℕ)) → Type 0
Carries l c None = carried (type_of_name l c) ≡ None
Carries l c (Some of) =
    (carried (type_of_name l c) ≡ Some (trees_at (type_at l.types) of.now))
    × AllByRecursion (λ t. t < length l.types) of.now
