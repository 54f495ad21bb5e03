-- What each program's process is, and when two listings are of one process.
use Rattle.std.specs.Prelude.{◌≡◌, ℕ, List, [], map, length, true}
use Rattle.std.specs.List.{range_with_len}
use Rattle.cqp_syntax.specs.TypeTrees.{type_at}
use Rattle.cqp_syntax.specs.Trees.{Process}
use Rattle.cqp_syntax.specs.Preorder.{process_size}
use Rattle.cqp_syntax.specs.Binders.{binders_of}
use Rattle.cqp_syntax.specs.Scope.{is_scoped}
use Rattle.cqp_syntax.specs.Listing.{Listing}

-- binders are numbered in preorder, each name stands under its binder, each node has an offset
pub record IsClosed (p : Process) (at : List ℕ) : Type 0 where
  pub numbered : map (λ b. b.name) (binders_of p) ≡ range_with_len 0 (length (binders_of p))
  pub scoped : is_scoped [] p ≡ true
  pub placed : length at ≡ process_size p

-- the same nodes and offsets, and names of the same types
pub record IsSame (k l : Listing) : Type 0 where
  pub nodes : k.nodes ≡ l.nodes
  pub types : map (type_at k.types) k.ty_of ≡ map (type_at l.types) l.ty_of
  pub offsets : k.at ≡ l.at
