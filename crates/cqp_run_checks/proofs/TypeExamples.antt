-- The processes that are checked: these lists are theirs.
use Rattle.std.proofs.Common.{[], ◌∷◌, refl}
use Rattle.cqp_syntax.specs.declared.ty.Ty.TheVariants as ty
use Rattle.cqp_syntax.specs.Preorder.{process_nodes}
use Rattle.cqp_syntax.specs.Listing.{Listing, IsListing}
use Rattle.cqp_types.specs.Examples.{on_both_sides, sent_and_used}
use Rattle.cqp_run_checks.specs.QubitBinders.{thirteen_qubits}
use Rattle.cqp_run_checks.proofs.RunExamples.{lists_of}

-- the lists of a qubit on both sides of a parallel composition
abbrev pub both_sides_lists : Listing
both_sides_lists = lists_of on_both_sides (0 ∷ []) (0 ∷ 19 ∷ 9 ∷ 10 ∷ 15 ∷ 18 ∷ 20 ∷ 21 ∷ 26 ∷ 29 ∷ [])

-- the lists of a qubit that is sent and used
abbrev pub sent_and_used_lists : Listing
sent_and_used_lists = record {
  nodes = process_nodes 0 sent_and_used;
  types = ty.Qbit ∷ ty.Chan (0 ∷ []) ∷ [];
  ty_of = 0 ∷ 1 ∷ 0 ∷ [];
  at = 0 ∷ 8 ∷ 43 ∷ 24 ∷ 27 ∷ 30 ∷ 31 ∷ 42 ∷ 44 ∷ 55 ∷ [];
}

-- the lists of thirteen binders of qubits
abbrev pub thirteen_lists : Listing
thirteen_lists =
    lists_of thirteen_qubits (0 ∷ 0 ∷ 0 ∷ 0 ∷ 0 ∷ 0 ∷ 0 ∷ 0 ∷ 0 ∷ 0 ∷ 0 ∷ 0 ∷ 0 ∷ [])
    (0 ∷ 8 ∷ 16 ∷ 24 ∷ 32 ∷ 40 ∷ 48 ∷ 56 ∷ 64 ∷ 72 ∷ 80 ∷ 88 ∷ 96 ∷ 104 ∷ [])

-- the first lists are those of their process
pub both_sides_listed : IsListing both_sides_lists on_both_sides
both_sides_listed = record { nodes = refl; names = refl; types = refl; scoped = refl; placed = refl }

-- so are the second
pub sent_and_used_listed : IsListing sent_and_used_lists sent_and_used
sent_and_used_listed = record { nodes = refl; names = refl; types = refl; scoped = refl; placed = refl }

-- and the third
pub thirteen_listed : IsListing thirteen_lists thirteen_qubits
thirteen_listed = record { nodes = refl; names = refl; types = refl; scoped = refl; placed = refl }
