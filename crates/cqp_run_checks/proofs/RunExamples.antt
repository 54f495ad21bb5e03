-- The processes that are run: these lists are theirs.
use Rattle.std.proofs.Common.{◌≡◌, ℕ, List, [], ◌∷◌, refl}
use Rattle.cqp_syntax.specs.declared.ty.Ty.{Ty}
use Rattle.cqp_syntax.specs.declared.ty.Ty.TheVariants as ty
use Rattle.cqp_syntax.specs.declared.node.Node.{Node}
use Rattle.cqp_syntax.specs.Trees.{Process, nil}
use Rattle.cqp_syntax.specs.Preorder.{process_nodes}
use Rattle.cqp_syntax.specs.Listing.{Listing, IsListing}
use Rattle.cqp_syntax.specs.Examples.{one_gate}
use Rattle.cqp_run_checks.specs.StraightLines.{three_gates}

-- the lists of a process whose names are all qubits
abbrev pub lists_of : Process → List ℕ → List ℕ → Listing
lists_of p ty_of at = record { nodes = process_nodes 0 p; types = ty.Qbit ∷ []; ty_of = ty_of; at = at }

-- the lists of `0`
abbrev pub nil_lists : Listing
nil_lists = record { nodes = process_nodes 0 nil; types = []; ty_of = []; at = 0 ∷ [] }

-- the lists of one gate
abbrev pub gate_lists : Listing
gate_lists = lists_of one_gate (0 ∷ []) (0 ∷ 8 ∷ 9 ∷ 14 ∷ 17 ∷ [])

-- the lists of three gates
abbrev pub three_lists : Listing
three_lists = lists_of three_gates (0 ∷ 0 ∷ []) (0 ∷ 8 ∷ 9 ∷ 14 ∷ 17 ∷ 25 ∷ 26 ∷ 31 ∷ 34 ∷ 35 ∷ 40 ∷ 43 ∷ [])

-- these lists are those of `0`
pub nil_listed : IsListing nil_lists nil
nil_listed = record { nodes = refl; names = refl; types = refl; scoped = refl; placed = refl }

-- these lists are those of one gate
pub gate_listed : IsListing gate_lists one_gate
gate_listed = record { nodes = refl; names = refl; types = refl; scoped = refl; placed = refl }

-- these lists are those of three gates
pub three_listed : IsListing three_lists three_gates
three_listed = record { nodes = refl; names = refl; types = refl; scoped = refl; placed = refl }

-- equal lists are listings of the same process
pub same_listing : (p : Process) (l : Listing) (nodes : List Node) (types : List Ty) (ty_of at : List ℕ)
    → nodes ≡ l.nodes → types ≡ l.types → ty_of ≡ l.ty_of → at ≡ l.at → IsListing l p
    → IsListing (record { nodes = nodes; types = types; ty_of = ty_of; at = at }) p
same_listing p l nodes types ty_of at a b c d is = rw (a, b, c, d) is
