-- The lists of the processes are theirs, and sound.
use Rattle.std.proofs.Common.{◌≡◌, ℕ, List, refl}
use Rattle.cqp_syntax.specs.declared.ty.Ty.{Ty}
use Rattle.cqp_syntax.specs.declared.node.Node.{Node}
use Rattle.cqp_syntax.specs.Trees.{Process}
use Rattle.cqp_syntax.specs.Listing.{Listing, IsListing}
use Rattle.cqp_step_checks.specs.Processes.{nothing, nothing_lists, sides, sides_lists, sums, sums_lists}
use Rattle.cqp_step_checks.specs.Processes.{received, received_lists, shared, shared_lists}

-- the lists of `0`
pub nothing_listed : IsListing nothing_lists nothing
unfolding nothing_lists
nothing_listed = record { nodes = refl; names = refl; types = refl; scoped = refl; placed = refl }

-- of sides of parallel compositions
pub sides_listed : IsListing sides_lists sides
unfolding sides_lists
sides_listed = record { nodes = refl; names = refl; types = refl; scoped = refl; placed = refl }

-- of gates and sums
pub sums_listed : IsListing sums_lists sums
unfolding sums_lists
sums_listed = record { nodes = refl; names = refl; types = refl; scoped = refl; placed = refl }

-- of an input and a choice
pub received_listed : IsListing received_lists received
unfolding received_lists
received_listed = record { nodes = refl; names = refl; types = refl; scoped = refl; placed = refl }

-- of parts that share a channel
pub shared_listed : IsListing shared_lists shared
unfolding shared_lists
shared_listed = record { nodes = refl; names = refl; types = refl; scoped = refl; placed = refl }

-- equal lists are listings of the same process
pub same_listing : (p : Process) (l : Listing) (nodes : List Node) (types : List Ty) (ty_of at : List ℕ)
    → nodes ≡ l.nodes → types ≡ l.types → ty_of ≡ l.ty_of → at ≡ l.at → IsListing l p
    → IsListing (record { nodes = nodes; types = types; ty_of = ty_of; at = at }) p
same_listing p l nodes types ty_of at a b c d is = rw (a, b, c, d) is
