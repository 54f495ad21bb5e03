-- What an output sends, by names. No public clause cites this module.
use Rattle.std.specs.Prelude.{◌≡◌, ℕ, ◌+◌, ◌<◌, ◌≤◌, List, [], ◌∷◌, length, map, Bool, nat_lt}
use Rattle.std.specs.Prelude.{slice_index, Option, Some, None}
use Rattle.std.specs.List.{list_any}
use Rattle.cqp_syntax.specs.Trees.{Slot, named}
use Rattle.cqp_syntax.specs.Preorder.{name_of}
use Rattle.cqp_syntax.specs.Listing.{Listing, IsListing, type_of_name, expr_at, root}
use Rattle.cqp_syntax.specs.Numbered.{IsNumbered}
use Rattle.cqp_syntax.specs.Ends.{end_at}
use Rattle.cqp_types.specs.Uses.{UsesFrom}
use Rattle.cqp_types.specs.declared.kind.Kind.{Kind}
use Rattle.cqp_types.specs.declared.kind.Kind.TheVariants as kind
use Rattle.cqp_types.specs.Contexts.{is_twice}
use Rattle.cqp_types.specs.Derivations.{sent}
use Rattle.cqp_types.specs.Faults.{is_qubit, first_kind}

-- the qubits that arguments with these numbers send
abbrev pub sent_at : Listing → List ℕ → List Slot
sent_at l args = sent (is_qubit (type_of_name l)) (map (expr_at l) args)

-- what was found of one argument
abbrev pub SendsName : Listing → ℕ → Option ℕ → Type 0
SendsName l arg None = (args : List ℕ) → sent_at l (arg ∷ args) ≡ sent_at l args
SendsName l arg (Some x) =
    (x < length l.ty_of) × ((args : List ℕ) → sent_at l (arg ∷ args) ≡ named x ∷ sent_at l args)

-- one of the names has its second use before the end
abbrev pub is_used_again : List ℕ → ℕ → List Slot → Bool
is_used_again second end ss = list_any (λ s. nat_lt (slice_index second (name_of s)) end) ss

-- what fails where these are sent
abbrev pub sent_kind : List ℕ → ℕ → List Slot → Option Kind
sent_kind second end ss =
    first_kind
    ((is_twice ss, kind.OperandTwice) ∷ (is_used_again second end ss, kind.SentAndUsed) ∷ [])

-- what is known at node n: where its subtree ends, and the uses behind it
pub record HasTables (l : Listing) (n end : ℕ) (first second : List ℕ) : Type 0 where
  pub listed : IsListing l (root l)
  pub numbers : IsNumbered l
  pub within : n < length l.nodes
  pub ends : end ≡ end_at l n
  pub fits : end_at l n ≤ length l.nodes
  pub uses : UsesFrom l (n + 1) first second
