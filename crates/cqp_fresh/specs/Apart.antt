-- The groups of a run stand apart.
use Rattle.std.specs.Prelude.{◌≡◌, ℕ, ◌<◌, List, Some, true}
use Rattle.cqp_book.specs.Keys.{has}
use Rattle.cqp_book.specs.Run.{IsRun}
use Rattle.cqp_syntax.specs.Listing.{Listing}
use Rattle.cqp_machine.specs.declared.event.Event.{Event}
use Rattle.cqp_machine.specs.Factors.{Held}
use Rattle.cqp_machine.specs.Machine.{factored}
use Rattle.cqp_machine.specs.Shown.{cells_of, front_of}

-- a group after a run is named by one of its qubits, each of which was made and is in no other
pub record StandsApart (l : Listing) (es : List Event) (name : ℕ) (group : Held) : Type 0 where
  pub named : has name group.qubits ≡ true
  pub made : (q : ℕ) → has q group.qubits ≡ true → q < (front_of l es).qubits
  pub only : (q other_name : ℕ) (other : Held) → has q group.qubits ≡ true
      → (cells_of l es).groups other_name ≡ Some other → has q other.qubits ≡ true
      → other_name ≡ name

-- so does each
abbrev pub ApartLaw : Type 0
ApartLaw =
    (l : Listing) (es : List Event) → IsRun factored l es → (name : ℕ) (group : Held)
    → (cells_of l es).groups name ≡ Some group → StandsApart l es name group
