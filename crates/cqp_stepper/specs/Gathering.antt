-- Groups that are split and joined for a deed.
use Rattle.std.specs.Prelude.{◌≡◌, ◌<◌, ◌≤◌, ℕ, List, Option, Some, None, true}
use Rattle.std.specs.Prelude.{length}
use Rattle.cqp_syntax.specs.Listing.{Listing, IsProc}
use Rattle.cqp_types.specs.Checked.{IsChecked}
use Rattle.cqp_book.specs.Run.{IsRun}
use Rattle.cqp_machine.specs.declared.event.Event.{Event}
use Rattle.cqp_machine.specs.Factors.{Held, joined}
use Rattle.cqp_machine.specs.Machine.{factored}
use Rattle.cqp_machine.specs.Shown.{front_of}
use Rattle.cqp_groups.specs.Groups.{groups_in, holds}
use Rattle.cqp_groups.specs.RunLaws.{AreAfter}
use Rattle.cqp_groups.specs.States.{IsAlone}
use Rattle.cqp_stepper.specs.declared.cells.Cells.{Cells}
use Rattle.cqp_stepper.specs.Steps.{IsGathered}

-- nothing but the groups is new, and no place of theirs
pub record HasOnlyNewGroups (s t : Cells) : Type 0 where
  pub slots : t.slots ≡ s.slots
  pub order : t.order ≡ s.order
  pub unseen : t.unseen ≡ s.unseen
  pub counts : t.counts ≡ s.counts
  pub places : length t.groups ≡ length s.groups

-- a group has the number
abbrev pub IsGroup : Cells → ℕ → Type 0
IsGroup s n = (g : Held) × (groups_in s.groups n ≡ Some g)

-- that of both is their product, and no qubit is due
pub record IsJoined (s t : Cells) (left right group : ℕ) : Type 0 where
  pub product : (g h : Held) → groups_in s.groups left ≡ Some g → groups_in s.groups right ≡ Some h
      → groups_in t.groups group ≡ Some (joined g h)
  pub none : t.due ≡ None

-- a run makes few qubits
abbrev pub FewLaw : Type 0
FewLaw =
    (l : Listing) (es : List Event) → IsProc l → IsChecked l → IsRun factored l es
    → (front_of l es).qubits ≤ 12

-- each qubit that was made is in one group
abbrev pub AloneLaw : Type 0
AloneLaw =
    (l : Listing) (es : List Event) (slots : List (Option Held)) (q : ℕ)
    → AreAfter l es slots → q < length slots → IsAlone slots q

-- the group has these qubits, and no qubit of any group is due
pub record HasGathered (s : Cells) (group : ℕ) (qs : List ℕ) : Type 0 where
  pub gathered : IsGathered s group qs
  pub none : s.due ≡ None

-- the group has what another had, and one qubit more
pub record HasOneMore (s t : Cells) (group more q : ℕ) : Type 0 where
  pub there : IsGroup t more
  pub kept : (p : ℕ) → holds p (groups_in s.groups group) ≡ true
      → holds p (groups_in t.groups more) ≡ true
  pub has : holds q (groups_in t.groups more) ≡ true
  pub none : t.due ≡ None
