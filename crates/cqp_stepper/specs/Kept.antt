-- What a run in one place keeps: the cells after a settled run of the machine.
use Rattle.std.specs.Prelude.{◌≡◌, ◌<◌, ◌==◌, ◌||◌, ℕ, List, [], Bool, false, Option}
use Rattle.std.specs.Prelude.{Some, None, length, nat_le}
use Rattle.std.specs.Option.{option_map}
use Rattle.cqp_syntax.specs.Listing.{Listing}
use Rattle.cqp_trace.specs.declared.entry.Entry.{Entry}
use Rattle.cqp_parts.specs.Parts.{process_of_part}
use Rattle.cqp_order.specs.declared.stand.Stand.{Stand}
use Rattle.cqp_order.specs.Stands.{stand_at}
use Rattle.cqp_meeting.specs.Tables.{stand_in}
use Rattle.cqp_paths.specs.Follows.{measure_total}
use Rattle.cqp_types.specs.Checked.{IsChecked}
use Rattle.cqp_machine.specs.declared.event.Event.{Event}
use Rattle.cqp_machine.specs.Factors.{Held}
use Rattle.cqp_machine.specs.Shown.{cells_of, front_of, shown}
use Rattle.cqp_groups.specs.Groups.{groups_in}
use Rattle.cqp_groups.specs.RunLaws.{AreAfter}
use Rattle.cqp_events.specs.Settled.{IsSettled}
use Rattle.cqp_stepper.specs.declared.cells.Cells.{Cells}
use Rattle.cqp_stepper.specs.declared.cells.Unseen.{Unseen}
use Rattle.cqp_stepper.specs.Slots.{part_in}

-- whether the number is that one
abbrev pub is_that : Option ℕ → ℕ → Bool
is_that None n = false
is_that (Some m) n = m == n

-- whether a part with the number may stand otherwise than was noted
abbrev pub is_unseen : Unseen → ℕ → Bool
is_unseen u n = is_that u.first n || is_that u.second n || nat_le u.from n

-- how the part with the number stands, if it is there
abbrev pub stand_of : Listing → Cells → ℕ → Option Stand
stand_of l s n = option_map (λ p. stand_in (process_of_part l p)) (part_in s.slots n)

-- so it was noted
abbrev pub IsNoted : Listing → Cells → ℕ → Type 0
IsNoted l s n = stand_at s.order.0 n ≡ stand_of l s n

-- what was noted is right but for the unseen, and is of parts that were made
pub record AreNoted (l : Listing) (s : Cells) : Type 0 where
  pub right : (n : ℕ) → is_unseen s.unseen n ≡ false → IsNoted l s n
  pub made : (n : ℕ) (stand : Stand) → stand_at s.order.0 n ≡ Some stand → n < s.counts.parts

-- only the group with that number has qubits that are due
abbrev pub AreDueIn : List (Option Held) → Option ℕ → Type 0
AreDueIn slots due =
    (n : ℕ) (g : Held) → groups_in slots n ≡ Some g → is_that due n ≡ false → g.due ≡ []

-- these are the cells after a settled run that shows the entries
pub record IsKept (l : Listing) (entries : List Entry) (s : Cells) : Type 0 where
  pub events : List Event
  pub settled : IsSettled l events
  pub checked : IsChecked l
  pub shows : shown events ≡ entries
  pub parts : (n : ℕ) → part_in s.slots n ≡ (cells_of l events).parts n
  pub groups : AreAfter l events s.groups
  pub due : AreDueIn s.groups s.due
  pub part_count : s.counts.parts ≡ (front_of l events).parts
  pub chan_count : s.counts.chans ≡ (front_of l events).chans
  pub turn_count : s.counts.turns ≡ (front_of l events).turns
  pub measured : s.counts.turns ≡ measure_total entries
  pub room : length s.slots ≡ length l.nodes
  pub order_room : s.order.1 ≡ length s.slots
  pub noted : AreNoted l s

-- so they are of some entries
abbrev pub IsRunOf : Listing → Cells → Type 0
IsRunOf l s = (entries : List Entry) × IsKept l entries s

-- the cells are still those of the same entries
abbrev pub Keeps : Listing → Cells → Cells → Type 0
Keeps l s t = (entries : List Entry) → IsKept l entries s → IsKept l entries t

-- no part that was made is among the unseen
abbrev pub IsAllSeen : Cells → Type 0
IsAllSeen s = (n : ℕ) → n < s.counts.parts → is_unseen s.unseen n ≡ false

-- nothing but what was noted is new
pub record HasOnlyNewStand (s t : Cells) : Type 0 where
  pub slots : t.slots ≡ s.slots
  pub unseen : t.unseen ≡ s.unseen
  pub counts : t.counts ≡ s.counts
