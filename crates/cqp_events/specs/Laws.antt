-- Laws of events that go on with a run in one place.
use Rattle.std.specs.Prelude.{◌≡◌, ℕ, ◌<◌, List, [], ◌∷◌, false, Some}
use Rattle.cqp_syntax.specs.Listing.{Listing, IsProc}
use Rattle.cqp_syntax.specs.Trees.{Process}
use Rattle.cqp_trace.specs.declared.deed.Deed.{Deed}
use Rattle.cqp_trace.specs.declared.deed.Deed.TheVariants as deed
use Rattle.cqp_cells.specs.Examples.{by}
use Rattle.cqp_cells.specs.Moves.{Sending, moved, sends_on, receives_on}
use Rattle.cqp_book.specs.Run.{IsRun}
use Rattle.cqp_parts.specs.declared.part.Part.{Part}
use Rattle.cqp_parts.specs.Parts.{process_of_part, parts_after, more_than_one}
use Rattle.cqp_machine.specs.After.{groups_by, groups_joined, split_in}
use Rattle.cqp_machine.specs.declared.event.Event.{Event}
use Rattle.cqp_machine.specs.declared.event.Event.TheVariants as event
use Rattle.cqp_machine.specs.Enabled.{FitsGroups, IsEnabled, MayJoin, MaySplit}
use Rattle.cqp_machine.specs.Fronts.{counts_of}
use Rattle.cqp_machine.specs.Machine.{factored}
use Rattle.cqp_machine.specs.Shown.{front_of, cells_of}
use Rattle.cqp_meeting.specs.Meetings.{is_communication}
use Rattle.cqp_events.specs.Settled.{GoesOnBy, IsSettled, Makes, Regroups, meeting_events}
use Rattle.cqp_events.specs.Settled.{met_made, met_parts, own_event, own_parts}

-- an event that is enabled on all cells goes on with the run
abbrev pub EventLaw : Type 0
EventLaw =
    (l : Listing) (es : List Event) (e : Event) → IsRun factored l es
    → IsEnabled l (front_of l es) (cells_of l es) e → GoesOnBy l es e

-- the opening is settled
abbrev pub OpeningLaw : Type 0
OpeningLaw = (l : Listing) → IsProc l → IsSettled l []

-- by a deed of one part, whose process moves by it
abbrev pub OwnLaw : Type 0
OwnLaw =
    (l : Listing) (es : List Event) (i : ℕ) (d : Deed) (group level : ℕ) (part : Part)
    (p : Process) → IsSettled l es → is_communication d ≡ false
    → (cells_of l es).parts i ≡ Some part
    → moved (counts_of (front_of l es)) (process_of_part l part) d ≡ Some p
    → FitsGroups (front_of l es) (cells_of l es) d group level
    → Makes l es (own_event l part i d group level ∷ []) (by i d)
    (more_than_one (parts_after l part d)) (own_parts l es part i d)
    (groups_by (cells_of l es) d group)

-- by a communication of a part that sends and one that receives, on a channel that was made
abbrev pub MeetingLaw : Type 0
MeetingLaw =
    (l : Listing) (es : List Event) (i to chan : ℕ) (p q : Part) (s : Sending) (r : Process)
    → IsSettled l es → (cells_of l es).parts i ≡ Some p → (cells_of l es).parts to ≡ Some q
    → sends_on chan (process_of_part l p) ≡ Some s
    → receives_on chan s.values (process_of_part l q) ≡ Some r → chan < (front_of l es).chans
    → Makes l es (meeting_events l p q s.values i to chan (front_of l es).level)
    (by i (deed.Com to chan)) (met_made l p q s.values to chan)
    (met_parts l es p q s.values i to chan) (cells_of l es).groups

-- by a join of two groups
abbrev pub JoinLaw : Type 0
JoinLaw =
    (l : Listing) (es : List Event) (left right : ℕ) → IsSettled l es
    → MayJoin (cells_of l es) left right
    → Regroups l es (event.Join left right) (groups_joined (cells_of l es) left right)

-- by a split of a group
abbrev pub SplitLaw : Type 0
SplitLaw =
    (l : Listing) (es : List Event) (group rest : ℕ) (qs : List ℕ) → IsSettled l es
    → MaySplit (cells_of l es) group qs rest
    → Regroups l es (event.Split group qs rest)
    (split_in group qs rest ((cells_of l es).groups group) (cells_of l es).groups)
