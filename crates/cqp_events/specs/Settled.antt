-- Runs of the machine in one place: nobody waits in a channel between two entries.
use Rattle.std.specs.Prelude.{◌≡◌, ℕ, ◌+◌, List, [], ◌∷◌, ◌++◌, false, nat_lt, if◌then◌else◌}
use Rattle.std.specs.Prelude.{Option, Some, None}
use Rattle.cqp_book.specs.Run.{IsRun}
use Rattle.cqp_syntax.specs.declared.val.Val.{Val}
use Rattle.cqp_syntax.specs.Listing.{Listing, IsProc}
use Rattle.cqp_cells.specs.Examples.{by}
use Rattle.cqp_trace.specs.declared.deed.Deed.{Deed}
use Rattle.cqp_trace.specs.declared.deed.Deed.TheVariants as deed
use Rattle.cqp_trace.specs.declared.entry.Entry.{Entry}
use Rattle.cqp_parts.specs.declared.part.Part.{Part}
use Rattle.cqp_parts.specs.Parts.{parts_after, parts_after_input, more_than_one, one_if_none}
use Rattle.cqp_machine.specs.declared.event.Event.{Event}
use Rattle.cqp_machine.specs.declared.event.Event.TheVariants as event
use Rattle.cqp_machine.specs.declared.front.Stop.TheVariants as stop
use Rattle.cqp_machine.specs.After.{cells_after, channel_of, placed}
use Rattle.cqp_machine.specs.Cells.{Channel}
use Rattle.cqp_machine.specs.Factors.{Held}
use Rattle.cqp_machine.specs.Fronts.{chans_by, front_after, qubits_by, turns_by}
use Rattle.cqp_machine.specs.Machine.{factored}
use Rattle.cqp_machine.specs.Shown.{shown, shown_by, front_of, cells_of}

-- a channel at which nobody waits stands at each number below n
abbrev pub idle_below : ℕ → ℕ → Option Channel
idle_below n k = if nat_lt k n then Some (channel_of false []) else None

-- after these events the run isn't stopped, and nobody waits in a channel
pub record IsSettled (l : Listing) (es : List Event) : Type 0 where
  pub process : IsProc l
  pub run : IsRun factored l es
  pub going : (front_of l es).stopped ≡ stop.No
  pub idle : (k : ℕ) → (cells_of l es).chans k ≡ idle_below (front_of l es).chans k

-- the event goes on with the run: it leaves its front and its cells, and shows its entry
pub record GoesOnBy (l : Listing) (es : List Event) (e : Event) : Type 0 where
  pub run : IsRun factored l (es ++ e ∷ [])
  pub front : front_of l (es ++ e ∷ []) ≡ front_after (front_of l es) e
  pub cells : cells_of l (es ++ e ∷ []) ≡ cells_after l (front_of l es) (cells_of l es) e
  pub shows : shown (es ++ e ∷ []) ≡ shown es ++ shown_by e

-- these events make the entry, and so many parts: they leave these parts and these groups, and
-- counts that the entry's deed raises
pub record MakesIn (l : Listing) (es all : List Event) (e : Entry) (made : ℕ)
    (behind : ℕ → Option Part) (regrouped : ℕ → Option Held) : Type 0 where
  pub settled : IsSettled l all
  pub shows : shown all ≡ shown es ++ e ∷ []
  pub parts : (n : ℕ) → (cells_of l all).parts n ≡ behind n
  pub groups : (cells_of l all).groups ≡ regrouped
  pub part_count : (front_of l all).parts ≡ (front_of l es).parts + made
  pub qubit_count : (front_of l all).qubits ≡ (front_of l es).qubits + qubits_by e.deed
  pub chan_count : (front_of l all).chans ≡ (front_of l es).chans + chans_by e.deed
  pub turn_count : (front_of l all).turns ≡ (front_of l es).turns + turns_by e.deed

-- so the run goes on with these events
abbrev pub Makes : Listing → List Event → List Event → Entry → ℕ → (ℕ → Option Part)
    → (ℕ → Option Held) → Type 0
Makes l es more e made behind regrouped = MakesIn l es (es ++ more) e made behind regrouped

-- the event shows nothing, and leaves all but the groups as they are
pub record Regroups (l : Listing) (es : List Event) (e : Event) (regrouped : ℕ → Option Held)
    : Type 0 where
  pub settled : IsSettled l (es ++ e ∷ [])
  pub shows : shown (es ++ e ∷ []) ≡ shown es
  pub parts : (cells_of l (es ++ e ∷ [])).parts ≡ (cells_of l es).parts
  pub groups : (cells_of l (es ++ e ∷ [])).groups ≡ regrouped
  pub front : front_of l (es ++ e ∷ []) ≡ front_of l es

-- the deed of one part as an event
abbrev pub own_event : Listing → Part → ℕ → Deed → ℕ → ℕ → Event
own_event l part i d group level =
    event.Step (by i d) group (more_than_one (parts_after l part d))
    (one_if_none (parts_after l part d)) 0 level

-- a communication as two: the receiver waits, and is met
abbrev pub meeting_events : Listing → Part → Part → List Val → ℕ → ℕ → ℕ → ℕ → List Event
meeting_events l sender receiver vs i to chan level =
    let sent = parts_after l sender (deed.Com to chan) in
    let received = parts_after_input l receiver vs in
    event.Park to chan
    ∷ event.Step (by i (deed.Com to chan)) 0 (more_than_one sent + more_than_one received)
    (one_if_none sent + one_if_none received) 1 level
    ∷ []

-- the parts behind a deed of one part
abbrev pub own_parts : Listing → List Event → Part → ℕ → Deed → ℕ → Option Part
own_parts l es part i d =
    placed i (front_of l es).parts (parts_after l part d) (cells_of l es).parts

-- how many parts a communication makes
abbrev pub met_made : Listing → Part → Part → List Val → ℕ → ℕ → ℕ
met_made l p q vs to chan =
    more_than_one (parts_after l p (deed.Com to chan)) + more_than_one (parts_after_input l q vs)

-- the parts behind it: the sender's are numbered first
abbrev pub met_parts : Listing → List Event → Part → Part → List Val → ℕ → ℕ → ℕ → ℕ → Option Part
met_parts l es p q vs i to chan =
    let sent = parts_after l p (deed.Com to chan) in
    placed to ((front_of l es).parts + more_than_one sent) (parts_after_input l q vs)
    (placed i (front_of l es).parts sent (cells_of l es).parts)
