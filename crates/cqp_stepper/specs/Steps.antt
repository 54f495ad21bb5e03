-- What a deed of one part makes of what a run keeps.
use Rattle.std.specs.Prelude.{◌≡◌, ◌+◌, ◌^◌, ◌<◌, ◌≤◌, ℕ, List, [], ◌∷◌, ◌++◌, Bool}
use Rattle.std.specs.Prelude.{Some, None, true, false, length}
use Rattle.std.specs.List.{list_all}
use Rattle.cqp_book.specs.Keys.{has}
use Rattle.cqp_syntax.specs.declared.op.Op.{Op}
use Rattle.cqp_vector.specs.Group.{factors_left_out}
use Rattle.cqp_vector.specs.Measurement.{is_outcome}
use Rattle.cqp_machine.specs.Factors.{Held, places_in, state_of}
use Rattle.cqp_machine.specs.Sums.{levels}
use Rattle.cqp_standing.specs.Stands.{Stands}
use Rattle.cqp_syntax.specs.declared.val.Val.{Val}
use Rattle.cqp_syntax.specs.Listing.{Listing}
use Rattle.cqp_syntax.specs.Trees.{Process}
use Rattle.cqp_trace.specs.declared.deed.Deed.{Deed}
use Rattle.cqp_trace.specs.declared.deed.Deed.TheVariants as deed
use Rattle.cqp_trace.specs.declared.entry.Entry.{Entry}
use Rattle.cqp_cells.specs.Moves.{Counts as Made, Sending, moved, receives_on, sends_on}
use Rattle.cqp_parts.specs.declared.part.Part.{Part}
use Rattle.cqp_parts.specs.Parts.{more_than_one, parts_after, process_of_part}
use Rattle.cqp_onward.specs.Leads.{Lead, LeadsOn}
use Rattle.cqp_order.specs.declared.stand.Stand.TheVariants as stand
use Rattle.cqp_order.specs.Stands.{stand_at}
use Rattle.cqp_machine.specs.After.{groups_by, placed}
use Rattle.cqp_machine.specs.Fronts.{chans_by, qubits_by, turns_by}
use Rattle.cqp_groups.specs.Groups.{as_cells, groups_in}
use Rattle.cqp_stepper.specs.declared.cells.Cells.{Cells}
use Rattle.cqp_stepper.specs.Kept.{AreDueIn, IsKept}
use Rattle.cqp_stepper.specs.Slots.{part_in}

-- so many qubits and channels were made
abbrev pub made_in : Cells → Made
made_in s = record { qubits = length s.groups; chans = s.counts.chans }

-- the part is there, and its process moves by the deed
pub record MayMake (l : Listing) (s : Cells) (n : ℕ) (d : Deed) : Type 0 where
  pub part : Part
  pub there : part_in s.slots n ≡ Some part
  pub process : Process
  pub moves : moved (made_in s) (process_of_part l part) d ≡ Some process

-- the parts in the place of one are there, and the number of all of them grew
pub record IsPlaced (s t : Cells) (n : ℕ) (parts : List Part) : Type 0 where
  pub slots : (m : ℕ) → part_in t.slots m ≡ placed n s.counts.parts parts (part_in s.slots) m
  pub room : length t.slots ≡ length s.slots
  pub order : t.order ≡ s.order
  pub count : t.counts.parts ≡ s.counts.parts + more_than_one parts

-- the deed is made by parts in the place of one: counts grew as it says, and how parts stand that
-- go on or are new is unseen
pub record IsMade (s t : Cells) (n : ℕ) (d : Deed) (parts : List Part) : Type 0 where
  pub placed : IsPlaced s t n parts
  pub unseen : t.unseen ≡ record { first = Some n; second = None; from = s.counts.parts }
  pub chans : t.counts.chans ≡ s.counts.chans + chans_by d
  pub turns : t.counts.turns ≡ s.counts.turns + turns_by d

-- the counts grew by part n's deed, and how the part stands, and parts from here on, is unseen
abbrev pub counted : ℕ → Deed → Cells → Cells
counted n d s = record s {
  unseen = record { first = Some n; second = None; from = s.counts.parts };
  counts = record s.counts {
    chans = s.counts.chans + chans_by d;
    turns = s.counts.turns + turns_by d;
  };
}

-- a part that stands there may go on by the deed, in places and counts that have room
pub record CanMakeParts (l : Listing) (s : Cells) (n : ℕ) (d : Deed) : Type 0 where
  pub part : Part
  pub there : part_in s.slots n ≡ Some part
  pub stands : Stands l part
  pub place : n < length s.slots
  pub room : s.counts.parts + more_than_one (parts_after l part d) ≤ length s.slots
  pub places : length s.slots < 2 ^ 32
  pub chans : s.counts.chans + 1 < 2 ^ 32
  pub turns : s.counts.turns + 1 < 2 ^ 64

-- it went on by the deed
abbrev pub HasMadeParts : Listing → Cells → Cells → ℕ → Deed → Type 0
HasMadeParts l s t n d =
    (part : Part) → part_in s.slots n ≡ Some part → IsMade s t n d (parts_after l part d)

-- the group is there, has these qubits, and none of its own is due
pub record IsGathered (s : Cells) (group : ℕ) (qs : List ℕ) : Type 0 where
  pub before : Held
  pub there : groups_in s.groups group ≡ Some before
  pub has : list_all (λ q. has q before.qubits) qs ≡ true
  pub none_due : before.due ≡ []

-- the group's projection on the outcome is 0
abbrev pub IsUnlikely : Cells → ℕ → List ℕ → ℕ → Type 0
IsUnlikely s group qs m =
    (g : Held) → groups_in s.groups group ≡ Some g
    → is_outcome (places_in g.qubits qs) (state_of g) m ≡ false

-- an H has room below the limit of levels
abbrev pub HasRoomFor : Cells → Op → Type 0
HasRoomFor s o =
    factors_left_out o ≡ 1 → levels (length s.groups) (as_cells s.groups) ≤ 178

-- the groups are those that the deed makes of a group
pub record AreRegrouped (s t : Cells) (d : Deed) (group : ℕ) : Type 0 where
  pub groups : groups_in t.groups ≡ groups_by (as_cells s.groups) d group
  pub places : length t.groups ≡ length s.groups + qubits_by d
  pub due : AreDueIn t.groups t.due

-- no group is new
pub record HasGroupsOf (s t : Cells) : Type 0 where
  pub groups : t.groups ≡ s.groups
  pub due : t.due ≡ s.due

-- a deed of no group, and of no other part
abbrev pub is_plain : Deed → Bool
is_plain (deed.Qbit q) = false
is_plain (deed.New k) = true
is_plain deed.Act = true
is_plain (deed.Add v) = true
is_plain (deed.Pick o) = true
is_plain (deed.Gate o qs) = false
is_plain (deed.Measure qs m) = false
is_plain (deed.Com to k) = false
is_plain (deed.If answer) = true

-- the cells go on by the entry
abbrev pub GoesOnTo : Listing → Cells → Cells → Entry → Type 0
GoesOnTo l s t e =
    (entries : List Entry) → IsKept l entries s → IsKept l (entries ++ e ∷ []) t

-- the parts in the places of a sender and a receiver are there, the sender's numbered first
pub record IsMet (s t : Cells) (i j : ℕ) (sent received : List Part) : Type 0 where
  pub slots : (m : ℕ) → part_in t.slots m
      ≡ placed j (s.counts.parts + more_than_one sent) received
      (placed i s.counts.parts sent (part_in s.slots)) m
  pub room : length t.slots ≡ length s.slots
  pub order : t.order ≡ s.order
  pub unseen : t.unseen ≡ record { first = Some i; second = Some j; from = s.counts.parts }
  pub counts : t.counts ≡ record s.counts {
    parts = s.counts.parts + more_than_one sent + more_than_one received;
  }

-- the two meet on the channel: the one sends these values, and the other receives as many
pub record MayMeet (l : Listing) (s : Cells) (i j chan : ℕ) : Type 0 where
  pub sender : Part
  pub sender_there : part_in s.slots i ≡ Some sender
  pub receiver : Part
  pub receiver_there : part_in s.slots j ≡ Some receiver
  pub sending : Sending
  pub sends : sends_on chan (process_of_part l sender) ≡ Some sending
  pub process : Process
  pub receives : receives_on chan sending.values (process_of_part l receiver) ≡ Some process

-- what the part with the number sends on the channel are these values
abbrev pub Sends : Listing → Cells → ℕ → ℕ → List Val → Type 0
Sends l s i chan vs =
    (part : Part) (sending : Sending) → part_in s.slots i ≡ Some part
    → sends_on chan (process_of_part l part) ≡ Some sending → vs ≡ sending.values

-- the sender goes on so, and there is room for its parts and those of the receiver
pub record CanFinish (l : Listing) (s : Cells) (i j : ℕ) (ahead : Lead) (received : List Part)
    : Type 0 where
  pub sender : Part
  pub there : part_in s.slots i ≡ Some sender
  pub stands : Stands l sender
  pub leads : LeadsOn l sender ahead
  pub first : i < length s.slots
  pub second : j < length s.slots
  pub room : s.counts.parts + more_than_one (parts_after l sender (deed.Com 0 0))
      + more_than_one received ≤ length s.slots
  pub few : length s.slots < 2 ^ 32

-- both went on
abbrev pub HasMet : Listing → Cells → Cells → ℕ → ℕ → List Part → Type 0
HasMet l s t i j received =
    (part : Part) → part_in s.slots i ≡ Some part
    → IsMet s t i j (parts_after l part (deed.Com 0 0)) received

-- the one part is noted as ready to send on the channel, and the other as ready to receive there
abbrev pub StandsMeet : Cells → ℕ → ℕ → ℕ → Type 0
StandsMeet s i j chan =
    (stand_at s.order.0 i ≡ Some (stand.Sends chan))
    × (stand_at s.order.0 j ≡ Some (stand.Receives chan))
