-- What a deed of one part asks of the cells that make it.
use Rattle.std.proofs.Common.{◌≡◌, ℕ, ◌+◌, ◌<◌, ◌≤◌, ◌^◌, List, false, length, arith, sym, ◌∙◌, Some}
use Rattle.cqp_syntax.specs.Listing.{Listing}
use Rattle.cqp_trace.specs.declared.deed.Deed.{Deed}
use Rattle.cqp_trace.specs.declared.entry.Entry.{Entry}
use Rattle.cqp_parts.specs.declared.part.Part.{Part}
use Rattle.cqp_parts.specs.Parts.{more_than_one, parts_after}
use Rattle.cqp_standing.specs.Stands.{Stands}
use Rattle.cqp_machine.specs.Enabled.{FitsGroups}
use Rattle.cqp_machine.specs.Shown.{cells_of, front_of}
use Rattle.cqp_meeting.specs.Meetings.{is_communication}
use Rattle.cqp_short.proofs.FrontBounds.{small_after}
use Rattle.cqp_events.specs.Laws.{OwnLaw}
use Rattle.cqp_stepper.specs.declared.cells.Cells.{Cells}
use Rattle.cqp_stepper.specs.Here.{HereLaw, RoomLaw}
use Rattle.cqp_stepper.specs.Kept.{IsAllSeen, IsKept}
use Rattle.cqp_stepper.specs.Slots.{part_in}
use Rattle.cqp_stepper.specs.Steps.{CanMakeParts, MayMake}
use Rattle.cqp_stepper.proofs.Noted.{kept_below}
use Rattle.cqp_stepper.proofs.OwnKept.{makes}

module _ (l : Listing) (entries : List Entry) (s : Cells) (k : IsKept l entries s) where
  -- a part of the cells stands
  pub kept_stands : HereLaw → (n : ℕ) (part : Part) → part_in s.slots n ≡ Some part → Stands l part
  kept_stands here n part there =
      ((here l k.events k.settled.process k.checked k.settled.run).1.parts n part (sym (k.parts n) ∙ there)).stands

  -- it has a place
  pub kept_place : RoomLaw → (n : ℕ) (part : Part) → part_in s.slots n ≡ Some part → n < length s.slots
  kept_place rooms n part there =
      let below = kept_below l entries s k n part there in
      let within = rooms l k.events k.settled.process k.settled.run in
      let count = k.part_count in
      let room = k.room in
      omega arith

  -- places are few
  pub few_places : length l.nodes < 2 ^ 32 → length s.slots < 2 ^ 32
  few_places nodes = let room = k.room in omega arith

  -- so are channels
  pub few_chans : s.counts.chans + 1 < 2 ^ 32
  few_chans = let count = k.chan_count in let few = (small_after l k.events k.settled.process k.settled.run).chans in omega arith

  -- and measurements
  pub few_turns : s.counts.turns + 1 < 2 ^ 64
  few_turns = let count = k.turn_count in let few = (small_after l k.events k.settled.process k.settled.run).turns in omega arith

  -- there is room for the parts behind a deed
  pub has_room : OwnLaw → RoomLaw → IsAllSeen s → (n : ℕ) (d : Deed) (group level : ℕ) (may : MayMake l s n d) → is_communication d ≡ false
      → FitsGroups (front_of l k.events) (cells_of l k.events) d group level
      → s.counts.parts + more_than_one (parts_after l may.part d) ≤ length s.slots
  has_room own rooms seen n d group level may alone fits =
      let made = makes l own entries s k seen n d group level may alone fits in
      let within = rooms l _ k.settled.process made.settled.run in
      let more = made.part_count in
      let count = k.part_count in
      let room = k.room in
      omega arith

  -- a part may go on by a deed that fits the groups
  pub can_make : HereLaw → OwnLaw → RoomLaw → length l.nodes < 2 ^ 32 → IsAllSeen s → (n : ℕ) (d : Deed) (group level : ℕ)
      → MayMake l s n d → is_communication d ≡ false → FitsGroups (front_of l k.events) (cells_of l k.events) d group level
      → CanMakeParts l s n d
  can_make here own rooms nodes seen n d group level may alone fits = record {
    part = may.part;
    there = may.there;
    stands = kept_stands here n may.part may.there;
    place = kept_place rooms n may.part may.there;
    room = has_room own rooms seen n d group level may alone fits;
    places = few_places nodes;
    chans = few_chans;
    turns = few_turns;
  }
