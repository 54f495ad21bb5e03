-- What is kept after a communication.
use Rattle.std.proofs.Common.{◌≡◌, ◌≢◌, ℕ, ◌+◌, ◌<◌, ◌≤◌, List, [], ◌∷◌, ◌++◌, false, Bool, ◌||◌, Some, None, ◌==◌, length, sym, ap}
use Rattle.std.proofs.Common.{subst, arith, ◌∙◌, eq-eqb, ne_eqb}
use mathlib.Core.Logic.{dite}
use native.Mathlib.Decide.{ℕ_discrete}
use Rattle.cqp_cells.specs.Moves.{sends_on}
use Rattle.cqp_cells.proofs.Options.{same_some}
use Rattle.cqp_steps.proofs.StepHalf.{not_both}
use Rattle.std.proofs.lemmas.Bool.{le-leb, or_left, or_parts, or_right}
use Rattle.std.specs.Prelude.{Option, slice_set}
use Rattle.std.proofs.lemmas.List.{length-set}
use Rattle.cqp_syntax.specs.Listing.{Listing}
use Rattle.cqp_trace.specs.declared.deed.Deed.TheVariants as deed
use Rattle.cqp_trace.specs.declared.entry.Entry.{Entry}
use Rattle.cqp_cells.specs.Examples.{by}
use Rattle.cqp_parts.specs.declared.part.Part.{Part}
use Rattle.cqp_parts.specs.Parts.{more_than_one, parts_after, parts_after_input, process_of_part}
use Rattle.cqp_machine.specs.declared.event.Event.{Event}
use Rattle.cqp_machine.specs.After.{placed}
use Rattle.cqp_machine.specs.Shown.{cells_of, front_of, process_in}
use Rattle.cqp_local.proofs.PlacedLemmas.{placed_alike, placed_at, with_at_out}
use Rattle.cqp_steps.proofs.StepSums.{stays_there}
use Rattle.cqp_groups.specs.Groups.{groups_in}
use Rattle.cqp_events.specs.Laws.{MeetingLaw}
use Rattle.cqp_events.specs.Settled.{Makes, meeting_events, met_made, met_parts}
use Rattle.cqp_stepper.specs.declared.cells.Cells.{Cells}
use Rattle.cqp_stepper.specs.declared.cells.Counts.{Counts}
use Rattle.cqp_stepper.specs.Here.{ChanLaw, HereLaw, RoomLaw}
use Rattle.cqp_stepper.specs.Kept.{AreDueIn, AreNoted, IsAllSeen, IsKept, is_unseen}
use Rattle.cqp_stepper.specs.Slots.{part_in}
use Rattle.cqp_stepper.specs.Steps.{IsMet, MayMeet}
use Rattle.cqp_stepper.proofs.Turns.{counted_on}
use Rattle.cqp_stepper.proofs.Noted.{noted_after}
use Rattle.cqp_stepper.proofs.OwnKept.{either_order}
use Rattle.cqp_stepper.proofs.SlotLemmas.{placed_over, put_at}

module _ (l : Listing) (here_law : HereLaw) (chans : ChanLaw) (meeting : MeetingLaw) (entries : List Entry) (s : Cells) (k : IsKept l entries s)
    (seen : IsAllSeen s) (i j chan : ℕ) (may : MayMeet l s i j chan) where
  -- the parts in both places
  abbrev pub sent : List Part
  sent = parts_after l may.sender (deed.Com j chan)

  -- the receiver's
  abbrev pub received : List Part
  received = parts_after_input l may.receiver may.sending.values

  -- the two events
  abbrev more : List Event
  more = meeting_events l may.sender may.receiver may.sending.values i j chan (front_of l k.events).level

  -- the machine makes them
  pub meets : Makes l k.events more (by i (deed.Com j chan)) (met_made l may.sender may.receiver may.sending.values j chan)
      (met_parts l k.events may.sender may.receiver may.sending.values i j chan) (cells_of l k.events).groups
  meets =
      let told = here_law l k.events k.settled.process k.checked k.settled.run in
      let at = told.1.shows.stands.parts j ∙ ap (process_in l) (sym (k.parts j) ∙ may.receiver_there) in
      let below = chans told.0 j chan may.sending.values (process_of_part l may.receiver) may.process told.1.safe at may.receives in
      let count = told.1.shows.stands.chans in
      meeting l k.events i j chan may.sender may.receiver may.sending may.process k.settled (sym (k.parts i) ∙ may.sender_there)
      (sym (k.parts j) ∙ may.receiver_there) may.sends may.receives (omega arith)

  -- there is room for the parts
  pub met_room : RoomLaw → s.counts.parts + more_than_one sent + more_than_one received ≤ length s.slots
  met_room rooms =
      let within = rooms l _ k.settled.process meets.settled.run in
      let more = meets.part_count in
      let count = k.part_count in
      let room = k.room in
      omega arith

  module _ (t : Cells) (x : IsMet s t i j sent received) (groups : t.groups ≡ s.groups) (due : t.due ≡ s.due) where
    -- the numbers of the two
    abbrev taken : ℕ → Bool
    taken m = (m == i) || (m == j)

    -- parts with other numbers stay
    others_stay : (m : ℕ) → taken m ≡ false → m < s.counts.parts → part_in t.slots m ≡ part_in s.slots m
    others_stay m other below =
        let both = or_parts (m == i) (m == j) other in
        let first : m ≢ i = λ e. let same = eq-eqb m i e in let not = both.0 in cc in
        let second : m ≢ j = λ e. let same = eq-eqb m j e in let not = both.1 in cc in
        x.slots m
        ∙ (stays_there j (s.counts.parts + more_than_one sent) received (placed i s.counts.parts sent (part_in s.slots)) m second (omega arith)
        ∙ stays_there i s.counts.parts sent (part_in s.slots) m first below)

    -- what is noted is right
    notes : AreNoted l t
    notes =
        noted_after l entries s k t taken seen others_stay x.order (let more = ap (λ c. c.parts) x.counts in omega arith)
        (λ m is. ap (λ u. is_unseen u m) x.unseen
        ∙ or_left (i == m || j == m) _ (rw (either_order i m, either_order j m) is))
        (λ m least. ap (λ u. is_unseen u m) x.unseen ∙ or_right (i == m || j == m) _ (le-leb s.counts.parts m least))

    -- so the cells go on
    pub met_kept : IsKept l (entries ++ by i (deed.Com j chan) ∷ []) t
    met_kept = record {
      events = k.events ++ more;
      settled = meets.settled;
      checked = k.checked;
      shows = meets.shows ∙ ap (λ es. es ++ by i (deed.Com j chan) ∷ []) k.shows;
      parts = λ m.
          x.slots m
          ∙ (ap (λ f. placed j (f + more_than_one sent) received (placed i f sent (part_in s.slots)) m) k.part_count
          ∙ (placed_alike j _ received _ _ m (placed_alike i _ sent _ _ m (k.parts m)) ∙ sym (meets.parts m)));
      groups = record {
        sound = k.settled.process;
        run = meets.settled.run;
        groups = ap groups_in groups ∙ (k.groups.groups ∙ sym meets.groups);
        places = ap length groups ∙ (k.groups.places ∙ (let same = meets.qubit_count in omega arith));
      };
      due = subst (λ z. AreDueIn z t.due) (sym groups) (subst (λ z. AreDueIn s.groups z) (sym due) k.due);
      part_count = ap (λ c. c.parts) x.counts ∙ (let same = meets.part_count in let count = k.part_count in omega arith);
      chan_count = ap (λ c. c.chans) x.counts ∙ (let same = meets.chan_count in let count = k.chan_count in omega arith);
      measured =
          counted_on entries i (deed.Com j chan) s.counts.turns t.counts.turns k.measured (ap (λ c. c.turns) x.counts ∙ omega arith);
      turn_count = ap (λ c. c.turns) x.counts ∙ (let same = meets.turn_count in let count = k.turn_count in omega arith);
      room = x.room ∙ k.room;
      order_room = ap (λ o. o.1) x.order ∙ (k.order_room ∙ sym x.room);
      noted = notes;
    }

-- what is placed over parts that were taken out
placed_twice : (s : List (Option Part)) (i j n k : ℕ) (given taken_in : List Part) (m : ℕ) → i < length s
    → placed j k taken_in (placed i n given (part_in (slice_set s i None))) m ≡ placed j k taken_in (placed i n given (part_in s)) m
placed_twice s i j n k given taken_in m below = placed_alike j k taken_in _ _ m (placed_over s i n given m below)

-- a meeting where the sender was taken out is one of the cells before
pub met_over : (s u t : Cells) (i j : ℕ) (given taken_in : List Part) → i < length s.slots → u.slots ≡ slice_set s.slots i None → u.order ≡ s.order
    → u.counts ≡ s.counts → IsMet u t i j given taken_in → IsMet s t i j given taken_in
met_over s u t i j given taken_in below slots order counts x = record {
  slots = λ m.
      x.slots m
      ∙ (ap (λ c. placed j (c.parts + more_than_one given) taken_in (placed i c.parts given (part_in u.slots)) m) counts
      ∙ (ap (λ z. placed j (s.counts.parts + more_than_one given) taken_in (placed i s.counts.parts given (part_in z)) m) slots
      ∙ placed_twice s.slots i j s.counts.parts _ given taken_in m below));
  room = x.room ∙ (ap (λ z. length z) slots ∙ length-set s.slots i None);
  order = x.order ∙ order;
  unseen = x.unseen ∙ ap (λ c. record { first = Some i; second = Some j; from = c.parts }) counts;
  counts = x.counts ∙ ap {B = Counts} (λ (c : Counts). record c { parts = c.parts + more_than_one given + more_than_one taken_in }) counts;
}

-- the same where the receiver was taken out
second_taken : (s : List (Option Part)) (i j n k : ℕ) (given taken_in : List Part) (m : ℕ) → j < length s
    → placed j k taken_in (placed i n given (part_in (slice_set s j None))) m ≡ placed j k taken_in (placed i n given (part_in s)) m
second_taken s i j n k given taken_in m below = dite (ℕ_discrete m j)
    (λ (e : m ≡ j). placed_at j k taken_in _ _ m (eq-eqb m j e))
    (λ (e : m ≢ j). placed_alike j k taken_in _ _ m
    (placed_alike i n given _ _ m (put_at s j None below m ∙ with_at_out j m None (part_in s) (ne_eqb m j e))))

-- so a meeting is one of the cells before
pub met_over_second : (s u t : Cells) (i j : ℕ) (given taken_in : List Part) → j < length s.slots → u.slots ≡ slice_set s.slots j None
    → u.order ≡ s.order → u.counts ≡ s.counts → IsMet u t i j given taken_in → IsMet s t i j given taken_in
met_over_second s u t i j given taken_in below slots order counts x = record {
  slots = λ m.
      x.slots m
      ∙ (ap (λ c. placed j (c.parts + more_than_one given) taken_in (placed i c.parts given (part_in u.slots)) m) counts
      ∙ (ap (λ z. placed j (s.counts.parts + more_than_one given) taken_in (placed i s.counts.parts given (part_in z)) m) slots
      ∙ second_taken s.slots i j s.counts.parts _ given taken_in m below));
  room = x.room ∙ (ap (λ z. length z) slots ∙ length-set s.slots j None);
  order = x.order ∙ order;
  unseen = x.unseen ∙ ap (λ c. record { first = Some i; second = Some j; from = c.parts }) counts;
  counts = x.counts ∙ ap {B = Counts} (λ (c : Counts). record c { parts = c.parts + more_than_one given + more_than_one taken_in }) counts;
}

-- the two that meet are two
pub two_meet : (l : Listing) (s : Cells) (i j chan : ℕ) → MayMeet l s i j chan → i ≢ j
two_meet l s i j chan may e =
    let same : may.sender ≡ may.receiver =
    same_some {x = may.sender} {y = may.receiver} (sym may.sender_there ∙ (ap (part_in s.slots) e ∙ may.receiver_there)) in
    not_both chan may.sending.values (process_of_part l may.receiver) may.process may.sending
    (subst (λ z. sends_on chan (process_of_part l z) ≡ Some may.sending) same may.sends) may.receives
