-- What is kept after a deed of one part.
use Rattle.std.proofs.Common.{◌≡◌, ◌≢◌, ℕ, ◌+◌, ◌<◌, List, [], ◌∷◌, ◌++◌, true, false, ◌||◌, Some, None, ◌==◌, length, refl, sym, ap, subst}
use Rattle.std.proofs.Common.{arith, ◌∙◌}
use Rattle.std.proofs.Common.{eq-eqb, ne_eqb}
use Rattle.std.specs.Prelude.{slice_set}
use Rattle.std.proofs.lemmas.List.{length-set}
use Rattle.std.proofs.lemmas.Bool.{le-leb, or_left, or_right}
use mathlib.Core.Logic.{dite}
use native.Mathlib.Decide.{ℕ_discrete}
use Rattle.cqp_syntax.specs.Listing.{Listing}
use Rattle.cqp_trace.specs.declared.deed.Deed.{Deed}
use Rattle.cqp_trace.specs.declared.deed.Deed.TheVariants as deed
use Rattle.cqp_trace.specs.declared.entry.Entry.{Entry}
use Rattle.cqp_cells.specs.Examples.{by}
use Rattle.cqp_cells.specs.Moves.{moved}
use Rattle.cqp_parts.specs.declared.part.Part.{Part}
use Rattle.cqp_parts.specs.Parts.{more_than_one, parts_after, process_of_part}
use Rattle.cqp_machine.specs.declared.event.Event.{Event}
use Rattle.cqp_machine.specs.After.{groups_by, placed}
use Rattle.cqp_machine.specs.Cells.{Cells as MachineCells}
use Rattle.cqp_machine.specs.Enabled.{FitsGroups}
use Rattle.cqp_machine.specs.Fronts.{chans_by, qubits_by, turns_by}
use Rattle.cqp_machine.specs.Shown.{cells_of, front_of}
use Rattle.cqp_local.proofs.PlacedLemmas.{placed_alike}
use Rattle.cqp_steps.proofs.StepSums.{stays_there}
use Rattle.cqp_groups.specs.Groups.{as_cells, groups_in}
use Rattle.cqp_meeting.specs.Meetings.{is_communication}
use Rattle.cqp_events.specs.Laws.{OwnLaw}
use Rattle.cqp_events.specs.Settled.{Makes, own_event, own_parts}
use Rattle.cqp_stepper.specs.declared.cells.Cells.{Cells}
use Rattle.cqp_stepper.specs.Kept.{AreDueIn, AreNoted, IsAllSeen, IsKept, is_unseen}
use Rattle.cqp_stepper.specs.Slots.{part_in}
use Rattle.cqp_stepper.specs.Steps.{AreRegrouped, IsMade, MayMake, is_plain}
use Rattle.cqp_stepper.proofs.Noted.{noted_after, same_made}
use Rattle.cqp_stepper.proofs.SlotLemmas.{placed_over}
use Rattle.cqp_stepper.proofs.Turns.{counted_on}

-- a test of two numbers, in either order
pub either_order : (a b : ℕ) → (a == b) ≡ (b == a)
either_order a b = dite (ℕ_discrete a b)
    (λ (e : a ≡ b). eq-eqb a b e ∙ sym (eq-eqb b a (sym e)))
    (λ (e : a ≢ b). ne_eqb a b e ∙ sym (ne_eqb b a (λ z. e (sym z))))

-- what a deed makes of the groups depends on them alone
pub groups_alike : (c e : MachineCells) (d : Deed) (group : ℕ) → c.groups ≡ e.groups → groups_by c d group ≡ groups_by e d group
groups_alike c e (deed.Qbit q) group same = rw same refl
groups_alike c e (deed.New k) group same = same
groups_alike c e deed.Act group same = same
groups_alike c e (deed.Add v) group same = same
groups_alike c e (deed.Pick o) group same = same
groups_alike c e (deed.Gate o qs) group same = rw same refl
groups_alike c e (deed.Measure qs m) group same = rw same refl
groups_alike c e (deed.Com to k) group same = same
groups_alike c e (deed.If answer) group same = same

module _ (l : Listing) (own : OwnLaw) (entries : List Entry) (s : Cells) (k : IsKept l entries s) (seen : IsAllSeen s) where
  module _ (n : ℕ) (d : Deed) (group level : ℕ) (may : MayMake l s n d) (alone : is_communication d ≡ false)
      (fits : FitsGroups (front_of l k.events) (cells_of l k.events) d group level) where
    -- the event that makes the deed
    abbrev e : Event
    e = own_event l may.part n d group level

    -- the events with it
    abbrev more : List Event
    more = k.events ++ e ∷ []

    -- the parts in its place
    abbrev parts : List Part
    parts = parts_after l may.part d

    -- the machine makes it
    pub makes : Makes l k.events (e ∷ []) (by n d) (more_than_one parts) (own_parts l k.events may.part n d) (groups_by (cells_of l k.events) d group)
    makes =
        own l k.events n d group level may.part may.process k.settled alone (sym (k.parts n) ∙ may.there)
        (ap (λ c. moved c (process_of_part l may.part) d) (sym (same_made l entries s k)) ∙ may.moves) fits

    module _ (t : Cells) (x : IsMade s t n d parts) where
      -- parts with other numbers stay
      others_stay : (m : ℕ) → (m == n) ≡ false → m < s.counts.parts → part_in t.slots m ≡ part_in s.slots m
      others_stay m other below =
          x.placed.slots m ∙ stays_there n s.counts.parts parts (part_in s.slots) m (λ e. let same = eq-eqb m n e in cc) below

      -- what is noted is right
      notes : AreNoted l t
      notes =
          noted_after l entries s k t (λ m. m == n) seen others_stay x.placed.order (let more = x.placed.count in omega arith)
          (λ m is. ap (λ u. is_unseen u m) x.unseen ∙ or_left (n == m || false) _ (or_left (n == m) false (either_order n m ∙ is)))
          (λ m least. ap (λ u. is_unseen u m) x.unseen ∙ or_right (n == m || false) _ (le-leb s.counts.parts m least))

      -- so the cells go on
      pub own_kept : AreRegrouped s t d group → IsKept l (entries ++ by n d ∷ []) t
      own_kept g = record {
        events = more;
        settled = makes.settled;
        checked = k.checked;
        shows = makes.shows ∙ ap (λ es. es ++ by n d ∷ []) k.shows;
        parts = λ m.
            x.placed.slots m
            ∙ (ap (λ f. placed n f parts (part_in s.slots) m) k.part_count
            ∙ (placed_alike n (front_of l k.events).parts parts _ _ m (k.parts m) ∙ sym (makes.parts m)));
        groups = record {
          sound = k.settled.process;
          run = makes.settled.run;
          groups = g.groups ∙ (groups_alike (as_cells s.groups) (cells_of l k.events) d group k.groups.groups ∙ sym makes.groups);
          places = g.places ∙ (ap (λ q. q + qubits_by d) k.groups.places ∙ sym makes.qubit_count);
        };
        due = g.due;
        part_count = x.placed.count ∙ (ap (λ p. p + more_than_one parts) k.part_count ∙ sym makes.part_count);
        chan_count = x.chans ∙ (ap (λ c. c + chans_by d) k.chan_count ∙ sym makes.chan_count);
        measured = counted_on entries n d s.counts.turns t.counts.turns k.measured x.turns;
        turn_count = x.turns ∙ (ap (λ c. c + turns_by d) k.turn_count ∙ sym makes.turn_count);
        room = x.placed.room ∙ k.room;
        order_room = ap (λ o. o.1) x.placed.order ∙ (k.order_room ∙ sym x.placed.room);
        noted = notes;
      }

-- what is made where the part was taken out is made of the cells before
pub made_over : (s u t : Cells) (n : ℕ) (d : Deed) (parts : List Part) → n < length s.slots → u.slots ≡ slice_set s.slots n None
    → u.order ≡ s.order → u.counts ≡ s.counts → IsMade u t n d parts → IsMade s t n d parts
made_over s u t n d parts below slots order counts x = record {
  placed = record {
    slots = λ m.
        x.placed.slots m
        ∙ (ap (λ c. placed n c.parts parts (part_in u.slots) m) counts
        ∙ (ap (λ z. placed n s.counts.parts parts (part_in z) m) slots ∙ placed_over s.slots n s.counts.parts parts m below));
    room = x.placed.room ∙ (ap (λ z. length z) slots ∙ length-set s.slots n None);
    order = x.placed.order ∙ order;
    count = x.placed.count ∙ ap (λ c. c.parts + more_than_one parts) counts;
  };
  unseen = x.unseen ∙ ap (λ c. record { first = Some n; second = None; from = c.parts }) counts;
  chans = x.chans ∙ ap (λ c. c.chans + chans_by d) counts;
  turns = x.turns ∙ ap (λ c. c.turns + turns_by d) counts;
}

-- a plain deed fits whatever groups there are
pub plain_fits : (l : Listing) (es : List Event) (d : Deed) → is_plain d ≡ true
    → FitsGroups (front_of l es) (cells_of l es) d 0 (front_of l es).level
plain_fits l es (deed.Qbit q) is = cc
plain_fits l es (deed.New k) is = (refl, refl)
plain_fits l es deed.Act is = (refl, refl)
plain_fits l es (deed.Add v) is = (refl, refl)
plain_fits l es (deed.Pick o) is = (refl, refl)
plain_fits l es (deed.Gate o qs) is = cc
plain_fits l es (deed.Measure qs m) is = cc
plain_fits l es (deed.Com to k) is = cc
plain_fits l es (deed.If answer) is = (refl, refl)

-- it is of one part
pub plain_alone : (d : Deed) → is_plain d ≡ true → is_communication d ≡ false
plain_alone (deed.Qbit q) is = cc
plain_alone (deed.New k) is = refl
plain_alone deed.Act is = refl
plain_alone (deed.Add v) is = refl
plain_alone (deed.Pick o) is = refl
plain_alone (deed.Gate o qs) is = cc
plain_alone (deed.Measure qs m) is = cc
plain_alone (deed.Com to k) is = cc
plain_alone (deed.If answer) is = refl

-- it leaves the groups, the qubits and the measurements
pub plain_groups : (c : MachineCells) (d : Deed) (group : ℕ) → is_plain d ≡ true
    → (groups_by c d group ≡ c.groups) × (qubits_by d ≡ 0) × (turns_by d ≡ 0)
plain_groups c (deed.Qbit q) group is = cc
plain_groups c (deed.New k) group is = (refl, refl, refl)
plain_groups c deed.Act group is = (refl, refl, refl)
plain_groups c (deed.Add v) group is = (refl, refl, refl)
plain_groups c (deed.Pick o) group is = (refl, refl, refl)
plain_groups c (deed.Gate o qs) group is = cc
plain_groups c (deed.Measure qs m) group is = cc
plain_groups c (deed.Com to k) group is = cc
plain_groups c (deed.If answer) group is = (refl, refl, refl)

-- a plain deed leaves the groups
pub plain_regrouped : (s t : Cells) (d : Deed) → is_plain d ≡ true → t.groups ≡ s.groups → t.due ≡ s.due → AreDueIn s.groups s.due
    → AreRegrouped s t d 0
plain_regrouped s t d plain groups due were =
    let same = plain_groups (as_cells s.groups) d 0 plain in
    let none = same.1 in
    record {
      groups = ap groups_in groups ∙ sym same.0;
      places = ap length groups ∙ omega arith;
      due = subst (λ z. AreDueIn z t.due) (sym groups) (subst (λ z. AreDueIn s.groups z) (sym due) were);
    }
