-- Deeds of groups: what they ask, and the groups that they leave.
use Rattle.std.proofs.Common.{◌≡◌, ◌≢◌, ℕ, zero, suc, ◌+◌, ◌-◌, ◌<◌, ◌≤◌, List, [], ◌∷◌, ◌++◌, true, Bool, Option, Some, None, length, refl, sym, ap, subst}
use Rattle.std.proofs.Common.{arith, ◌∙◌, eq-eqb, ne_eqb, ⊎_elim, nat_lt}
use Rattle.std.proofs.lemmas.Bool.{cases_lt}
use Rattle.std.proofs.lemmas.List.{get_or_past, length-append}
use mathlib.Core.Logic.{dite}
use native.Mathlib.Decide.{ℕ_discrete}
use Rattle.cqp_syntax.specs.declared.op.Op.{Op}
use Rattle.cqp_syntax.specs.declared.op.Op.TheVariants as op
use Rattle.cqp_syntax.specs.Listing.{Listing}
use Rattle.cqp_trace.specs.declared.deed.Deed.{Deed}
use Rattle.cqp_trace.specs.declared.deed.Deed.TheVariants as deed
use Rattle.cqp_trace.specs.declared.entry.Entry.{Entry}
use Rattle.cqp_cells.specs.Moves.{moved}
use Rattle.cqp_cells.proofs.Options.{none_is_some, same_some}
use Rattle.cqp_fresh.proofs.Fresh.{next_qubit}
use Rattle.std.specs.List.{list_all}
use Rattle.std.proofs.lemmas.Bool.{and_parts}
use Rattle.cqp_book.specs.Keys.{has}
use Rattle.cqp_syntax.specs.Lists.{is_distinct}
use Rattle.cqp_cells.specs.Redex.{redex_of}
use Rattle.cqp_steps.proofs.RowLemmas.{measured_operands}
use Rattle.cqp_factored.proofs.GroupRuns.{places_are}
use Rattle.cqp_vector.specs.Places.{ArePlaces}
use Rattle.cqp_parts.specs.declared.part.Part.{Part}
use Rattle.cqp_parts.specs.Parts.{more_than_one, one_if_none, parts_after, process_of_part}
use Rattle.cqp_vector.specs.Group.{factors_left_out}
use Rattle.cqp_vector.specs.Measurement.{is_outcome}
use Rattle.cqp_machine.specs.After.{groups_by}
use Rattle.cqp_machine.specs.Enabled.{ActsOn, FitsGroups, HasRoom, is_outcome_in}
use Rattle.cqp_machine.specs.Factors.{Held, gated, level_of, measured, new_group, places_in, state_of}
use Rattle.cqp_machine.specs.Shown.{cells_of, front_of}
use Rattle.cqp_factored.specs.GroupLaws.{GroupLevelLaw}
use Rattle.cqp_groups.specs.Groups.{ArePlacesOf, CanGate, CanMeasure, as_cells, groups_in}
use Rattle.cqp_groups.specs.RunLaws.{GateLaw, MeasureLaw, SumLaw}
use Rattle.cqp_stepper.specs.declared.cells.Cells.{Cells}
use Rattle.cqp_stepper.specs.Kept.{AreDueIn, IsAllSeen, IsKept, is_that}
use Rattle.cqp_stepper.specs.Steps.{AreRegrouped, CanMakeParts, HasRoomFor, IsGathered, IsMade, MayMake, made_in}
use Rattle.cqp_stepper.proofs.Noted.{same_made}

-- H alone leaves a factor out
at_most_one : (o : Op) → factors_left_out o ≤ 1
at_most_one op.I = omega arith
at_most_one op.X = omega arith
at_most_one op.Y = omega arith
at_most_one op.Z = omega arith
at_most_one op.H = omega arith
at_most_one op.S = omega arith
at_most_one op.T = omega arith
at_most_one op.CNot = omega arith
at_most_one op.CZ = omega arith
at_most_one op.Swap = omega arith
at_most_one op.Toffoli = omega arith

-- what is made stays so whatever the groups are
pub made_with : (s u : Cells) (n : ℕ) (d : Deed) (parts : List Part) (groups : List (Option Held)) (due : Option ℕ) → IsMade s u n d parts
    → IsMade s (record u { groups = groups; due = due }) n d parts
made_with s u n d parts groups due x = record {
  placed = record {
    slots = x.placed.slots;
    room = x.placed.room;
    order = x.placed.order;
    count = x.placed.count;
  };
  unseen = x.unseen;
  chans = x.chans;
  turns = x.turns;
}

-- or were
pub made_without : (s : Cells) (groups : List (Option Held)) (t : Cells) (n : ℕ) (d : Deed) (parts : List Part)
    → IsMade (record s { groups = groups }) t n d parts → IsMade s t n d parts
made_without s groups t n d parts x = record {
  placed = record {
    slots = x.placed.slots;
    room = x.placed.room;
    order = x.placed.order;
    count = x.placed.count;
  };
  unseen = x.unseen;
  chans = x.chans;
  turns = x.turns;
}

-- a group that is there has a place
pub group_below : (s : List (Option Held)) (n : ℕ) (g : Held) → groups_in s n ≡ Some g → n < length s
group_below s n g at = ⊎_elim
    (λ (below : n < length s). below)
    (λ (past : length s ≤ n). absurd (none_is_some {x = g} (sym (get_or_past s n None past) ∙ at)))
    (cases_lt n (length s))

module _ (l : Listing) (entries : List Entry) (s : Cells) (k : IsKept l entries s) (seen : IsAllSeen s) where
  module _ (levels_are : GroupLevelLaw) (group : ℕ) (qs : List ℕ) (x : IsGathered s group qs) where
    -- the group stands in the machine's cells
    in_cells : (cells_of l k.events).groups group ≡ Some x.before
    in_cells = sym (ap (λ m. m group) k.groups.groups) ∙ x.there

    -- the level that a deed of the group leaves
    abbrev level_by : (Held → Held) → ℕ
    level_by F = (front_of l k.events).level + level_of (F x.before) - level_of x.before

    -- a deed acts on the group
    acts : (F : Held → Held) → ActsOn (front_of l k.events) (cells_of l k.events) group qs F (level_by F)
    acts F =
        let within = (levels_are l k.events group x.before k.settled.process k.settled.run in_cells).0 in
        record { before = x.before; there = in_cells; has = x.has; nothing_due = x.none_due; level_is = omega arith }

    -- an H has room
    room_there : SumLaw → (o : Op) → HasRoomFor s o → (n : ℕ) → factors_left_out o ≡ n → HasRoom (front_of l k.events) n
    room_there sums o room zero is = tt
    room_there sums o room (suc n) is =
        let one = at_most_one o in
        let told = (sums l k.events s.groups k.groups).0 in
        let few = room (omega (arith, is, one)) in
        omega (arith, told, few)

    -- a gate fits
    pub gate_fits : SumLaw → (o : Op) → HasRoomFor s o
        → FitsGroups (front_of l k.events) (cells_of l k.events) (deed.Gate o qs) group (level_by (gated o qs))
    gate_fits sums o room = (acts (gated o qs), room_there sums o room (factors_left_out o) refl)

    -- so does a measurement
    pub measure_fits : (m : ℕ) → is_outcome (places_in x.before.qubits qs) (state_of x.before) m ≡ true
        → FitsGroups (front_of l k.events) (cells_of l k.events) (deed.Measure qs m) group (level_by (measured qs m))
    measure_fits m likely = (acts (measured qs m), ap (λ g. is_outcome_in g qs m) in_cells ∙ likely)

    -- then the call for a gate has what it asks
    pub can_gate : GateLaw → SumLaw → (n : ℕ) (o : Op) → HasRoomFor s o → MayMake l s n (deed.Gate o qs) → CanGate s.groups group o qs
    can_gate law sums n o room may =
        let d = deed.Gate o qs in
        law l k.events s.groups n group (more_than_one (parts_after l may.part d)) (one_if_none (parts_after l may.part d)) 0 _ o qs k.groups (
          record {
            part = may.part;
            there = sym (k.parts n) ∙ may.there;
            process = may.process;
            moves = ap (λ c. moved c (process_of_part l may.part) d) (sym (same_made l entries s k)) ∙ may.moves;
            makes = refl;
            ends = refl;
          },
          refl,
          gate_fits sums o room,
        )

    -- and that for a measurement
    pub can_measure : MeasureLaw → (n m : ℕ) → is_outcome (places_in x.before.qubits qs) (state_of x.before) m ≡ true
        → MayMake l s n (deed.Measure qs m) → CanMeasure s.groups group qs m
    can_measure law n m likely may =
        let d = deed.Measure qs m in
        law l k.events s.groups n group (more_than_one (parts_after l may.part d)) (one_if_none (parts_after l may.part d)) 0 _ qs m k.groups (
          record {
            part = may.part;
            there = sym (k.parts n) ∙ may.there;
            process = may.process;
            moves = ap (λ c. moved c (process_of_part l may.part) d) (sym (same_made l entries s k)) ∙ may.moves;
            makes = refl;
            ends = refl;
          },
          refl,
          measure_fits m likely,
        )

    -- the measured qubits have distinct places in it
    pub measure_places : (n m : ℕ) → MayMake l s n (deed.Measure qs m) → (places : List ℕ) → ArePlacesOf s.groups group qs places
        → (g : Held) → groups_in s.groups group ≡ Some g → ArePlaces (length g.qubits) places
    measure_places n m may places at g there =
        let p = process_of_part l may.part in
        let operands = measured_operands (made_in s) p (redex_of p) qs m may.process may.moves in
        let distinct = (and_parts (is_distinct qs) (list_all (λ q. nat_lt q (length s.groups)) qs) operands).0 in
        let same : x.before ≡ g = same_some {x = x.before} {y = g} (sym x.there ∙ there) in
        let has_g : list_all (λ q. has q g.qubits) qs ≡ true = subst (λ (h : Held). list_all (λ q. has q h.qubits) qs ≡ true) same x.has in
        subst (ArePlaces (length g.qubits)) (sym (at g there)) (places_are g.qubits qs distinct has_g).0

    -- whether an outcome comes of it, told by the places
    pub likely_there : (m : ℕ) (places : List ℕ) (b : Bool) → ArePlacesOf s.groups group qs places
        → ((g : Held) → groups_in s.groups group ≡ Some g → b ≡ is_outcome places (state_of g) m)
        → is_outcome (places_in x.before.qubits qs) (state_of x.before) m ≡ b
    likely_there m places b at told = ap (λ ps. is_outcome ps (state_of x.before) m) (sym (at x.before x.there)) ∙ sym (told x.before x.there)

    -- the groups behind a gate, of which none has more due
    pub gate_regrouped : (t : Cells) (o : Op) → groups_in t.groups ≡ groups_by (as_cells s.groups) (deed.Gate o qs) group
        → length t.groups ≡ length s.groups → t.due ≡ s.due → AreRegrouped s t (deed.Gate o qs) group
    gate_regrouped t o groups places due = record {
      groups = groups;
      places = places ∙ omega arith;
      due = each;
    }
      where
        each : AreDueIn t.groups t.due
        each n g at other = dite (ℕ_discrete n group)
            (λ (e : n ≡ group).
            let here : groups_in t.groups n ≡ Some (gated o qs x.before) = ap (λ f. f n) groups ∙ rw (eq-eqb n group e, x.there) refl in
            ap (λ (h : Held). h.due) (same_some {x = g} {y = gated o qs x.before} (sym at ∙ here)) ∙ x.none_due)
            (λ (e : n ≢ group).
            let here : groups_in t.groups n ≡ groups_in s.groups n = ap (λ f. f n) groups ∙ rw (ne_eqb n group e) refl in
            k.due n g (sym here ∙ at) (ap (λ z. is_that z n) (sym due) ∙ other))

    -- those behind a measurement, of which the measured one may have qubits due
    pub measure_regrouped : (t : Cells) (m : ℕ) → s.due ≡ None
        → groups_in t.groups ≡ groups_by (as_cells s.groups) (deed.Measure qs m) group
        → length t.groups ≡ length s.groups → t.due ≡ Some group → AreRegrouped s t (deed.Measure qs m) group
    measure_regrouped t m none groups places due = record {
      groups = groups;
      places = places ∙ omega arith;
      due = each;
    }
      where
        each : AreDueIn t.groups t.due
        each n g at other = dite (ℕ_discrete n group)
            (λ (e : n ≡ group).
            let is : is_that t.due n ≡ true = ap (λ z. is_that z n) due ∙ eq-eqb group n (sym e) in
            cc)
            (λ (e : n ≢ group).
            let here : groups_in t.groups n ≡ groups_in s.groups n = ap (λ f. f n) groups ∙ rw (ne_eqb n group e) refl in
            k.due n g (sym here ∙ at) (ap (λ z. is_that z n) none))

  -- a new qubit is the next, and its group has nothing due
  pub qubit_next : (n q : ℕ) → MayMake l s n (deed.Qbit q) → q ≡ length s.groups
  qubit_next n q may = next_qubit (made_in s) (process_of_part l may.part) q may.process may.moves

  -- the groups behind it
  pub qubit_regrouped : (t : Cells) (q : ℕ) → q ≡ length s.groups → groups_in t.groups ≡ groups_by (as_cells s.groups) (deed.Qbit q) 0
      → length t.groups ≡ length (s.groups ++ None ∷ []) → t.due ≡ s.due → AreRegrouped s t (deed.Qbit q) 0
  qubit_regrouped t q next groups places due = record {
    groups = groups;
    places = places ∙ length-append s.groups (None ∷ []);
    due = each;
  }
    where
      each : AreDueIn t.groups t.due
      each n g at other = dite (ℕ_discrete n q)
          (λ (e : n ≡ q).
          let here : groups_in t.groups n ≡ Some (new_group q) = ap (λ f. f n) groups ∙ rw (eq-eqb n q e) refl in
          ap (λ (h : Held). h.due) (same_some {x = g} {y = new_group q} (sym at ∙ here)))
          (λ (e : n ≢ q).
          let here : groups_in t.groups n ≡ groups_in s.groups n = ap (λ f. f n) groups ∙ rw (ne_eqb n q e) refl in
          k.due n g (sym here ∙ at) (ap (λ z. is_that z n) (sym due) ∙ other))

-- a part may go on whatever the groups are
pub can_make_with : (l : Listing) (s : Cells) (n : ℕ) (d : Deed) (groups : List (Option Held)) → CanMakeParts l s n d
    → CanMakeParts l (record s { groups = groups }) n d
can_make_with l s n d groups x = record {
  part = x.part;
  there = x.there;
  stands = x.stands;
  place = x.place;
  room = x.room;
  places = x.places;
  chans = x.chans;
  turns = x.turns;
}
