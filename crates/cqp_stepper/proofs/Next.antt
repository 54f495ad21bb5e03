-- What comes next in a run, told by how its parts stand.
use Rattle.std.proofs.Common.{◌≡◌, ℕ, inl, inr, ⊎_elim, List, Option, Some, None, false, refl, sym, ap, subst, arith, ◌∙◌}
use Rattle.std.specs.Prelude.{Result, Ok, Err, IfOk}
use Rattle.std.specs.Option.{option_and_then, option_map}
use Rattle.cqp_syntax.specs.Listing.{Listing}
use Rattle.cqp_syntax.specs.Trees.{Process}
use Rattle.cqp_trace.specs.declared.deed.Deed.{Deed}
use Rattle.cqp_trace.specs.declared.deed.Deed.TheVariants as deed
use Rattle.cqp_trace.specs.declared.entry.Entry.{Entry}
use Rattle.cqp_cells.specs.Config.{Config, part_at}
use Rattle.cqp_cells.specs.Examples.{by}
use Rattle.cqp_cells.specs.Operands.{is_wrong}
use Rattle.cqp_cells.specs.Step.{counts_of}
use Rattle.cqp_cells.proofs.Options.{none_is_some, same_some}
use Rattle.cqp_engine.specs.declared.engine.Upcoming.{Upcoming}
use Rattle.cqp_engine.specs.declared.engine.Upcoming.TheVariants as upcoming
use Rattle.cqp_engine.specs.Upcoming.{IsLeastMeeting, IsLeastOrStuck, IsLeastPart, IsOwnEntry, IsUpcoming}
use Rattle.cqp_fitting.specs.Deeds.{IsDeedOf}
use Rattle.cqp_fitting.specs.Laws.{FitsLaw, OperandsLaw}
use Rattle.cqp_meeting.specs.Laws.{LeastLaw, PartnerLaw, StuckLaw}
use Rattle.cqp_meeting.specs.Meetings.{communication}
use Rattle.cqp_meeting.specs.Tables.{IsTable}
use Rattle.cqp_order.specs.declared.stand.Stand.{Stand}
use Rattle.cqp_order.specs.declared.stand.Stand.TheVariants.{Alone, Receives, Sends}
use Rattle.cqp_order.specs.declared.stand.Turn.{Turn as LeastTurn}
use Rattle.cqp_order.specs.Stands.{IsLeastTurn}
use Rattle.cqp_parts.specs.Parts.{process_of_part}
use Rattle.cqp_paths.specs.Follows.{measure_count}
use Rattle.cqp_turns.specs.declared.turn.Turn.{Turn}
use Rattle.cqp_turns.specs.declared.turn.Turn.TheVariants as turn
use Rattle.cqp_turns.specs.Turns.{turn_in}
use Rattle.cqp_turns.proofs.TurnsTold.{turn_told}
use Rattle.cqp_stepper.specs.declared.cells.Cells.{Cells}
use Rattle.cqp_stepper.specs.Here.{HereLaw}
use Rattle.cqp_stepper.specs.Kept.{IsAllSeen, IsKept}
use Rattle.cqp_stepper.specs.Readings.{GoesAlone, GoesWith, IsLeastPartBy, IsNextOf, entry_of, upcoming_by}
use Rattle.cqp_stepper.proofs.Last.{kept_part, last, table_here}
use Rattle.cqp_stepper.proofs.Tried.{made_here}

-- the least of the table is the least of the configuration
pub least_told : StuckLaw → LeastLaw → (at : ℕ → Option Stand) (c : Config) → IsTable at c → (part : Option ℕ) → IsLeastPartBy at part → IsLeastOrStuck c part
least_told stuck least at c table part h = by h.0 h.1 h.2
  where
    -- whether or not there is one
    by : (o : Option LeastTurn) → IsLeastTurn at o → part ≡ option_map (λ turn. turn.part) o → IsLeastOrStuck c part
    by None none is = subst (IsLeastOrStuck c) (sym is) ((stuck at c table).0 none)
    by (Some turn) there is =
        let told = least at c table turn there in subst (IsLeastOrStuck c) (sym is) (record { active = told.0; least = told.1 })

-- what a part with the process does next by its turn
module _ (fits : FitsLaw) (operands : OperandsLaw) (c : Config) (i : ℕ) (p : Process) (there : part_at i c.parts ≡ Some p)
    (right : is_wrong c.state.qubits p ≡ false) where
  -- a deed of the turn that measures nothing is its entry
  own_entry : (t : Turn) → turn_in p ≡ Some t → (d : Deed) → IsDeedOf c.state c.chans t d → measure_count d ≡ 0 → IsUpcoming c i (upcoming.Entry (by i d))
  own_entry t takes d is none =
      let own : IsOwnEntry c i (by i d) = record { part = refl; process = p; there = there; fits = (fits c.state c.chans p t right takes d).1 is } in
      (none, inl own)

  -- by the turn
  pub next_by : (t : Turn) → turn_in p ≡ Some t → (next : Upcoming) → Some next ≡ upcoming_by (counts_of c.state c.chans) i t → IsUpcoming c i next
  next_by turn.Qbit takes next is = subst (IsUpcoming c i) (sym (same_some is)) (own_entry turn.Qbit takes (deed.Qbit c.state.qubits) refl refl)
  next_by turn.New takes next is = subst (IsUpcoming c i) (sym (same_some is)) (own_entry turn.New takes (deed.New c.chans) refl refl)
  next_by turn.Act takes next is = subst (IsUpcoming c i) (sym (same_some is)) (own_entry turn.Act takes deed.Act refl refl)
  next_by (turn.Add v) takes next is = subst (IsUpcoming c i) (sym (same_some is)) (own_entry (turn.Add v) takes (deed.Add v) refl refl)
  next_by (turn.Pick o) takes next is = subst (IsUpcoming c i) (sym (same_some is)) (own_entry (turn.Pick o) takes (deed.Pick o) refl refl)
  next_by (turn.Gate o qs) takes next is = subst (IsUpcoming c i) (sym (same_some is)) (own_entry (turn.Gate o qs) takes (deed.Gate o qs) refl refl)
  next_by (turn.Measure qs) takes next is =
      let looks = turn_told p (turn.Measure qs) takes in
      subst (IsUpcoming c i) (sym (same_some is))
      (record {
        process = p;
        there = there;
        slots = looks.slots;
        redex = looks.redex;
        qubits = looks.are;
        operands = operands c.state.qubits p (turn.Measure qs) right takes;
      })
  next_by (turn.Send k vs) takes next is = absurd (none_is_some {x = next} (sym is))
  next_by (turn.Receive k) takes next is = absurd (none_is_some {x = next} (sym is))
  next_by (turn.If answer) takes next is = subst (IsUpcoming c i) (sym (same_some is)) (own_entry (turn.If answer) takes (deed.If answer) refl refl)

-- a communication measures nothing
measures_none : (i j : ℕ) (s : Stand) (e : Entry) → communication i j s ≡ Some e → measure_count e.deed ≡ 0
measures_none i j Alone e h = absurd (none_is_some {x = e} h)
measures_none i j (Sends k) e h = ap (λ (x : Entry). measure_count x.deed) (sym (same_some h))
measures_none i j (Receives k) e h = ap (λ (x : Entry). measure_count x.deed) (sym (same_some h))

-- the least part that waits communicates with its least partner
module _ (least : LeastLaw) (partner : PartnerLaw) (at : ℕ → Option Stand) (c : Config) (table : IsTable at c) (i : ℕ) (first : IsLeastPart c i) where
  -- it is the part of the least turn
  same_part : (t : LeastTurn) → IsLeastTurn at (Some t) → t.part ≡ i
  same_part t there =
      let told = least at c table t there in
      let below = told.1 i first.active in
      let above = first.least t.part told.0 in
      omega arith

  -- the entry of the least turn
  meeting_next : (t : LeastTurn) → IsLeastTurn at (Some t) → (e : Entry) → entry_of at t ≡ Some e → IsUpcoming c i (upcoming.Entry e)
  meeting_next t there e is = by_partner t.partner refl is
    where
      -- with whom
      by_partner : (o : Option ℕ) → t.partner ≡ o → option_and_then (λ j. option_and_then (communication t.part j) (at t.part)) o ≡ Some e
          → IsUpcoming c i (upcoming.Entry e)
      by_partner None with_whom told = absurd (none_is_some {x = e} told)
      by_partner (Some j) with_whom told = by_stand (at t.part) refl told
        where
          -- on which side
          by_stand : (w : Option Stand) → at t.part ≡ w → option_and_then (communication t.part j) w ≡ Some e → IsUpcoming c i (upcoming.Entry e)
          by_stand None stands says = absurd (none_is_some {x = e} says)
          by_stand (Some w) stands says =
              let meets = partner at c table t there j with_whom w stands e says in
              let is_least : IsLeastMeeting c t.part e = record {
                process = meets.process;
                there = meets.there;
                waits = meets.waits;
                fits = meets.fits;
                partner = j;
                between = record { least = meets.least; greatest = meets.greatest };
                first = meets.first;
              } in
              (measures_none t.part j w e says, inr (subst (λ n. IsLeastMeeting c n e) (same_part t there) is_least))

  -- whichever it is
  pub with_next : (o : Option LeastTurn) → IsLeastTurn at o → (e : Option Entry) → e ≡ option_and_then (entry_of at) o → (next : Upcoming)
      → Some next ≡ option_map (λ x. upcoming.Entry x) e → IsUpcoming c i next
  with_next None there e is next told = absurd (none_is_some {x = next} (sym (told ∙ ap (option_map _) is)))
  with_next (Some t) there e is next told = by_entry (entry_of at t) refl (told ∙ ap (option_map _) is)
    where
      -- which it is
      by_entry : (o : Option Entry) → entry_of at t ≡ o → Some next ≡ option_map (λ x. upcoming.Entry x) o → IsUpcoming c i next
      by_entry None says given = absurd (none_is_some {x = next} (sym given))
      by_entry (Some x) says given = subst (IsUpcoming c i) (sym (same_some given)) (meeting_next t there x says)

-- so of the cells of a run
pub next_told : (l : Listing) (here_law : HereLaw) (entries : List Entry) (s : Cells) (k : IsKept l entries s) → IsAllSeen s → FitsLaw → OperandsLaw → LeastLaw
    → PartnerLaw → (n : ℕ) → IsLeastPart (last l here_law entries s k) n → (next : Upcoming) → IsNextOf l s n (Some next)
    → IsUpcoming (last l here_law entries s k) n next
next_told l here_law entries s k seen fits operands least partner n first next h = ⊎_elim
    (λ (alone : GoesAlone l s n (Some next)).
    let c = last l here_law entries s k in
    let here = kept_part l here_law entries s k n alone.stands.part alone.stands.there in
    next_by fits operands c n (process_of_part l alone.stands.part) here.there here.right alone.turn alone.stands.takes next
    (alone.is ∙ ap (λ m. upcoming_by m n alone.turn) (made_here l here_law entries s k)))
    (λ (with_one : GoesWith s n (Some next)).
    with_next least partner _ (last l here_law entries s k) (table_here l here_law entries s k seen) n first with_one.least.0 with_one.least.1
    with_one.entry with_one.least.2 next with_one.is)
    h

-- where memory was there
pub next_if : {E : Type 0} (l : Listing) (c : Config) (s : Cells) (n : ℕ) (next : Option Upcoming) (r : Result Upcoming E)
    → ((x : Upcoming) → IsNextOf l s n (Some x) → IsUpcoming c n x) → IsNextOf l s n next → IfOk r (λ there. next ≡ Some there) → IfOk r (IsUpcoming c n)
next_if l c s n next (Ok x) follows h is = follows x (subst (IsNextOf l s n) is h)
next_if l c s n next (Err e) follows h is = tt
