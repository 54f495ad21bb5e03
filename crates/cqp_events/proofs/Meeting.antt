-- A run stays settled by a communication: the receiver waits, and the sender meets it.
use Rattle.std.proofs.Common.{◌≡◌, ◌≢◌, ℕ, ◌+◌, ◌<◌, List, [], ◌∷◌, ◌++◌, true, false, ◌==◌, ◌&&◌, Bool, Some, refl}
use Rattle.std.proofs.Common.{ap, sym, subst, arith, ◌∙◌, eq-eqb, ne_eqb, inl}
use Rattle.std.proofs.lemmas.List.{append-nil, append_assoc}
use Rattle.std.proofs.lemmas.Bool.{lt-ltb, or_right}
use mathlib.Core.Logic.{dite}
use native.Mathlib.Decide.{ℕ_discrete}
use Rattle.cqp_syntax.specs.declared.val.Val.{Val}
use Rattle.cqp_syntax.specs.declared.val.Val.TheVariants as val
use Rattle.cqp_syntax.specs.Listing.{Listing}
use Rattle.cqp_syntax.specs.Trees.{Process, input, valued}
use Rattle.cqp_trace.specs.declared.deed.Deed.TheVariants as deed
use Rattle.cqp_cells.specs.Examples.{by}
use Rattle.cqp_cells.specs.Moves.{Sending, provided, receives_on, sends_on}
use Rattle.cqp_cells.proofs.Options.{none_is_some, same_some}
use Rattle.cqp_parts.specs.declared.part.Part.{Part}
use Rattle.cqp_parts.specs.Parts.{process_of_part, parts_after, parts_after_input, more_than_one, one_if_none}
use Rattle.cqp_machine.specs.declared.event.Event.{Event}
use Rattle.cqp_machine.specs.declared.event.Event.TheVariants as event
use Rattle.cqp_machine.specs.declared.front.Front.{Front}
use Rattle.cqp_machine.specs.After.{cells_after, channel_of, direction_of, met_at, placed, values_from, values_in, without_two}
use Rattle.cqp_machine.specs.Cells.{Cells}
use Rattle.cqp_machine.specs.Enabled.{IsEnabled, MayPark, Meets, waits_for}
use Rattle.cqp_machine.specs.Fronts.{front_after}
use Rattle.cqp_machine.specs.Shown.{shown, front_of, cells_of}
use Rattle.cqp_steps.proofs.StepHalf.{not_both}
use Rattle.cqp_events.specs.Laws.{MeetingLaw}
use Rattle.cqp_events.specs.Settled.{MakesIn, idle_below, met_made, met_parts}
use Rattle.cqp_events.proofs.Events.{event_law}

-- a receiver is ready at an input
receiver_waits : (chan : ℕ) (vs : List Val) (p r : Process) → receives_on chan vs p ≡ Some r → waits_for chan p ≡ Some false
receiver_waits chan vs (input (valued (val.Chan k)) bs q) r h = is_here (k == chan) _ _ h
  where
    is_here : (b t : Bool) (x : Process) → provided (b && t) x ≡ Some r → provided b false ≡ Some false
    is_here true t x g = refl
    is_here false t x g = absurd (none_is_some g)
receiver_waits chan vs p r h = absurd (none_is_some h)

-- of two that meet neither waits any more
none_left : (i to : ℕ) → channel_of (channel_of false (to ∷ [])).outward (without_two i to (to ∷ [])) ≡ channel_of false []
none_left i to = rw (eq-eqb to to refl, or_right (to == i) true refl) refl

module _ (l : Listing) (f : Front) (c : Cells) (i to chan : ℕ) (p q : Part) (s : Sending) (r : Process) where
  -- the two parts are there and meet on a channel that is idle
  record Ready : Type 0 where
    sender : c.parts i ≡ Some p
    receiver : c.parts to ≡ Some q
    sends : sends_on chan (process_of_part l p) ≡ Some s
    receives : receives_on chan s.values (process_of_part l q) ≡ Some r
    idle : (k : ℕ) → c.chans k ≡ idle_below f.chans k
    made : chan < f.chans

  -- the parts in their places
  abbrev sent : List Part
  sent = parts_after l p (deed.Com to chan)

  -- the receiver's
  abbrev received : List Part
  received = parts_after_input l q s.values

  -- the two events
  abbrev park : Event
  park = event.Park to chan

  -- the second
  abbrev step : Event
  step = event.Step (by i (deed.Com to chan)) 0 (more_than_one sent + more_than_one received) (one_if_none sent + one_if_none received) 1 f.level

  -- what the first leaves
  abbrev between : Cells
  between = cells_after l f c park

  -- the front that it leaves
  abbrev middle : Front
  middle = front_after f park

  module _ (x : Ready) where
    -- the channel is there
    chan_there : c.chans chan ≡ Some (channel_of false [])
    chan_there = x.idle chan ∙ rw (lt-ltb chan f.chans x.made) refl

    -- the two are two
    apart : i ≢ to
    apart e =
        let same : p ≡ q = same_some {x = p} {y = q} (sym x.sender ∙ (ap c.parts e ∙ x.receiver)) in
        not_both chan s.values (process_of_part l p) r s x.sends
        (subst (λ z. receives_on chan s.values (process_of_part l z) ≡ Some r) (sym same) x.receives)

    -- the receiver may wait
    may_park : MayPark l c to chan
    may_park = record {
      part = q;
      there = x.receiver;
      channel = channel_of false [];
      channel_there = chan_there;
      outward = false;
      ready = receiver_waits chan s.values (process_of_part l q) r x.receives;
      not_yet = refl;
      none_other = inl refl;
    }

    -- then it waits
    waits_there : between.chans chan ≡ Some (channel_of false (to ∷ []))
    waits_there =
        let direction : direction_of l chan (c.parts to) ≡ Some false =
        ap (direction_of l chan) x.receiver ∙ receiver_waits chan s.values (process_of_part l q) r x.receives in
        rw (eq-eqb chan chan refl, direction, chan_there) refl

    -- and the sender meets it
    meets : Meets l between i to chan (more_than_one sent + more_than_one received) (one_if_none sent + one_if_none received)
    meets = record {
      sender = p;
      sender_there = x.sender;
      receiver = q;
      receiver_there = x.receiver;
      channel = channel_of false (to ∷ []);
      channel_there = waits_there;
      one_waits = rw (ne_eqb i to apart, eq-eqb to to refl) refl;
      sending = s;
      sends = x.sends;
      process = r;
      receives = x.receives;
      makes = refl;
      ends = refl;
    }

    -- the channels are idle again
    idle_again : (k : ℕ) → (cells_after l middle between step).chans k ≡ idle_below (f.chans + 0) k
    idle_again k =
        let count : f.chans + 0 ≡ f.chans = omega arith in
        let met : met_at i to (between.chans chan) ≡ Some (channel_of false []) = ap (met_at i to) waits_there ∙ ap Some (none_left i to) in
        dite (ℕ_discrete k chan)
        (λ (e : k ≡ chan). rw (eq-eqb k chan e, met, count) (sym chan_there ∙ (ap c.chans (sym e) ∙ x.idle k)))
        (λ (e : k ≢ chan). rw (ne_eqb k chan e, count) (x.idle k))

    -- the parts are placed
    leaves : (n : ℕ) → (cells_after l middle between step).parts n ≡ placed to (f.parts + more_than_one sent) received (placed i f.parts sent c.parts) n
    leaves n =
        let vs : values_from l chan (c.parts i) ≡ s.values = ap (values_from l chan) x.sender ∙ ap values_in x.sends in
        rw (vs, x.sender, x.receiver) refl

-- a communication
pub meeting_law : MeetingLaw
meeting_law l es i to chan p q s r x sender receiver sends receives made =
    let f = front_of l es in
    let c = cells_of l es in
    let ready : Ready l f c i to chan p q s r =
    record { sender = sender; receiver = receiver; sends = sends; receives = receives; idle = x.idle; made = made } in
    let first = park l f c i to chan p q s r in
    let second = step l f c i to chan p q s r in
    let c1 = between l f c i to chan p q s r in
    let f1 = middle l f c i to chan p q s r in
    let es1 = es ++ first ∷ [] in
    let on = event_law l es first x.run (record { process = x.process; going = x.going; fits = may_park l f c i to chan p q s r ready }) in
    let there : IsEnabled l f1 c1 second =
    record { process = x.process; going = x.going; fits = (meets l f c i to chan p q s r ready, refl, refl, refl) } in
    let enabled : IsEnabled l (front_of l es1) (cells_of l es1) second =
    subst (λ z. IsEnabled l z (cells_of l es1) second) (sym on.front) (subst (λ z. IsEnabled l f1 z second) (sym on.cells) there) in
    let met = event_law l es1 second on.run enabled in
    let list : es1 ++ second ∷ [] ≡ es ++ first ∷ second ∷ [] = append_assoc es (first ∷ []) (second ∷ []) in
    let front : front_of l (es1 ++ second ∷ []) ≡ front_after f1 second = met.front ∙ ap (λ z. front_after z second) on.front in
    let cells : cells_of l (es1 ++ second ∷ []) ≡ cells_after l f1 c1 second =
    met.cells ∙ (ap (λ z. cells_after l z (cells_of l es1) second) on.front ∙ ap (λ z. cells_after l f1 z second) on.cells) in
    subst (λ more. MakesIn l es more (by i (deed.Com to chan)) (met_made l p q s.values to chan) (met_parts l es p q s.values i to chan) c.groups) list
    (record {
      settled = record {
        process = x.process;
        run = met.run;
        going = ap (λ (z : Front). z.stopped) front ∙ x.going;
        idle = λ k. ap (λ (z : Cells). z.chans k) cells
            ∙ (idle_again l f c i to chan p q s r ready k ∙ sym (ap (λ (z : Front). idle_below z.chans k) front));
      };
      shows = met.shows ∙ ap (λ ys. ys ++ by i (deed.Com to chan) ∷ []) (on.shows ∙ append-nil (shown es));
      parts = λ n. ap (λ (z : Cells). z.parts n) cells ∙ leaves l f c i to chan p q s r ready n;
      groups = ap (λ (z : Cells). z.groups) cells;
      part_count = ap (λ (z : Front). z.parts) front;
      qubit_count = ap (λ (z : Front). z.qubits) front;
      chan_count = ap (λ (z : Front). z.chans) front;
      turn_count = ap (λ (z : Front). z.turns) front;
    })
