-- An event that fits what it sees fits all cells, and leaves what it makes of them.
use Rattle.std.proofs.Common.{◌≡◌, ℕ, List, sym, ap, ◌∙◌}
use Rattle.cqp_book.specs.Keys.{Store}
use Rattle.cqp_syntax.specs.Listing.{Listing}
use Rattle.cqp_trace.specs.declared.deed.Deed.{Deed}
use Rattle.cqp_trace.specs.declared.deed.Deed.TheVariants as deed
use Rattle.cqp_machine.specs.declared.front.Front.{Front}
use Rattle.cqp_machine.specs.declared.event.Event.{Event}
use Rattle.cqp_machine.specs.declared.event.Event.TheVariants as event
use Rattle.cqp_machine.specs.declared.cell.Cell.{Cell}
use Rattle.cqp_machine.specs.Factors.{Held, gated, measured}
use Rattle.cqp_machine.specs.Cells.{cells_in}
use Rattle.cqp_machine.specs.Enabled.{IsEnabled, FitsEvent, FitsStep, Moves, ActsOn, is_outcome_in}
use Rattle.cqp_machine.specs.After.{cells_after}
use Rattle.cqp_machine.specs.Machine.{seen_by, factored}
use Rattle.cqp_local.proofs.WholeLemmas.{part_there, whole_parts}
use Rattle.cqp_local.proofs.WholeGroups.{chan_there, group_there, whole_chans, whole_groups}

module _ (l : Listing) (f : Front) (s : Store Cell) where
  module _ (i group made gone woke level : ℕ) where
    -- the step of this part
    abbrev E : Deed → Event
    E d = event.Step (record { part = i; deed = d }) group made gone woke level

    -- a part that moves by what is seen moves in all cells
    moves_there : (d : Deed) → Moves l f (seen_by (E d) s) (record { part = i; deed = d }) made gone
        → Moves l f (cells_in s) (record { part = i; deed = d }) made gone
    moves_there d m = record {
      part = m.part;
      there = part_there l f s (E d) i m.part m.there;
      process = m.process;
      moves = m.moves;
      makes = m.makes;
      ends = m.ends;
    }

    -- a group that is acted on in what is seen is acted on in all cells
    acts_there : (d : Deed) (qs : List ℕ) (F : Held → Held) → ActsOn f (seen_by (E d) s) group qs F level → ActsOn f (cells_in s) group qs F level
    acts_there d qs F a = record {
      before = a.before;
      there = group_there l f s (E d) group a.before a.there;
      has = a.has;
      nothing_due = a.nothing_due;
      level_is = a.level_is;
    }

    -- a step that fits what it sees fits all cells
    step_fits : (d : Deed) → FitsStep l f (seen_by (E d) s) i d group made gone woke level → FitsStep l f (cells_in s) i d group made gone woke level
    step_fits (deed.Qbit q) h = (moves_there (deed.Qbit q) h.0, h.1, h.2)
    step_fits (deed.New c) h = (moves_there (deed.New c) h.0, h.1, h.2)
    step_fits deed.Act h = (moves_there deed.Act h.0, h.1, h.2)
    step_fits (deed.Add v) h = (moves_there (deed.Add v) h.0, h.1, h.2)
    step_fits (deed.Pick o) h = (moves_there (deed.Pick o) h.0, h.1, h.2)
    step_fits (deed.If answer) h = (moves_there (deed.If answer) h.0, h.1, h.2)
    step_fits (deed.Gate o qs) h = (moves_there (deed.Gate o qs) h.0, h.1, (acts_there (deed.Gate o qs) qs (gated o qs) h.2.0, h.2.1))
    step_fits (deed.Measure qs m) h =
        let acts = h.2.0 in
        let same = group_there l f s (E (deed.Measure qs m)) group acts.before acts.there ∙ sym acts.there in
        (moves_there (deed.Measure qs m) h.0, h.1, (acts_there (deed.Measure qs m) qs (measured qs m) acts, ap (λ g. is_outcome_in g qs m) same ∙ h.2.1))
    step_fits (deed.Com to chan) h =
        let m = h.0 in
        let e = E (deed.Com to chan) in (
          record {
            sender = m.sender;
            sender_there = part_there l f s e i m.sender m.sender_there;
            receiver = m.receiver;
            receiver_there = part_there l f s e to m.receiver m.receiver_there;
            channel = m.channel;
            channel_there = chan_there l f s e chan m.channel m.channel_there;
            one_waits = m.one_waits;
            sending = m.sending;
            sends = m.sends;
            process = m.process;
            receives = m.receives;
            makes = m.makes;
            ends = m.ends;
          },
          h.1,
          h.2,
          h.3,
        )

  -- so does each event
  event_fits : (e : Event) → FitsEvent l f (seen_by e s) e → FitsEvent l f (cells_in s) e
  event_fits (event.Step e group made gone woke level) h = step_fits e.part group made gone woke level e.deed h
  event_fits (event.Join left right) h = let e = event.Join left right in record {
    apart = h.apart;
    first = h.first;
    first_there = group_there l f s e left h.first h.first_there;
    first_due = h.first_due;
    second = h.second;
    second_there = group_there l f s e right h.second h.second_there;
    second_due = h.second_due;
  }
  event_fits (event.Split group qubits rest) h = record {
    before = h.before;
    there = group_there l f s (event.Split group qubits rest) group h.before h.there;
    some = h.some;
    are_due = h.are_due;
    rest_is = h.rest_is;
  }
  event_fits (event.Park i chan) h = let e = event.Park i chan in record {
    part = h.part;
    there = part_there l f s e i h.part h.there;
    channel = h.channel;
    channel_there = chan_there l f s e chan h.channel h.channel_there;
    outward = h.outward;
    ready = h.ready;
    not_yet = h.not_yet;
    none_other = h.none_other;
  }
  event_fits (event.Halt i) h = record {
    full = h.full;
    within = h.within;
    part = h.part;
    there = part_there l f s (event.Halt i) i h.part h.there;
    before_h = h.before_h;
  }

  -- an event that is enabled on what it sees is enabled on all cells
  pub whole_enabled : (e : Event) → IsEnabled l f (seen_by e s) e → IsEnabled l f (cells_in s) e
  whole_enabled e on = record { process = on.process; going = on.going; fits = event_fits e on.fits }

  -- it leaves what it makes of all cells
  pub whole_after : (e : Event) → IsEnabled l f (seen_by e s) e → cells_in (factored.after l f s e) ≡ cells_after l f (cells_in s) e
  whole_after e on = λ i. record {
    parts = λ n. whole_parts l f s e on n i;
    chans = λ n. whole_chans l f s e on n i;
    groups = λ n. whole_groups l f s e on n i;
  }
