-- An event that is enabled on all cells of a store is enabled on what it sees.
use Rattle.std.proofs.Common.{◌≡◌, ℕ, true, List, [], ◌∷◌, ◌==◌, refl, ap, ◌∙◌, eq-eqb}
use Rattle.std.proofs.lemmas.Bool.{or_right}
use Rattle.cqp_book.specs.Keys.{has, Store}
use Rattle.cqp_syntax.specs.Listing.{Listing}
use Rattle.cqp_trace.specs.declared.deed.Deed.{Deed}
use Rattle.cqp_trace.specs.declared.deed.Deed.TheVariants as deed
use Rattle.cqp_machine.specs.declared.front.Front.{Front}
use Rattle.cqp_machine.specs.declared.event.Event.{Event}
use Rattle.cqp_machine.specs.declared.event.Event.TheVariants as event
use Rattle.cqp_machine.specs.declared.cell.Cell.{Cell}
use Rattle.cqp_machine.specs.Factors.{Held, gated, measured}
use Rattle.cqp_machine.specs.Cells.{cells_in}
use Rattle.cqp_machine.specs.Touched.{chans_needed, groups_needed, partners_of, parts_needed}
use Rattle.cqp_machine.specs.Enabled.{ActsOn, FitsEvent, FitsStep, IsEnabled, Moves, is_outcome_in}
use Rattle.cqp_machine.specs.Machine.{seen_by}
use Rattle.cqp_local.proofs.StoreLemmas.{seen_chan, seen_group, seen_part}

-- the first key of a list is in it
first_in : (n : ℕ) (ks : List ℕ) → has n (n ∷ ks) ≡ true
first_in n ks = rw (eq-eqb n n refl) refl

-- and so is the second
second_in : (m n : ℕ) (ks : List ℕ) → has n (m ∷ n ∷ ks) ≡ true
second_in m n ks = rw (eq-eqb n n refl) (or_right (n == m) true refl)

module _ (l : Listing) (f : Front) (s : Store Cell) where
  module _ (e : Event) where
    -- a part that the event needs is seen
    part_seen : (n : ℕ) → has n (parts_needed e) ≡ true → (seen_by e s).parts n ≡ (cells_in s).parts n
    part_seen n h = seen_part s e n ∙ rw h refl

    -- so is a channel
    chan_seen : (n : ℕ) → has n (chans_needed e) ≡ true → (seen_by e s).chans n ≡ (cells_in s).chans n
    chan_seen n h = seen_chan s e n ∙ rw h refl

    -- and a group
    group_seen : (n : ℕ) → has n (groups_needed e) ≡ true → (seen_by e s).groups n ≡ (cells_in s).groups n
    group_seen n h = seen_group s e n ∙ rw h refl

  module _ (i group made gone woke level : ℕ) where
    -- the step of this part
    abbrev E : Deed → Event
    E d = event.Step (record { part = i; deed = d }) group made gone woke level

    -- a part that moves is seen to move
    moves_seen : (d : Deed) → Moves l f (cells_in s) (record { part = i; deed = d }) made gone
        → Moves l f (seen_by (E d) s) (record { part = i; deed = d }) made gone
    moves_seen d m = record {
      part = m.part;
      there = part_seen (E d) i (first_in i (partners_of d)) ∙ m.there;
      process = m.process;
      moves = m.moves;
      makes = m.makes;
      ends = m.ends;
    }

    -- a group that is needed and acted on is seen to be
    acts_seen : (d : Deed) (qs : List ℕ) (F : Held → Held) → has group (groups_needed (E d)) ≡ true
        → ActsOn f (cells_in s) group qs F level → ActsOn f (seen_by (E d) s) group qs F level
    acts_seen d qs F needed a = record {
      before = a.before;
      there = group_seen (E d) group needed ∙ a.there;
      has = a.has;
      nothing_due = a.nothing_due;
      level_is = a.level_is;
    }

    -- a step that fits all cells fits what it sees
    step_seen : (d : Deed) → FitsStep l f (cells_in s) i d group made gone woke level
        → FitsStep l f (seen_by (E d) s) i d group made gone woke level
    step_seen (deed.Qbit q) h = (moves_seen (deed.Qbit q) h.0, h.1, h.2)
    step_seen (deed.New c) h = (moves_seen (deed.New c) h.0, h.1, h.2)
    step_seen deed.Act h = (moves_seen deed.Act h.0, h.1, h.2)
    step_seen (deed.Add v) h = (moves_seen (deed.Add v) h.0, h.1, h.2)
    step_seen (deed.Pick o) h = (moves_seen (deed.Pick o) h.0, h.1, h.2)
    step_seen (deed.If answer) h = (moves_seen (deed.If answer) h.0, h.1, h.2)
    step_seen (deed.Gate o qs) h =
        let needed = first_in group [] in
        (moves_seen (deed.Gate o qs) h.0, h.1, (acts_seen (deed.Gate o qs) qs (gated o qs) needed h.2.0, h.2.1))
    step_seen (deed.Measure qs m) h =
        let d = deed.Measure qs m in
        let needed = first_in group [] in
        let likely = ap (λ g. is_outcome_in g qs m) (group_seen (E d) group needed) ∙ h.2.1 in
        (moves_seen d h.0, h.1, (acts_seen d qs (measured qs m) needed h.2.0, likely))
    step_seen (deed.Com to chan) h =
        let m = h.0 in
        let e = E (deed.Com to chan) in (
          record {
            sender = m.sender;
            sender_there = part_seen e i (first_in i (to ∷ [])) ∙ m.sender_there;
            receiver = m.receiver;
            receiver_there = part_seen e to (second_in i to []) ∙ m.receiver_there;
            channel = m.channel;
            channel_there = chan_seen e chan (first_in chan []) ∙ m.channel_there;
            one_waits = m.one_waits;
            sending = m.sending;
            sends = m.sends;
            process = m.process;
            receives = m.receives;
            makes = m.makes;
            ends = m.ends;
          },
          h.1,
          h.2,
          h.3,
        )

  -- what fits all cells fits what is seen
  event_seen : (e : Event) → FitsEvent l f (cells_in s) e → FitsEvent l f (seen_by e s) e
  event_seen (event.Step e group made gone woke level) h = step_seen e.part group made gone woke level e.deed h
  event_seen (event.Join left right) h =
      let e = event.Join left right in
      record {
        apart = h.apart;
        first = h.first;
        first_there = group_seen e left (first_in left (right ∷ [])) ∙ h.first_there;
        first_due = h.first_due;
        second = h.second;
        second_there = group_seen e right (second_in left right []) ∙ h.second_there;
        second_due = h.second_due;
      }
  event_seen (event.Split group qs rest) h =
      record {
        before = h.before;
        there = group_seen (event.Split group qs rest) group (first_in group []) ∙ h.there;
        some = h.some;
        are_due = h.are_due;
        rest_is = h.rest_is;
      }
  event_seen (event.Park i chan) h =
      let e = event.Park i chan in
      record {
        part = h.part;
        there = part_seen e i (first_in i []) ∙ h.there;
        channel = h.channel;
        channel_there = chan_seen e chan (first_in chan []) ∙ h.channel_there;
        outward = h.outward;
        ready = h.ready;
        not_yet = h.not_yet;
        none_other = h.none_other;
      }
  event_seen (event.Halt i) h =
      record {
        full = h.full;
        within = h.within;
        part = h.part;
        there = part_seen (event.Halt i) i (first_in i []) ∙ h.there;
        before_h = h.before_h;
      }

  -- so an event that is enabled is seen to be
  pub enabled_seen : (e : Event) → IsEnabled l f (cells_in s) e → IsEnabled l f (seen_by e s) e
  enabled_seen e h = record { process = h.process; going = h.going; fits = event_seen e h.fits }
