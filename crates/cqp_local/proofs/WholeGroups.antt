-- What an enabled event leaves of channels and groups is what it makes of all of them.
use Rattle.std.proofs.Common.{◌≡◌, ℕ, false, List, ◌==◌, ◌||◌, if◌then◌else◌, Some, refl, sym, ap, ◌∙◌}
use Rattle.cqp_book.specs.Keys.{has, Store}
use Rattle.cqp_syntax.specs.Listing.{Listing}
use Rattle.cqp_trace.specs.declared.deed.Deed.{Deed}
use Rattle.cqp_trace.specs.declared.deed.Deed.TheVariants as deed
use Rattle.cqp_machine.specs.declared.front.Front.{Front}
use Rattle.cqp_machine.specs.declared.event.Event.{Event}
use Rattle.cqp_machine.specs.declared.event.Event.TheVariants as event
use Rattle.cqp_machine.specs.declared.cell.Cell.{Cell}
use Rattle.cqp_machine.specs.Factors.{Held, gated, measured}
use Rattle.cqp_machine.specs.Cells.{Channel, cells_in, with_at}
use Rattle.cqp_machine.specs.Touched.{chans_needed, groups_needed}
use Rattle.cqp_machine.specs.Enabled.{IsEnabled, FitsStep, ActsOn}
use Rattle.cqp_machine.specs.After.{cells_after, chans_by, groups_by, becomes, met_at}
use Rattle.cqp_machine.specs.Machine.{seen_by, factored}
use Rattle.cqp_local.proofs.StoreLemmas.{chan_touched, group_touched, after_chan, after_group, seen_chan, seen_group, is_there}
use Rattle.cqp_local.proofs.WholeLemmas.{part_there}
use Rattle.cqp_local.proofs.GroupMaps.{beside, beside_not, one_at, needed_in, needed_out, two_become, joined_at, split_at}

module _ (l : Listing) (f : Front) (s : Store Cell) where
  -- what an event sees is there
  pub chan_there : (e : Event) (n : ℕ) (c : Channel) → (seen_by e s).chans n ≡ Some c → (cells_in s).chans n ≡ Some c
  chan_there e n c h = is_there (has n (chans_needed e)) ((cells_in s).chans n) ((seen_by e s).chans n) c (seen_chan s e n) h

  -- a group that is seen is there
  pub group_there : (e : Event) (n : ℕ) (g : Held) → (seen_by e s).groups n ≡ Some g → (cells_in s).groups n ≡ Some g
  group_there e n g h = is_there (has n (groups_needed e)) ((cells_in s).groups n) ((seen_by e s).groups n) g (seen_group s e n) h

  -- both have the same there
  chan_same : (e : Event) (n : ℕ) (c : Channel) → (seen_by e s).chans n ≡ Some c → (seen_by e s).chans n ≡ (cells_in s).chans n
  chan_same e n c h = h ∙ sym (chan_there e n c h)

  -- the same of a group
  group_same : (e : Event) (n : ℕ) (g : Held) → (seen_by e s).groups n ≡ Some g → (seen_by e s).groups n ≡ (cells_in s).groups n
  group_same e n g h = h ∙ sym (group_there e n g h)

  module _ (i group made gone woke level : ℕ) where
    -- the step of this part
    abbrev E : Deed → Event
    E d = event.Step (record { part = i; deed = d }) group made gone woke level

    -- the choice that a step's store makes for a number of a channel, and of a group
    abbrev StepChans : Deed → ℕ → Type 0
    StepChans d n = (if chan_touched (E d) n then chans_by (seen_by (E d) s) i d n else (cells_in s).chans n) ≡ chans_by (cells_in s) i d n

    -- a step leaves of each channel what it makes of it
    step_chans : (d : Deed) → FitsStep l f (seen_by (E d) s) i d group made gone woke level → (n : ℕ) → StepChans d n
    step_chans (deed.Qbit q) fits n = refl
    step_chans (deed.New c) fits n =
        one_at (seen_by (E (deed.New c)) s).chans (cells_in s).chans c n _ _ ((n == c) || false) (beside (n == c)) (beside_not (n == c)) refl
    step_chans deed.Act fits n = refl
    step_chans (deed.Add v) fits n = refl
    step_chans (deed.Pick o) fits n = refl
    step_chans (deed.Gate o qs) fits n = refl
    step_chans (deed.Measure qs m) fits n = refl
    step_chans (deed.If answer) fits n = refl
    step_chans (deed.Com to chan) fits n =
        one_at (seen_by (E (deed.Com to chan)) s).chans (cells_in s).chans chan n _ _ (((n == chan) || false) || false) (needed_in (n == chan))
        (needed_out (n == chan))
        (ap (met_at i to) (chan_same (E (deed.Com to chan)) chan fits.0.channel fits.0.channel_there))

    -- the same for a group
    abbrev StepGroups : Deed → ℕ → Type 0
    StepGroups d n =
        (if group_touched (E d) n then groups_by (seen_by (E d) s) d group n else (cells_in s).groups n) ≡ groups_by (cells_in s) d group n

    -- a gate or a measurement leaves the changed group in its place
    acts_at : (d : Deed) (F : Held → Held) (qs : List ℕ) → ActsOn f (seen_by (E d) s) group qs F level → (n : ℕ)
        →
        (if (((n == group) || false) || false) then with_at group (becomes F ((seen_by (E d) s).groups group)) (seen_by (E d) s).groups n else
        (cells_in s).groups n)
        ≡ with_at group (becomes F ((cells_in s).groups group)) (cells_in s).groups n
    acts_at d F qs a n =
        one_at (seen_by (E d) s).groups (cells_in s).groups group n _ _ (((n == group) || false) || false) (needed_in (n == group)) (needed_out (n == group))
        (ap (becomes F) (group_same (E d) group a.before a.there))

    -- a step leaves of each group what it makes of it
    step_groups : (d : Deed) → FitsStep l f (seen_by (E d) s) i d group made gone woke level → (n : ℕ) → StepGroups d n
    step_groups (deed.Qbit q) fits n =
        one_at (seen_by (E (deed.Qbit q)) s).groups (cells_in s).groups q n _ _ ((n == q) || false) (beside (n == q)) (beside_not (n == q)) refl
    step_groups (deed.New c) fits n = refl
    step_groups deed.Act fits n = refl
    step_groups (deed.Add v) fits n = refl
    step_groups (deed.Pick o) fits n = refl
    step_groups (deed.Gate o qs) fits n = acts_at (deed.Gate o qs) (gated o qs) qs fits.2.0 n
    step_groups (deed.Measure qs m) fits n = acts_at (deed.Measure qs m) (measured qs m) qs fits.2.0 n
    step_groups (deed.If answer) fits n = refl
    step_groups (deed.Com to chan) fits n = refl

  -- the channels that an event leaves
  pub whole_chans : (e : Event) → IsEnabled l f (seen_by e s) e → (n : ℕ)
      → (cells_in (factored.after l f s e)).chans n ≡ (cells_after l f (cells_in s) e).chans n
  whole_chans (event.Step e group made gone woke level) on n =
      after_chan l f s (event.Step e group made gone woke level) n ∙ step_chans e.part group made gone woke level e.deed on.fits n
  whole_chans (event.Park i chan) on n =
      let e = event.Park i chan in
      let part = on.fits.there ∙ sym (part_there l f s (event.Park i chan) i on.fits.part on.fits.there) in
      let channel = chan_same (event.Park i chan) chan on.fits.channel on.fits.channel_there in
      after_chan l f s (event.Park i chan) n
      ∙ one_at (seen_by (event.Park i chan) s).chans (cells_in s).chans chan n _ _ (((n == chan) || false) || false) (needed_in (n == chan))
      (needed_out (n == chan))
      (rw (part, channel) refl)
  whole_chans (event.Halt i) on n = after_chan l f s (event.Halt i) n
  whole_chans (event.Join left right) on n = after_chan l f s (event.Join left right) n
  whole_chans (event.Split group qubits rest) on n = after_chan l f s (event.Split group qubits rest) n

  -- the groups that an event leaves
  pub whole_groups : (e : Event) → IsEnabled l f (seen_by e s) e → (n : ℕ)
      → (cells_in (factored.after l f s e)).groups n ≡ (cells_after l f (cells_in s) e).groups n
  whole_groups (event.Step e group made gone woke level) on n =
      after_group l f s (event.Step e group made gone woke level) n ∙ step_groups e.part group made gone woke level e.deed on.fits n
  whole_groups (event.Park i chan) on n = after_group l f s (event.Park i chan) n
  whole_groups (event.Halt i) on n = after_group l f s (event.Halt i) n
  whole_groups (event.Join left right) on n =
      after_group l f s (event.Join left right) n
      ∙ joined_at left right n (seen_by (event.Join left right) s).groups (cells_in s).groups _ _
      (two_become _ _ _ _ on.fits.first on.fits.second on.fits.first_there (group_there (event.Join left right) left on.fits.first on.fits.first_there)
      on.fits.second_there (group_there (event.Join left right) right on.fits.second on.fits.second_there))
  whole_groups (event.Split group qubits rest) on n =
      let e = event.Split group qubits rest in
      let there = group_there (event.Split group qubits rest) group on.fits.before on.fits.there in
      after_group l f s (event.Split group qubits rest) n
      ∙ rw (on.fits.there, there)
      (split_at group qubits rest on.fits.before on.fits.rest_is (seen_by (event.Split group qubits rest) s).groups (cells_in s).groups n)
