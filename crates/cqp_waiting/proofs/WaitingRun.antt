-- The law of waiting parts: along each run those who wait stand ready, each once, and `ready` counts the others.
use Rattle.std.proofs.Common.{◌≡◌, ◌≢◌, ℕ, zero, suc, false, List, [], ◌∷◌, ◌+◌, ◌-◌, ◌≤◌, inl, inr, length, Option, Some, None, refl, sym, ap, arith, eq-eqb}
use Rattle.std.proofs.Common.{ne_eqb, ◌∙◌}
use mathlib.Core.Logic.{dite}
use native.Mathlib.Decide.{ℕ_discrete}
use Rattle.cqp_book.specs.Keys.{Store, find}
use Rattle.cqp_book.specs.Run.{front_from, store_from, RunsFrom, IsRun}
use Rattle.cqp_syntax.specs.Listing.{Listing, IsProc, root}
use Rattle.cqp_trace.specs.declared.deed.Deed.{Deed}
use Rattle.cqp_trace.specs.declared.deed.Deed.TheVariants as deed
use Rattle.cqp_cells.specs.Config.{flattened}
use Rattle.cqp_parts.specs.declared.part.Part.{Part}
use Rattle.cqp_machine.specs.declared.front.Front.{Front}
use Rattle.cqp_machine.specs.declared.event.Event.{Event}
use Rattle.cqp_machine.specs.declared.event.Event.TheVariants as event
use Rattle.cqp_machine.specs.declared.cell.Cell.{Cell}
use Rattle.cqp_parts.specs.Parts.{process_of_part, opening_parts}
use Rattle.cqp_machine.specs.Cells.{Channel, Cells, cells_in, with_at}
use Rattle.cqp_machine.specs.Fronts.{front_after, counts_of, opening_front}
use Rattle.cqp_machine.specs.Enabled.{FitsEvent, FitsStep, Moves}
use Rattle.cqp_machine.specs.After.{cells_after, channel_of, met_at, waits_as, direction_of}
use Rattle.cqp_machine.specs.Machine.{factored, part_pairs}
use Rattle.cqp_waiting.specs.Waiting.{WaitingLaw, OneListLaw, waiters}
use Rattle.cqp_cells.proofs.Options.{none_is_some, same_some}
use Rattle.cqp_local.proofs.PlacedLemmas.{with_at_in, with_at_out}
use Rattle.cqp_fresh.proofs.Fresh.{next_chan}
use Rattle.cqp_fresh.proofs.SoundStores.{IsSoundStore, sound_after, sound_run, sound_opening, length-opening}
use Rattle.cqp_local.proofs.WholeFits.{whole_enabled, whole_after}
use Rattle.cqp_steps.proofs.PartSums.{weight, opening_left}
use Rattle.cqp_machine.proofs.SumLemmas.{sum_within, sum_ones}
use Rattle.cqp_waiting.proofs.WaitingLists.{one_list, OldOrNew, lists_kept}
use Rattle.cqp_waiting.proofs.WaitingSteps.{one_each, living, total_ones, IsWithin, Waiting, ready_is, own_waits, own_ready, own_gone}
use Rattle.cqp_waiting.proofs.WaitingCom.{com_waits, com_ready, com_gone}
use Rattle.cqp_waiting.proofs.WaitingPark.{park_waits}

-- a new channel has none who waits
new_or_old : (c : Cells) (k : ℕ) → OldOrNew c.chans (with_at k (Some (channel_of false [])) c.chans)
new_or_old c k j y t = dite (ℕ_discrete j k)
    (λ (e : j ≡ k). inr (sym (same_some {x = (channel_of false [])} {y = y} (sym (with_at_in k j (Some (channel_of false [])) c.chans (eq-eqb j k e)) ∙ t))))
    (λ (e : j ≢ k). inl (sym (with_at_out k j (Some (channel_of false [])) c.chans (ne_eqb j k e)) ∙ t))

-- and takes the place of none
old_stays : (c : Cells) (k : ℕ) → c.chans k ≡ None → (j : ℕ) (y : Channel) → c.chans j ≡ Some y → with_at k (Some (channel_of false [])) c.chans j ≡ Some y
old_stays c k free j y t =
    with_at_out k j (Some (channel_of false [])) c.chans (ne_eqb j k (λ e. none_is_some {x = y} (sym free ∙ (sym (ap c.chans e) ∙ t)))) ∙ t

module _ (l : Listing) (f : Front) (c : Cells) (w : IsWithin f c) (h : Waiting l f c) where
  -- channels that stay
  same_or_old : OldOrNew c.chans c.chans
  same_or_old k y t = inl t

  -- each of them
  same_stays : (k : ℕ) (y : Channel) → c.chans k ≡ Some y → c.chans k ≡ Some y
  same_stays k y t = t

  -- the event of a step
  abbrev after_step : ℕ → ℕ → ℕ → ℕ → ℕ → ℕ → Deed → Event
  after_step i group made gone woke level d = event.Step (record { part = i; deed = d }) group made gone woke level

  -- the law behind an event
  abbrev StillWaiting : Event → Type 0
  StillWaiting e = Waiting l (front_after f e) (cells_after l f c e)

  -- the front behind a step
  abbrev then_front : ℕ → ℕ → ℕ → ℕ → ℕ → ℕ → Deed → Front
  then_front i group made gone woke level d = front_after f (after_step i group made gone woke level d)

  -- and the cells
  abbrev then_cells : ℕ → ℕ → ℕ → ℕ → ℕ → ℕ → Deed → Cells
  then_cells i group made gone woke level d = cells_after l f c (after_step i group made gone woke level d)

  -- none is woken
  none_woke : (made gone woke : ℕ) → woke ≡ 0 → f.ready + made + woke - gone ≡ f.ready + made + 0 - gone
  none_woke made gone woke idle = ap (λ n. f.ready + made + n - gone) idle

  -- a step keeps the law
  step_waits : (i group made gone woke level : ℕ) (d : Deed) → FitsStep l f c i d group made gone woke level
      → StillWaiting (after_step i group made gone woke level d)
  step_waits i group made gone woke level (deed.New k) x =
      let number : k ≡ f.chans = next_chan (counts_of f) (process_of_part l x.0.part) k x.0.process x.0.moves in
      own_waits l f c w h i made gone (deed.New k) x.0 (then_front i group made gone woke level (deed.New k))
      (then_cells i group made gone woke level (deed.New k)) refl (none_woke made gone woke x.1) (omega arith) refl
      (new_or_old c k) (old_stays c k (w.new_chans k (omega arith)))
  step_waits i group made gone woke level (deed.Com to chan) x =
      com_waits l f c w h i to chan made gone x.0 (then_cells i group made gone woke level (deed.Com to chan)) refl
      (record {
        was = x.0.channel_there;
        is = with_at_in chan chan (met_at i to (c.chans chan)) c.chans (eq-eqb chan chan refl) ∙ ap (met_at i to) x.0.channel_there;
        others = λ k other. with_at_out chan k (met_at i to (c.chans chan)) c.chans (ne_eqb k chan other);
      })
      (then_front i group made gone woke level (deed.Com to chan)) refl (ap (λ n. f.ready + made + n - gone) x.1) (omega arith)
  step_waits i group made gone woke level (deed.Qbit q) x =
      own_waits l f c w h i made gone (deed.Qbit q) x.0 (then_front i group made gone woke level (deed.Qbit q))
      (then_cells i group made gone woke level (deed.Qbit q)) refl (none_woke made gone woke x.1) (omega arith) refl same_or_old same_stays
  step_waits i group made gone woke level deed.Act x =
      own_waits l f c w h i made gone deed.Act x.0 (then_front i group made gone woke level deed.Act)
      (then_cells i group made gone woke level deed.Act) refl (none_woke made gone woke x.1) (omega arith) refl same_or_old same_stays
  step_waits i group made gone woke level (deed.Add v) x =
      own_waits l f c w h i made gone (deed.Add v) x.0 (then_front i group made gone woke level (deed.Add v))
      (then_cells i group made gone woke level (deed.Add v)) refl (none_woke made gone woke x.1) (omega arith) refl same_or_old same_stays
  step_waits i group made gone woke level (deed.Pick o) x =
      own_waits l f c w h i made gone (deed.Pick o) x.0 (then_front i group made gone woke level (deed.Pick o))
      (then_cells i group made gone woke level (deed.Pick o)) refl (none_woke made gone woke x.1) (omega arith) refl same_or_old same_stays
  step_waits i group made gone woke level (deed.Gate o qs) x =
      own_waits l f c w h i made gone (deed.Gate o qs) x.0 (then_front i group made gone woke level (deed.Gate o qs))
      (then_cells i group made gone woke level (deed.Gate o qs)) refl (none_woke made gone woke x.1) (omega arith) refl same_or_old same_stays
  step_waits i group made gone woke level (deed.Measure qs m) x =
      own_waits l f c w h i made gone (deed.Measure qs m) x.0 (then_front i group made gone woke level (deed.Measure qs m))
      (then_cells i group made gone woke level (deed.Measure qs m)) refl (none_woke made gone woke x.1) (omega arith) refl same_or_old same_stays
  step_waits i group made gone woke level (deed.If b) x =
      own_waits l f c w h i made gone (deed.If b) x.0 (then_front i group made gone woke level (deed.If b))
      (then_cells i group made gone woke level (deed.If b)) refl (none_woke made gone woke x.1) (omega arith) refl same_or_old same_stays

  -- an event that changes neither parts nor channels
  still : (g : Front) (e : Cells) → g.parts ≡ f.parts → g.ready ≡ f.ready → g.chans ≡ f.chans → e.parts ≡ c.parts → e.chans ≡ c.chans → Waiting l g e
  still g e parts ready chans same same_too = record {
    lists = lists_kept l c e h.lists (λ k y t. inl (sym (ap (λ m. m k) same_too) ∙ t)) (λ j y. ap (λ m. m j) same);
    count = rw (parts, ready, chans) (ap (λ m. f.ready + waiters f.parts f.chans (record e { chans = m })) same_too ∙ (h.count ∙ sym (ap
        (living l f.parts) same)));
  }

  -- each event keeps the law
  pub event_waits : (e : Event) → FitsEvent l f c e → StillWaiting e
  event_waits (event.Step e group made gone woke level) x = step_waits e.part group made gone woke level e.deed x
  event_waits (event.Join left right) x = still f (cells_after l f c (event.Join left right)) refl refl refl refl refl
  event_waits (event.Split group qs rest) x = still f (cells_after l f c (event.Split group qs rest)) refl refl refl refl refl
  event_waits (event.Halt i) x = still (front_after f (event.Halt i)) c refl refl refl refl refl
  event_waits (event.Park i chan) x =
      park_waits l f c w h i chan x (cells_after l f c (event.Park i chan)) refl
      (record {
        was = x.channel_there;
        is = with_at_in chan chan (waits_as i (direction_of l chan (c.parts i)) (c.chans chan)) c.chans (eq-eqb chan chan refl)
            ∙ rw (x.there, x.ready, x.channel_there) refl;
        others = λ k other. with_at_out chan k (waits_as i (direction_of l chan (c.parts i)) (c.chans chan)) c.chans (ne_eqb k chan other);
      })
      (front_after f (event.Park i chan)) refl refl refl

  -- no more parts are ready than were made
  pub ready_within : f.ready ≤ f.parts
  ready_within =
      let all = sum_within f.parts (λ i. weight l one_each (c.parts i)) (λ i. 1) (λ j t. at_most_one (c.parts j)) in
      let ones = sum_ones f.parts in
      let count = h.count in
      omega arith
    where
      at_most_one : (x : Option Part) → weight l one_each x ≤ 1
      at_most_one None = omega arith
      at_most_one (Some p) = omega arith

  -- a deed of its own wakes none, and ends at most one
  own_within : (i made gone woke : ℕ) (d : Deed) (x : Moves l f c (record { part = i; deed = d }) made gone) → woke ≡ 0 → (gone ≤ f.ready + woke) × (woke ≤ 1)
  own_within i made gone woke d x idle =
      let one = own_ready l f c w h i made gone d x in
      let few = own_gone l f c w h i made gone d x in
      (omega arith, omega arith)

  -- a step ends no more parts than are ready, made and woken
  pub gone_within : (i group made gone woke level : ℕ) (d : Deed) → FitsStep l f c i d group made gone woke level → (gone ≤ f.ready + woke) × (woke ≤ 1)
  gone_within i group made gone woke level (deed.Com to chan) x =
      let one = com_ready l f c w h i to chan made gone x.0 in
      let two = com_gone l f c w h i to chan made gone x.0 in
      let woken = x.1 in
      (omega arith, omega arith)
  gone_within i group made gone woke level (deed.New k) x = own_within i made gone woke (deed.New k) x.0 x.1
  gone_within i group made gone woke level (deed.Qbit q) x = own_within i made gone woke (deed.Qbit q) x.0 x.1
  gone_within i group made gone woke level deed.Act x = own_within i made gone woke deed.Act x.0 x.1
  gone_within i group made gone woke level (deed.Add v) x = own_within i made gone woke (deed.Add v) x.0 x.1
  gone_within i group made gone woke level (deed.Pick o) x = own_within i made gone woke (deed.Pick o) x.0 x.1
  gone_within i group made gone woke level (deed.Gate o qs) x = own_within i made gone woke (deed.Gate o qs) x.0 x.1
  gone_within i group made gone woke level (deed.Measure qs m) x = own_within i made gone woke (deed.Measure qs m) x.0 x.1
  gone_within i group made gone woke level (deed.If b) x = own_within i made gone woke (deed.If b) x.0 x.1

-- a store that keeps to the front has nothing beyond it
pub within_of : (f : Front) (s : Store Cell) → IsSoundStore f s → IsWithin f (cells_in s)
within_of f s k = record { new_parts = k.keeps.kept.new_parts; new_chans = k.keeps.kept.new_chans }

-- along a run
run_waits : (l : Listing) (f : Front) (s : Store Cell) (es : List Event) → RunsFrom factored l f s es → IsSoundStore f s → Waiting l f (cells_in s)
    → Waiting l (front_from factored l f es) (cells_in (store_from factored l f s es))
run_waits l f s [] run k h = h
run_waits l f s (e ∷ es) run k h =
    let one = event_waits l f (cells_in s) (within_of f s k) h e (whole_enabled l f s e run.0).fits in
    run_waits l (front_after f e) (factored.after l f s e) es run.1 (sound_after l f s e run.0 k) (rw (whole_after l f s e run.0) one)

-- at the opening none waits
no_waiters : (n : ℕ) (c : Cells) → waiters n 0 c ≡ 0
no_waiters zero c = refl
no_waiters (suc n) c = let e = no_waiters n c in omega arith

-- the opening keeps the law
pub opening_waits : (l : Listing) → IsProc l → Waiting l (opening_front l) (cells_in (find (part_pairs 0 (opening_parts l))))
opening_waits l sound =
    let c = cells_in (find (part_pairs 0 (opening_parts l))) in
    let none = (sound_opening l).keeps.kept.new_chans in
    let live : living l (opening_front l).parts (cells_in (find (part_pairs 0 (opening_parts l)))).parts ≡ length (flattened (root l)) =
    ap (λ n. living l n (cells_in (find (part_pairs 0 (opening_parts l)))).parts) (sym (length-opening l))
    ∙ (opening_left l one_each sound ∙ total_ones (flattened (root l))) in
    let free = no_waiters (length (flattened (root l))) (cells_in (find (part_pairs 0 (opening_parts l)))) in
    record {
      lists = record {
        stand = λ k x i t u. absurd (none_is_some {x = x} (sym (none k (omega arith)) ∙ t));
        once = λ k x t. absurd (none_is_some {x = x} (sym (none k (omega arith)) ∙ t));
        idle = λ k x t u. absurd (none_is_some {x = x} (sym (none k (omega arith)) ∙ t));
      };
      count = omega arith;
    }

-- after a run
pub waiting_after : (l : Listing) (es : List Event) → IsProc l → IsRun factored l es
    → Waiting l (front_from factored l (opening_front l) es) (cells_in (store_from factored l (opening_front l) (find (part_pairs 0 (opening_parts l))) es))
waiting_after l es sound run = run_waits l (opening_front l) (find (part_pairs 0 (opening_parts l))) es run (sound_opening l) (opening_waits l sound)

-- the law of waiting parts
pub waiting : WaitingLaw
waiting l es sound run =
    let h = waiting_after l es sound run in
    let k = sound_run l (opening_front l) (find (part_pairs 0 (opening_parts l))) es run (sound_opening l) in
    record {
      stand = h.lists.stand;
      once = h.lists.once;
      idle = h.lists.idle;
      ready = ready_is l (front_from factored l (opening_front l) es) (cells_in (store_from factored l (opening_front l) (find (part_pairs 0
          (opening_parts l))) es))
          (within_of _ _ k) h;
    }

-- so a part waits in one list at most
pub waits_once : OneListLaw
waits_once l es sound run i j k x y at_j at_k in_x in_y =
    one_list l _ (waiting_after l es sound run).lists i (record { chan = j; channel = x; there = at_j; waits = in_x })
    (record { chan = k; channel = y; there = at_k; waits = in_y })
