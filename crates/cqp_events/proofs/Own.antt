-- A run stays settled by a deed of one part, by joins and by splits.
use Rattle.std.proofs.Common.{◌≡◌, ◌≢◌, ℕ, ◌+◌, ◌<◌, ◌≤◌, [], ◌∷◌, ◌++◌, true, false, nat_lt, if◌then◌else◌, ◌==◌, Option, Some, None, ⊎_elim, refl, ap, sym, arith, ◌∙◌}
use Rattle.std.proofs.Common.{eq-eqb, ne_eqb}
use Rattle.std.proofs.lemmas.List.{append-nil}
use mathlib.Core.Logic.{dite}
use native.Mathlib.Decide.{ℕ_discrete}
use Rattle.std.proofs.lemmas.Bool.{cases_Bool, le-ltb, lt-ltb, ltb-false, ltb-true}
use Rattle.cqp_syntax.specs.Listing.{Listing}
use Rattle.cqp_syntax.specs.Trees.{Process}
use Rattle.cqp_trace.specs.declared.deed.Deed.{Deed}
use Rattle.cqp_trace.specs.declared.deed.Deed.TheVariants as deed
use Rattle.cqp_cells.specs.Examples.{by}
use Rattle.cqp_cells.specs.Moves.{moved}
use Rattle.cqp_fresh.proofs.Fresh.{next_chan}
use Rattle.cqp_fresh.proofs.SoundStores.{sound_opening}
use Rattle.cqp_meeting.specs.Meetings.{is_communication}
use Rattle.cqp_parts.specs.declared.part.Part.{Part}
use Rattle.cqp_parts.specs.Parts.{process_of_part, parts_after, more_than_one, one_if_none}
use Rattle.cqp_machine.specs.declared.event.Event.{Event}
use Rattle.cqp_machine.specs.declared.event.Event.TheVariants as event
use Rattle.cqp_machine.specs.declared.front.Front.{Front}
use Rattle.cqp_machine.specs.After.{chans_by, parts_by, placed, channel_of}
use Rattle.cqp_machine.specs.Cells.{Cells, Channel, with_at}
use Rattle.cqp_machine.specs.Enabled.{FitsGroups, FitsStep, Moves}
use Rattle.cqp_machine.specs.Fronts as fronts
use Rattle.cqp_machine.specs.Fronts.{counts_of, front_after}
use Rattle.cqp_machine.specs.Shown.{shown, front_of, cells_of}
use Rattle.cqp_events.specs.Laws.{JoinLaw, OpeningLaw, OwnLaw, SplitLaw}
use Rattle.cqp_events.specs.Settled.{idle_below, own_event}
use Rattle.cqp_events.proofs.Events.{event_law}

-- a number other than n is below n exactly where it is below n + 1
below_more : (n k : ℕ) → k ≢ n → nat_lt k n ≡ nat_lt k (n + 1)
below_more n k apart = ⊎_elim
    (λ (t : nat_lt k n ≡ true). t ∙ sym (lt-ltb k (n + 1) (omega (arith, ltb-true k n t))))
    (λ (t : nat_lt k n ≡ false).
    let least = ltb-false k n t in
    let over : n + 1 ≤ k = omega arith in
    t ∙ sym (le-ltb k (n + 1) over))
    (cases_Bool (nat_lt k n))

-- one channel more
one_more : (n k : ℕ) → (if k == n then Some (channel_of false []) else idle_below n k) ≡ idle_below (n + 1) k
one_more n k = dite (ℕ_discrete k n)
    (λ (e : k ≡ n).
    let below : k < n + 1 = omega arith in
    rw (eq-eqb k n e, lt-ltb k (n + 1) below) refl)
    (λ (e : k ≢ n). rw (ne_eqb k n e, below_more n k e) refl)

-- no channel more
no_more : (n k : ℕ) → idle_below n k ≡ idle_below (n + 0) k
no_more n k = let same : n ≡ n + 0 = omega arith in ap (λ m. idle_below m k) same

-- the channels are idle
abbrev AreIdle : ℕ → (ℕ → Option Channel) → Type 0
AreIdle n chans = (k : ℕ) → chans k ≡ idle_below n k

module _ (l : Listing) (f : Front) (c : Cells) (i : ℕ) (part : Part) (there : c.parts i ≡ Some part) where
  -- the deed as an event
  abbrev E : Deed → ℕ → ℕ → Event
  E d group level = own_event l part i d group level

  -- the part moves by the deed
  moves : (d : Deed) (p : Process) → moved (counts_of f) (process_of_part l part) d ≡ Some p
      → Moves l f c (by i d) (more_than_one (parts_after l part d)) (one_if_none (parts_after l part d))
  moves d p h = record { part = part; there = there; process = p; moves = h; makes = refl; ends = refl }

  -- so the event fits, where it fits the groups
  step_fits : (d : Deed) (p : Process) (group level : ℕ) → is_communication d ≡ false
      → moved (counts_of f) (process_of_part l part) d ≡ Some p → FitsGroups f c d group level
      → FitsStep l f c i d group (more_than_one (parts_after l part d)) (one_if_none (parts_after l part d)) 0 level
  step_fits (deed.Qbit q) p group level own h g = (moves (deed.Qbit q) p h, refl, g)
  step_fits (deed.New k) p group level own h g = (moves (deed.New k) p h, refl, g)
  step_fits deed.Act p group level own h g = (moves deed.Act p h, refl, g)
  step_fits (deed.Add v) p group level own h g = (moves (deed.Add v) p h, refl, g)
  step_fits (deed.Pick o) p group level own h g = (moves (deed.Pick o) p h, refl, g)
  step_fits (deed.Gate o qs) p group level own h g = (moves (deed.Gate o qs) p h, refl, g)
  step_fits (deed.Measure qs m) p group level own h g = (moves (deed.Measure qs m) p h, refl, g)
  step_fits (deed.If answer) p group level own h g = (moves (deed.If answer) p h, refl, g)
  step_fits (deed.Com to chan) p group level own h g = cc

  -- channels stay idle
  stay_idle : (d : Deed) (p : Process) → is_communication d ≡ false → moved (counts_of f) (process_of_part l part) d ≡ Some p
      → AreIdle f.chans c.chans → AreIdle (f.chans + fronts.chans_by d) (chans_by c i d)
  stay_idle (deed.New k) p own h idle j =
      let new = next_chan (counts_of f) (process_of_part l part) k p h in
      ap (λ n. with_at n (Some (channel_of false [])) c.chans j) new
      ∙ (ap (λ x. if j == f.chans then Some (channel_of false []) else x) (idle j) ∙ one_more f.chans j)
  stay_idle (deed.Qbit q) p own h idle j = idle j ∙ no_more f.chans j
  stay_idle deed.Act p own h idle j = idle j ∙ no_more f.chans j
  stay_idle (deed.Add v) p own h idle j = idle j ∙ no_more f.chans j
  stay_idle (deed.Pick o) p own h idle j = idle j ∙ no_more f.chans j
  stay_idle (deed.Gate o qs) p own h idle j = idle j ∙ no_more f.chans j
  stay_idle (deed.Measure qs m) p own h idle j = idle j ∙ no_more f.chans j
  stay_idle (deed.If answer) p own h idle j = idle j ∙ no_more f.chans j
  stay_idle (deed.Com to chan) p own h idle j = cc

  -- the parts that the deed leaves
  leaves : (d : Deed) (n : ℕ) → is_communication d ≡ false
      → parts_by l f c i d n ≡ placed i f.parts (parts_after l part d) c.parts n
  leaves (deed.Qbit q) n own = rw there refl
  leaves (deed.New k) n own = rw there refl
  leaves deed.Act n own = rw there refl
  leaves (deed.Add v) n own = rw there refl
  leaves (deed.Pick o) n own = rw there refl
  leaves (deed.Gate o qs) n own = rw there refl
  leaves (deed.Measure qs m) n own = rw there refl
  leaves (deed.If answer) n own = rw there refl
  leaves (deed.Com to chan) n own = cc

-- the opening has no channel
pub opening_law : OpeningLaw
opening_law l sound = record {
  process = sound;
  run = tt;
  going = refl;
  idle = λ k. (sound_opening l).keeps.kept.new_chans k (omega arith) ∙ sym (none_yet k);
}
  where
    none_yet : (k : ℕ) → idle_below 0 k ≡ None
    none_yet k = let least : 0 ≤ k = omega arith in rw (le-ltb k 0 least) refl

-- a deed of one part
pub own_law : OwnLaw
own_law l es i d group level part p x own there h g =
    let f = front_of l es in
    let c = cells_of l es in
    let e = own_event l part i d group level in
    let fits = step_fits l f c i part there d p group level own h g in
    let on = event_law l es e x.run (record { process = x.process; going = x.going; fits = fits }) in
    let idle = stay_idle l f c i part there d p own h x.idle in
    let front : (g : Front → ℕ) → g (front_of l (es ++ e ∷ [])) ≡ g (front_after f e) = λ g. ap g on.front in
    record {
      settled = record {
        process = x.process;
        run = on.run;
        going = ap (λ (z : Front). z.stopped) on.front ∙ x.going;
        idle = λ k. ap (λ (z : Cells). z.chans k) on.cells ∙ (idle k ∙ sym (ap (λ n. idle_below n k) (front (λ z. z.chans))));
      };
      shows = on.shows;
      parts = λ n. ap (λ (z : Cells). z.parts n) on.cells ∙ leaves l f c i part there d n own;
      groups = ap (λ (z : Cells). z.groups) on.cells;
      part_count = front (λ z. z.parts);
      qubit_count = front (λ z. z.qubits);
      chan_count = front (λ z. z.chans);
      turn_count = front (λ z. z.turns);
    }

-- a join
pub join_law : JoinLaw
join_law l es left right x may =
    let e = event.Join left right in
    let on = event_law l es e x.run (record { process = x.process; going = x.going; fits = may }) in
    record {
      settled = record {
        process = x.process;
        run = on.run;
        going = ap (λ (z : Front). z.stopped) on.front ∙ x.going;
        idle = λ k. ap (λ (z : Cells). z.chans k) on.cells ∙ (x.idle k ∙ sym (ap (λ (z : Front). idle_below z.chans k) on.front));
      };
      shows = on.shows ∙ append-nil (shown es);
      parts = ap (λ (z : Cells). z.parts) on.cells;
      groups = ap (λ (z : Cells). z.groups) on.cells;
      front = on.front;
    }

-- a split
pub split_law : SplitLaw
split_law l es group rest qs x may =
    let e = event.Split group qs rest in
    let on = event_law l es e x.run (record { process = x.process; going = x.going; fits = may }) in
    record {
      settled = record {
        process = x.process;
        run = on.run;
        going = ap (λ (z : Front). z.stopped) on.front ∙ x.going;
        idle = λ k. ap (λ (z : Cells). z.chans k) on.cells ∙ (x.idle k ∙ sym (ap (λ (z : Front). idle_below z.chans k) on.front));
      };
      shows = on.shows ∙ append-nil (shown es);
      parts = ap (λ (z : Cells). z.parts) on.cells;
      groups = ap (λ (z : Cells). z.groups) on.cells;
      front = on.front;
    }
