-- What the front counts is small along each run, so that code can count it.
use Rattle.std.proofs.Common.{◌≡◌, false, List, [], ◌∷◌, ◌++◌, ◌≤◌, refl, sym, ap, subst, arith, ◌∙◌}
use Rattle.cqp_book.specs.Keys.{Store, find}
use Rattle.cqp_book.specs.Run.{front_from, store_from, RunsFrom, IsRun, cell_after}
use Rattle.cqp_syntax.specs.Listing.{Listing, IsProc, root}
use Rattle.cqp_trace.specs.declared.deed.Deed.{Deed}
use Rattle.cqp_trace.specs.declared.deed.Deed.TheVariants as deed
use Rattle.cqp_machine.specs.declared.front.Front.{Front}
use Rattle.cqp_machine.specs.declared.event.Event.{Event}
use Rattle.cqp_machine.specs.declared.event.Event.TheVariants as event
use Rattle.cqp_machine.specs.declared.cell.Cell.{Cell}
use Rattle.cqp_parts.specs.Parts.{opening_parts}
use Rattle.cqp_machine.specs.Cells.{Cells}
use Rattle.cqp_machine.specs.Fronts.{turns_by, opening_front, front_after as front_behind}
use Rattle.cqp_machine.specs.Enabled.{FitsEvent}
use Rattle.cqp_machine.specs.Machine.{factored, part_pairs}
use Rattle.cqp_syntax.specs.Measures.{size}
use Rattle.cqp_machine.specs.Shown.{front_of, cells_of}
use Rattle.cqp_short.specs.Bounds.{IsSmall, HasReady, CountsLaw}
use Rattle.cqp_fresh.proofs.SoundStores.{sound_run, sound_opening}
use Rattle.cqp_local.proofs.WholeFits.{whole_enabled}
use Rattle.cqp_steps.proofs.Potentials.{total-flattened}
use Rattle.cqp_steps.proofs.Falls.{CountsAlong, within_after}
use Rattle.cqp_short.proofs.SizeFalls.{size_by, size_falls, size_adds}
use Rattle.cqp_steps.proofs.Making.{making}
use Rattle.cqp_short.proofs.Pars.{parts_within}
use Rattle.cqp_short.proofs.NodeBounds.{has_few}
use Rattle.cqp_waiting.proofs.WaitingSteps.{IsWithin, Waiting}
use Rattle.cqp_waiting.proofs.WaitingPark.{park_ready}
use Rattle.cqp_waiting.proofs.WaitingRun.{within_of, waiting_after, ready_within, gone_within}

-- a measurement is a step
turns_of_steps : (d : Deed) → turns_by d ≤ size_by d
turns_of_steps (deed.Qbit q) = omega arith
turns_of_steps (deed.New k) = omega arith
turns_of_steps deed.Act = omega arith
turns_of_steps (deed.Add v) = omega arith
turns_of_steps (deed.Pick o) = omega arith
turns_of_steps (deed.Gate o qs) = omega arith
turns_of_steps (deed.Measure qs m) = omega arith
turns_of_steps (deed.If b) = omega arith
turns_of_steps (deed.Com to k) = omega arith

-- so there are no more measurements than steps
turns_count : (l : Listing) (sound : IsProc l) → CountsAlong l sound size false size_by 1 size_falls (λ f. f.turns)
turns_count l sound = record {
  steps = λ f e group made gone woke level. let few = turns_of_steps e.deed in omega arith;
  parks = λ f i k. refl;
  halts = λ f i. refl;
}

-- the front of a run is small
pub small_after : (l : Listing) (es : List Event) → IsProc l → IsRun factored l es → IsSmall (front_of l es)
small_after l es sound run =
    let few = has_few l sound in
    let needed = few.need in
    let chans = few.chans in
    let pars = few.pars in
    let few_nodes = few.size in
    let made = making l es sound run in
    let qubits_made = made.qubits in
    let chans_made = made.chans in
    let parts = parts_within l es sound run in
    let turns = within_after l sound size false size_by 1 size_falls (λ f. f.turns) (turns_count l sound) es run in
    let all = total-flattened size size_adds (root l) in
    let k = sound_run l (opening_front l) (find (part_pairs 0 (opening_parts l))) es run (sound_opening l) in
    record {
      parts = omega arith;
      qubits = omega arith;
      chans = omega arith;
      turns = omega arith;
      ready = ready_within l (front_of l es) (cells_of l es) (within_of _ _ k) (waiting_after l es sound run);
    }

-- one event more
pub run_more : (l : Listing) (f : Front) (s : Store Cell) (es : List Event) (e : Event) → RunsFrom factored l f s es
    → factored.Enabled l (front_from factored l f es) (store_from factored l f s es) e → RunsFrom factored l f s (es ++ e ∷ [])
run_more l f s [] e run on = (on, tt)
run_more l f s (x ∷ es) e run on = (run.0, run_more l (factored.next f x) (factored.after l f s x) es e run.1 on)

-- the front behind it
front_more : (l : Listing) (f : Front) (es : List Event) (e : Event) → front_from factored l f (es ++ e ∷ []) ≡ factored.next (front_from factored l f es) e
front_more l f [] e = refl
front_more l f (x ∷ es) e = front_more l (factored.next f x) es e

-- who is ready, at an event
ready_at : (l : Listing) (f : Front) (c : Cells) → IsWithin f c → Waiting l f c → (e : Event) → FitsEvent l f c e → HasReady f e
ready_at l f c w h (event.Step e group made gone woke level) x = gone_within l f c w h e.part group made gone woke level e.deed x
ready_at l f c w h (event.Park i chan) x = park_ready l f c w h i chan x
ready_at l f c w h (event.Join left right) x = tt
ready_at l f c w h (event.Split group qs rest) x = tt
ready_at l f c w h (event.Halt i) x = tt

-- where an event may advance a front, all that is so
pub advances : CountsLaw
advances f e x =
    let l = x.opening in
    let es = x.history in
    let s = find (part_pairs 0 (opening_parts x.opening)) in
    let k = sound_run x.opening (opening_front x.opening) (find (part_pairs 0 (opening_parts x.opening))) x.history x.run (sound_opening x.opening) in
    let on = whole_enabled x.opening (front_of x.opening x.history) (cell_after factored x.opening x.history) e x.enabled in
    let sound : IsProc x.opening = on.process in
    let more : IsRun factored x.opening (x.history ++ e ∷ []) =
    run_more x.opening (opening_front x.opening) (find (part_pairs 0 (opening_parts x.opening))) x.history e x.run x.enabled in
    let last : front_of x.opening (x.history ++ e ∷ []) ≡ front_behind f e =
    front_more x.opening (opening_front x.opening) x.history e ∙ ap (λ g. front_behind g e) (sym x.front) in
    record {
      before = subst IsSmall (sym x.front) (small_after x.opening x.history sound x.run);
      behind = subst IsSmall last (small_after x.opening (x.history ++ e ∷ []) sound more);
      ready = subst (λ g. HasReady g e) (sym x.front)
          (ready_at x.opening (front_of x.opening x.history) (cells_of x.opening x.history) (within_of _ _ k)
          (waiting_after x.opening x.history sound x.run) e on.fits);
    }
