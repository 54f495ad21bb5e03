-- A run has at most 13 events for each node that may be reduced, and one that stops it.
use Rattle.std.proofs.Common.{◌≡◌, ℕ, true, false, Bool, List, [], ◌∷◌, ◌+◌, ◌*◌, ◌≤◌, length, Some, refl, sym, ap, arith, ◌∙◌, ⊎_elim}
use Rattle.std.proofs.lemmas.Bool.{cases_Bool}
use Rattle.cqp_book.specs.Keys.{Store, find}
use Rattle.cqp_book.specs.Run.{front_from, store_from, RunsFrom}
use Rattle.cqp_syntax.specs.Trees.{Process, input, output}
use Rattle.cqp_syntax.specs.Listing.{Listing, IsProc, root}
use Rattle.cqp_machine.specs.declared.front.Front.{Front}
use Rattle.cqp_machine.specs.declared.front.Stop.{Stop}
use Rattle.cqp_machine.specs.declared.front.Stop.TheVariants as stop
use Rattle.cqp_machine.specs.declared.event.Event.{Event}
use Rattle.cqp_machine.specs.declared.cell.Cell.{Cell}
use Rattle.cqp_parts.specs.Parts.{process_of_part, opening_parts}
use Rattle.cqp_machine.specs.Cells.{Cells, cells_in}
use Rattle.cqp_machine.specs.Fronts.{front_after, opening_front}
use Rattle.cqp_machine.specs.Enabled.{waits_for}
use Rattle.cqp_machine.specs.After.{cells_after}
use Rattle.cqp_machine.specs.Machine.{factored, part_pairs}
use Rattle.cqp_syntax.specs.Measures.{size, need}
use Rattle.cqp_waiting.specs.Waiting.{is_parked, one_if, waiters}
use Rattle.cqp_machine.specs.Shown.{front_of, cells_of}
use Rattle.cqp_short.specs.Spent.{one_if_stopped, nodes_left, left_to_pay, PayingLaw, ShortLaw}
use Rattle.cqp_cells.proofs.Options.{none_is_some}
use Rattle.cqp_fresh.proofs.SoundStores.{IsSoundStore, sound_after, sound_opening, length-opening}
use Rattle.cqp_local.proofs.WholeFits.{whole_enabled, whole_after}
use Rattle.cqp_steps.proofs.Potentials.{made_by, need_measures, need_adds, total-flattened}
use Rattle.cqp_steps.proofs.PartSums.{weight, left, opening_left}
use Rattle.cqp_steps.proofs.Falls.{together, event_within}
use Rattle.cqp_steps.proofs.Making.{need_falls, need_counts}
use Rattle.cqp_short.proofs.SizeFalls.{size_adds}
use Rattle.cqp_machine.proofs.SumLemmas.{sum_within}
use Rattle.cqp_waiting.proofs.ParkedLemmas.{parked_there}
use Rattle.cqp_waiting.proofs.WaitingLists.{parked_ready}
use Rattle.cqp_waiting.proofs.WaitingSteps.{Waiting}
use Rattle.cqp_waiting.proofs.WaitingRun.{event_waits, within_of, opening_waits, waiting_after}
use Rattle.cqp_short.proofs.Paying.{event_pays}

-- what the events so far, what is left to pay and those who wait come to
abbrev owed : Listing → Front → Cells → ℕ
owed l f c = waiters f.parts f.chans c + one_if_stopped f.stopped

-- the qubits that were made and are left to make
abbrev need_left : (l : Listing) → IsProc l → Front → Cells → ℕ
need_left l sound f c = together l sound need false (made_by need 1 0 need_measures) 0 need_falls (λ f. f.qubits) (need_counts l sound) f c

-- along a run
run_pays : (l : Listing) (sound : IsProc l) (f : Front) (s : Store Cell) (es : List Event) → RunsFrom factored l f s es → IsSoundStore f s
    → Waiting l f (cells_in s)
    → need_left l sound f (cells_in s) ≤ 12
    → length es + left_to_pay l (front_from factored l f es) (cells_in (store_from factored l f s es)) + owed l f (cells_in s)
    ≤ left_to_pay l f (cells_in s) + owed l (front_from factored l f es) (cells_in (store_from factored l f s es))
run_pays l sound f s [] run k h few = omega arith
run_pays l sound f s (e ∷ es) run k h few =
    let on = whole_enabled l f s e run.0 in
    let c = cells_in s in
    let one = event_pays l sound f (cells_in s) (within_of f s k) h k.keeps.own k.keeps.kept.groups e on.going (omega arith) on.fits in
    let kept = event_waits l f (cells_in s) (within_of f s k) h e on.fits in
    let within = event_within l sound need false (made_by need 1 0 need_measures) 0 need_falls (λ f. f.qubits) (need_counts l sound) f (cells_in s) e
    k.keeps.kept.new_parts on.fits in
    let same : cells_in (factored.after l f s e) ≡ cells_after l f (cells_in s) e = whole_after l f s e run.0 in
    let need : need_left l sound (front_after f e) (cells_in (factored.after l f s e)) ≡ need_left l sound (front_after f e) (cells_after l f (cells_in s) e) =
    ap (need_left l sound (front_after f e)) same in
    let pay : left_to_pay l (front_after f e) (cells_in (factored.after l f s e)) ≡ left_to_pay l (front_after f e) (cells_after l f (cells_in s) e) =
    ap (left_to_pay l (front_after f e)) same in
    let owe : owed l (front_after f e) (cells_in (factored.after l f s e)) ≡ owed l (front_after f e) (cells_after l f (cells_in s) e) =
    ap (owed l (front_after f e)) same in
    let later = run_pays l sound (front_after f e) (factored.after l f s e) es run.1 (sound_after l f s e run.0 k) (rw same kept) (omega arith) in
    omega arith

-- at the opening there are no groups, and all nodes are left
no_groups : (l : Listing) (f : Front) (c : Cells) → f.qubits ≡ 0 → left_to_pay l f c ≡ 13 * nodes_left l f.parts c
no_groups l f c e = rw e (omega arith)

module _ (l : Listing) (sound : IsProc l) where
  -- the cells of the opening
  abbrev first_cells : Cells
  first_cells = cells_in (find (part_pairs 0 (opening_parts l)))

  -- all nodes are left
  opening_nodes : nodes_left l (opening_front l).parts first_cells ≡ size (root l)
  opening_nodes =
      ap (λ n. nodes_left l n first_cells) (sym (length-opening l))
      ∙ (opening_left l size sound ∙ total-flattened size size_adds (root l))

  -- all qubits are left to make
  opening_need : need_left l sound (opening_front l) first_cells ≡ need (root l)
  opening_need =
      let all : left l need (opening_front l).parts first_cells.parts ≡ need (root l) =
      ap (λ n. left l need n first_cells.parts) (sym (length-opening l))
      ∙ (opening_left l need sound ∙ total-flattened need need_adds (root l)) in
      omega arith

-- the law of what is paid
pub paying : PayingLaw
paying l es sound few run =
    let start = opening_waits l sound in
    let all = run_pays l sound (opening_front l) (find (part_pairs 0 (opening_parts l))) es run (sound_opening l) start (omega (arith, opening_need l sound)) in
    let nodes = opening_nodes l sound in
    let none = no_groups l (opening_front l) (first_cells l sound) refl in
    omega arith

-- a part that waits stands at a node that is left
waits_at_node : (k : ℕ) (p : Process) (b : Bool) → waits_for k p ≡ Some b → 1 ≤ size p
waits_at_node k (output c es p) b h = omega arith
waits_at_node k (input c bs p) b h = omega arith
waits_at_node k p b h = absurd (none_is_some {x = b} h)

-- so no more parts wait than nodes are left
few_wait : (l : Listing) (f : Front) (c : Cells) → Waiting l f c → waiters f.parts f.chans c ≤ nodes_left l f.parts c
few_wait l f c h = sum_within f.parts (λ i. one_if (is_parked f.chans c i)) (λ i. weight l size (c.parts i)) (λ i t. ⊎_elim
    (λ (u : is_parked f.chans c i ≡ true).
    let y = parked_there f.chans c i u in
    let s = parked_ready l c h.lists i y in
    let node = waits_at_node y.chan (process_of_part l s.part) y.channel.outward s.ready in
    let one : one_if (is_parked f.chans c i) ≡ 1 = ap one_if u in
    let here : weight l size (c.parts i) ≡ size (process_of_part l s.part) = ap (weight l size) s.there in
    omega arith)
    (λ (u : is_parked f.chans c i ≡ false). let none : one_if (is_parked f.chans c i) ≡ 0 = ap one_if u in omega arith)
    (cases_Bool (is_parked f.chans c i)))

-- a run is stopped once
once_stopped : (x : Stop) → one_if_stopped x ≤ 1
once_stopped stop.No = omega arith
once_stopped (stop.At i) = omega arith

-- the law: so a run is short
pub short : ShortLaw
short l es sound few run =
    let paid = paying l es sound few run in
    let wait = few_wait l (front_of l es) (cells_of l es) (waiting_after l es sound run) in
    let once = once_stopped (front_of l es).stopped in
    omega arith
