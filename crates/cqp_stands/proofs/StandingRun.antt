-- Along each run all parts stand.
use Rattle.std.proofs.Common.{◌≡◌, ◌≢◌, ℕ, List, [], ◌∷◌, ◌+◌, Option, Some, None, sym, ap, subst, eq-eqb, ne_eqb, ◌∙◌}
use Rattle.std.specs.List.{AllByRecursion}
use mathlib.Core.Logic.{dite}
use native.Mathlib.Decide.{ℕ_discrete}
use Rattle.cqp_book.specs.Keys.{Store, find}
use Rattle.cqp_book.specs.Run.{store_from, RunsFrom}
use Rattle.cqp_syntax.specs.Listing.{Listing, IsProc}
use Rattle.cqp_trace.specs.declared.deed.Deed.{Deed}
use Rattle.cqp_trace.specs.declared.deed.Deed.TheVariants as deed
use Rattle.cqp_parts.specs.declared.part.Part.{Part}
use Rattle.cqp_machine.specs.declared.front.Front.{Front}
use Rattle.cqp_machine.specs.declared.event.Event.{Event}
use Rattle.cqp_machine.specs.declared.event.Event.TheVariants as event
use Rattle.cqp_machine.specs.declared.cell.Cell.{Cell}
use Rattle.cqp_parts.specs.Parts.{process_of_part, parts_after, parts_after_input, more_than_one, opening_parts}
use Rattle.cqp_machine.specs.Cells.{Cells, cells_in, with_at}
use Rattle.cqp_machine.specs.Fronts.{front_after, counts_of, opening_front}
use Rattle.cqp_machine.specs.Enabled.{FitsEvent, FitsStep, Moves, Meets}
use Rattle.cqp_machine.specs.After.{cells_after, placed_from, placed, from_part, parts_by, values_in, values_from}
use Rattle.cqp_machine.specs.Machine.{factored, part_pairs}
use Rattle.cqp_standing.specs.Stands.{Stands}
use Rattle.cqp_stands.specs.Standing.{StandingLaw}
use Rattle.cqp_cells.proofs.Options.{none_is_some, same_some}
use Rattle.cqp_local.proofs.PlacedLemmas.{with_at_in, with_at_out}
use Rattle.cqp_local.proofs.WholeFits.{whole_enabled, whole_after}
use Rattle.cqp_steps.proofs.PartSums.{find_placed}
use Rattle.cqp_standing.proofs.StandLemmas.{stands_opening, stands_after, stands_received}
use Rattle.cqp_standing.proofs.SuitLemmas.{moved_suits, sends_suits, receives_takes}

-- all parts that are there stand
abbrev pub AllStand : Listing → (ℕ → Option Part) → Type 0
AllStand l parts = (j : ℕ) (p : Part) → parts j ≡ Some p → Stands l p

-- with one more that does
with_stands : (l : Listing) (n : ℕ) (p : Part) (parts : ℕ → Option Part) → Stands l p → AllStand l parts → AllStand l (with_at n (Some p) parts)
with_stands l n p parts w h j q t = dite (ℕ_discrete j n)
    (λ (e : j ≡ n). subst (Stands l) (same_some {x = p} {y = q} (sym (with_at_in n j (Some p) parts (eq-eqb j n e)) ∙ t)) w)
    (λ (e : j ≢ n). h j q (sym (with_at_out n j (Some p) parts (ne_eqb j n e)) ∙ t))

-- with one less
without_stands : (l : Listing) (n : ℕ) (parts : ℕ → Option Part) → AllStand l parts → AllStand l (with_at n None parts)
without_stands l n parts h j q t = dite (ℕ_discrete j n)
    (λ (e : j ≡ n). absurd (none_is_some {x = q} (sym (with_at_in n j None parts (eq-eqb j n e)) ∙ t)))
    (λ (e : j ≢ n). h j q (sym (with_at_out n j None parts (ne_eqb j n e)) ∙ t))

-- so they do where parts that stand are placed
from_stands : (l : Listing) (n : ℕ) (ps : List Part) (parts : ℕ → Option Part) → AllByRecursion (Stands l) ps → AllStand l parts
    → AllStand l (placed_from n ps parts)
from_stands l n [] parts w h = h
from_stands l n (p ∷ ps) parts w h = from_stands l (n + 1) ps (with_at n (Some p) parts) w.1 (with_stands l n p parts w.0 h)

-- so they do where parts that stand take the place of one
placed_stand : (l : Listing) (i n : ℕ) (ps : List Part) (parts : ℕ → Option Part) → AllByRecursion (Stands l) ps → AllStand l parts
    → AllStand l (placed i n ps parts)
placed_stand l i n [] parts w h = without_stands l i parts h
placed_stand l i n (p ∷ ps) parts w h = from_stands l n ps (with_at i (Some p) parts) w.1 (with_stands l i p parts w.0 h)

module _ (l : Listing) (sound : IsProc l) (f : Front) (c : Cells) (h : AllStand l c.parts) where
  -- behind a deed of a part's own
  own_stands : (i made gone : ℕ) (d : Deed) (x : Moves l f c (record { part = i; deed = d }) made gone)
      → AllStand l (placed i f.parts (from_part (λ p. parts_after l p d) (c.parts i)) c.parts)
  own_stands i made gone d x =
      rw x.there (placed_stand l i f.parts (parts_after l x.part d) c.parts
      (stands_after l sound x.part (h i x.part x.there) d (moved_suits (counts_of f) (process_of_part l x.part) d x.process x.moves)) h)

  -- and behind a communication
  com_stands : (i to chan made gone : ℕ) (x : Meets l c i to chan made gone) → AllStand l (parts_by l f c i (deed.Com to chan))
  com_stands i to chan made gone x =
      let vs : values_from l chan (c.parts i) ≡ x.sending.values = ap (values_from l chan) x.sender_there ∙ ap values_in x.sends in
      let first = placed_stand l i f.parts (parts_after l x.sender (deed.Com to chan)) c.parts
      (stands_after l sound x.sender (h i x.sender x.sender_there) (deed.Com to chan) (sends_suits to chan (process_of_part l x.sender) x.sending x.sends)) h in
      let both = placed_stand l to (f.parts + more_than_one (parts_after l x.sender (deed.Com to chan))) (parts_after_input l x.receiver x.sending.values)
      (placed i f.parts (parts_after l x.sender (deed.Com to chan)) c.parts)
      (stands_received l sound x.receiver (h to x.receiver x.receiver_there) x.sending.values
      (receives_takes chan x.sending.values (process_of_part l x.receiver) x.process x.receives)) first in
      rw (vs, x.sender_there, x.receiver_there) both

  -- behind a step
  step_stands : (i group made gone woke level : ℕ) (d : Deed) → FitsStep l f c i d group made gone woke level → AllStand l (parts_by l f c i d)
  step_stands i group made gone woke level (deed.Qbit q) x = own_stands i made gone (deed.Qbit q) x.0
  step_stands i group made gone woke level (deed.New k) x = own_stands i made gone (deed.New k) x.0
  step_stands i group made gone woke level deed.Act x = own_stands i made gone deed.Act x.0
  step_stands i group made gone woke level (deed.Add v) x = own_stands i made gone (deed.Add v) x.0
  step_stands i group made gone woke level (deed.Pick o) x = own_stands i made gone (deed.Pick o) x.0
  step_stands i group made gone woke level (deed.Gate o qs) x = own_stands i made gone (deed.Gate o qs) x.0
  step_stands i group made gone woke level (deed.Measure qs m) x = own_stands i made gone (deed.Measure qs m) x.0
  step_stands i group made gone woke level (deed.If b) x = own_stands i made gone (deed.If b) x.0
  step_stands i group made gone woke level (deed.Com to chan) x = com_stands i to chan made gone x.0

  -- each event keeps it
  pub event_stands_well : (e : Event) → FitsEvent l f c e → AllStand l (cells_after l f c e).parts
  event_stands_well (event.Step e group made gone woke level) x = step_stands e.part group made gone woke level e.deed x
  event_stands_well (event.Join left right) x = h
  event_stands_well (event.Split group qs rest) x = h
  event_stands_well (event.Park i chan) x = h
  event_stands_well (event.Halt i) x = h

-- so does a run
run_stands_well : (l : Listing) (sound : IsProc l) (f : Front) (s : Store Cell) (es : List Event) → RunsFrom factored l f s es → AllStand l (cells_in s).parts
    → AllStand l (cells_in (store_from factored l f s es)).parts
run_stands_well l sound f s [] run h = h
run_stands_well l sound f s (e ∷ es) run h =
    let one = event_stands_well l sound f (cells_in s) h e (whole_enabled l f s e run.0).fits in
    run_stands_well l sound (front_after f e) (factored.after l f s e) es run.1 (subst (λ c. AllStand l c.parts) (sym (whole_after l f s e run.0)) one)

-- from the opening on
opening_stands : (l : Listing) → IsProc l → AllStand l (cells_in (find (part_pairs 0 (opening_parts l)))).parts
opening_stands l sound j p t =
    from_stands l 0 (opening_parts l) (λ i. None) (stands_opening l sound) (λ i q u. absurd (none_is_some {x = q} u)) j p
    (sym (find_placed 0 (opening_parts l) j) ∙ t)

-- the law of parts that stand well
pub standing : StandingLaw
standing l es sound run i part there =
    run_stands_well l sound (opening_front l) (find (part_pairs 0 (opening_parts l))) es run (opening_stands l sound) i part there
