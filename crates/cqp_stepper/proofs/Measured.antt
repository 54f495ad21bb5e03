-- A measurement that comes next: its qubits, and the odds that a group tells.
use Rattle.std.proofs.Common.{◌≡◌, ℕ, ◌<◌, List, Option, Some, None, true, length, refl, sym, ap, subst, ◌∙◌}
use Rattle.std.specs.Prelude.{Result, Ok, Err, IfOk}
use Rattle.std.specs.List.{AllByRecursion}
use Rattle.cqp_syntax.specs.Listing.{Listing}
use Rattle.cqp_syntax.specs.Trees.{Process}
use Rattle.cqp_trace.specs.declared.entry.Entry.{Entry}
use Rattle.cqp_vector.specs.declared.odds.Odd.{Odd}
use Rattle.cqp_cells.specs.Moves.{are_operands}
use Rattle.cqp_cells.proofs.Options.{none_is_some, same_some}
use Rattle.cqp_engine.specs.Upcoming.{AreOddsOf, IsMeasuring}
use Rattle.cqp_factored.specs.GroupLaws.{PlacesLaw}
use Rattle.cqp_machine.specs.Shown.{cells_of, process_in}
use Rattle.cqp_parts.specs.declared.part.Part.{Part}
use Rattle.cqp_parts.specs.Parts.{process_of_part}
use Rattle.cqp_turns.specs.declared.turn.Turn.TheVariants as turn
use Rattle.cqp_turns.specs.Turns.{look_turn, turn_after, turn_in}
use Rattle.cqp_turn_laws.specs.Laws.{SomeQubitsLaw}
use Rattle.cqp_groups.specs.Groups.{AreOdds, IsHeld}
use Rattle.cqp_telling.specs.Laws.{OddsLaw}
use Rattle.cqp_stepper.specs.declared.cells.Cells.{Cells}
use Rattle.cqp_stepper.specs.Here.{HereLaw}
use Rattle.cqp_stepper.specs.Kept.{IsKept}
use Rattle.cqp_stepper.specs.Steps.{IsGathered}
use Rattle.cqp_stepper.proofs.Last.{here, last}
use Rattle.cqp_stepper.proofs.Tried.{distinct_operands, made_here, made_operands}

module _ (l : Listing) (here_law : HereLaw) (entries : List Entry) (s : Cells) (k : IsKept l entries s) (n : ℕ) (qs : List ℕ)
    (m : IsMeasuring (last l here_law entries s k) n qs) where
  -- its qubits are distinct, and were made
  pub operands_here : are_operands (length s.groups) qs ≡ true
  operands_here = subst (λ z. are_operands z qs ≡ true) (sym (ap (λ z. z.qubits) (made_here l here_law entries s k))) m.operands

  -- so each was made
  pub all_made : AllByRecursion (λ q. q < length s.groups) qs
  all_made = made_operands (length s.groups) qs operands_here

  -- it is the turn of its process
  takes : (p : Process) → p ≡ m.process → turn_in p ≡ Some (turn.Measure qs)
  takes p is =
      subst (λ z. turn_in z ≡ Some (turn.Measure qs)) (sym is)
      (ap (λ z. turn_after z m.process) m.redex ∙ ap look_turn m.qubits)

  -- there is some qubit
  pub some_here : SomeQubitsLaw → 0 < length qs
  some_here law = by_part ((cells_of l k.events).parts n) refl
    where
      -- of the part that measures
      by_part : (o : Option Part) → (cells_of l k.events).parts n ≡ o → 0 < length qs
      by_part None at =
          let there = (here l here_law entries s k).shows.stands.parts n ∙ ap (process_in l) at in absurd (none_is_some {x = m.process} (sym there ∙ m.there))
      by_part (Some part) at =
          let told = (here l here_law entries s k).parts n part at in
          let same : process_of_part l part ≡ m.process = same_some (sym told.there ∙ m.there) in
          law l part k.settled.process told.stands qs (takes (process_of_part l part) same)

  -- a group that has them has their places
  pub held_here : PlacesLaw → (group : ℕ) → IsGathered s group qs → IsHeld s.groups group qs
  held_here places group x = record {
    before = x.before;
    there = x.there;
    places = (places x.before.qubits qs (distinct_operands (length s.groups) qs operands_here) x.has).0;
  }

  -- and tells their odds
  pub odds_here : {E : Type 0} → OddsLaw → (group : ℕ) → IsGathered s group qs → (r : Result (List Odd) E)
      → IfOk r (AreOdds s.groups group qs) → IfOk r (AreOddsOf qs (last l here_law entries s k).state)
  odds_here law group x (Ok odds) told =
      subst (AreOddsOf qs (last l here_law entries s k).state) (sym (told x.before x.there))
      (law l k.events (last l here_law entries s k) k.settled.process k.checked.few k.settled.run (here l here_law entries s k).shows group x.before
      (sym (ap (λ f. f group) k.groups.groups) ∙ x.there) qs (distinct_operands (length s.groups) qs operands_here) x.has)
  odds_here law group x (Err e) told = tt
