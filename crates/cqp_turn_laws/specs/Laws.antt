-- Laws of turns: a turn where no operand is wrong, deeds of the turn that move the process, and
-- that a measurement is of some qubits.
use Rattle.std.specs.Prelude.{◌≡◌, ◌<◌, ℕ, List, false, length, Some, IsSome}
use Rattle.cqp_syntax.specs.Trees.{Process}
use Rattle.cqp_syntax.specs.Listing.{Listing, IsProc}
use Rattle.cqp_parts.specs.declared.part.Part.{Part}
use Rattle.cqp_turns.specs.declared.turn.Turn.{Turn}
use Rattle.cqp_turns.specs.declared.turn.Turn.TheVariants as turn
use Rattle.cqp_turn_laws.specs.Deeds.{MovesBy}
use Rattle.cqp_cells.specs.Moves.{Counts}
use Rattle.cqp_cells.specs.Operands.{is_wrong}
use Rattle.cqp_parts.specs.Parts.{process_of_part}
use Rattle.cqp_standing.specs.Stands.{Stands}
use Rattle.cqp_turns.specs.Turns.{turn_in}

-- a part that stands well and has no wrong operand has a turn
abbrev pub TurnLaw : Type 0
TurnLaw =
    (l : Listing) (part : Part) → Stands l part → (n : ℕ)
    → is_wrong n (process_of_part l part) ≡ false → IsSome (turn_in (process_of_part l part))

-- a process with no wrong operand moves by the deeds of its turn
abbrev pub MovesLaw : Type 0
MovesLaw =
    (n : Counts) (p : Process) (t : Turn) → is_wrong n.qubits p ≡ false → turn_in p ≡ Some t
    → MovesBy n p t

-- a part that measures next measures at least one qubit
abbrev pub SomeQubitsLaw : Type 0
SomeQubitsLaw =
    (l : Listing) (part : Part) → IsProc l → Stands l part → (qs : List ℕ)
    → turn_in (process_of_part l part) ≡ Some (turn.Measure qs) → 0 < length qs
