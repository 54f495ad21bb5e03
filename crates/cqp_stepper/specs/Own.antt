-- The deeds of a part that goes on by itself.
use Rattle.std.specs.Prelude.{◌≡◌, ◌<◌, ◌≤◌, ◌^◌, ℕ, Option, None, Some, length}
use Rattle.cqp_syntax.specs.Listing.{Listing}
use Rattle.cqp_trace.specs.declared.deed.Deed.{Deed}
use Rattle.cqp_trace.specs.declared.deed.Deed.TheVariants as deed
use Rattle.cqp_cells.specs.Moves.{Counts as Made}
use Rattle.cqp_machine.specs.Sums.{levels}
use Rattle.cqp_order.specs.declared.stand.Stand.TheVariants.{Alone}
use Rattle.cqp_order.specs.Stands.{stand_at}
use Rattle.cqp_parts.specs.declared.part.Part.{Part}
use Rattle.cqp_parts.specs.Parts.{process_of_part}
use Rattle.cqp_turns.specs.declared.turn.Turn.{Turn}
use Rattle.cqp_turns.specs.declared.turn.Turn.TheVariants as turn
use Rattle.cqp_turns.specs.Turns.{turn_in}
use Rattle.cqp_groups.specs.Groups.{as_cells}
use Rattle.cqp_stepper.specs.declared.cells.Cells.{Cells}
use Rattle.cqp_stepper.specs.Slots.{part_in}

-- the deed of a turn, where so many qubits and channels were made and a measurement has this
-- outcome; a part that waits has none of its own
abbrev pub deed_by : Made → ℕ → Turn → Option Deed
deed_by n m turn.Qbit = Some (deed.Qbit n.qubits)
deed_by n m turn.New = Some (deed.New n.chans)
deed_by n m turn.Act = Some deed.Act
deed_by n m (turn.Add v) = Some (deed.Add v)
deed_by n m (turn.Pick op) = Some (deed.Pick op)
deed_by n m (turn.Gate op qs) = Some (deed.Gate op qs)
deed_by n m (turn.Measure qs) = Some (deed.Measure qs m)
deed_by n m (turn.Send k vs) = None
deed_by n m (turn.Receive k) = None
deed_by n m (turn.If answer) = Some (deed.If answer)

-- the outcome that a deed says
abbrev pub outcome_in : Deed → ℕ
outcome_in (deed.Measure qs m) = m
outcome_in d = 0

-- an outcome has as many bits as there are qubits
abbrev pub HasOutcomeBits : Deed → Type 0
HasOutcomeBits (deed.Measure qs m) = m < 2 ^ length qs
HasOutcomeBits d = Unit {0}

-- the deed is the turn's, whether or not its outcome is likely
pub record IsDeedOfTurn (n : Made) (t : Turn) (d : Deed) : Type 0 where
  pub is : deed_by n (outcome_in d) t ≡ Some d
  pub bits : HasOutcomeBits d

-- part n is there, stands alone, and has the turn
pub record StandsBy (l : Listing) (s : Cells) (n : ℕ) (t : Turn) : Type 0 where
  pub part : Part
  pub there : part_in s.slots n ≡ Some part
  pub alone : stand_at s.order.0 n ≡ Some Alone
  pub takes : turn_in (process_of_part l part) ≡ Some t

-- without a turn it doesn't stand alone
abbrev pub HasOwnTurn : Listing → Cells → ℕ → Option Turn → Type 0
HasOwnTurn l s n None = stand_at s.order.0 n ≡ Some Alone → ⊥
HasOwnTurn l s n (Some t) = StandsBy l s n t

-- a measurement is of some qubits
abbrev pub HasSomeQubits : Deed → Type 0
HasSomeQubits (deed.Measure qs m) = 0 < length qs
HasSomeQubits d = Unit {0}

-- the level below which an H has room isn't left
abbrev pub HasReachedLimit : Cells → Type 0
HasReachedLimit s = 179 ≤ levels (length s.groups) (as_cells s.groups)
