-- The deeds of a turn, and that the process makes them.
use Rattle.std.specs.Prelude.{◌≡◌, ℕ, ◌<◌, ◌^◌, List, length, true, Some, IsSome}
use Rattle.cqp_syntax.specs.declared.val.Val.{Val}
use Rattle.cqp_syntax.specs.Trees.{Process}
use Rattle.cqp_trace.specs.declared.deed.Deed.TheVariants as deed
use Rattle.cqp_cells.specs.Moves.{Counts, moved, Sending, sends_on, receives_on}
use Rattle.cqp_standing.specs.Suits.{takes}
use Rattle.cqp_turns.specs.declared.turn.Turn.{Turn}
use Rattle.cqp_turns.specs.declared.turn.Turn.TheVariants as turn

-- ready to send these values
pub record SendsThese (p : Process) (chan : ℕ) (vs : List Val) : Type 0 where
  pub sending : Sending
  pub sends : sends_on chan p ≡ Some sending
  pub values : sending.values ≡ vs

-- the process moves by the turn's deed: the next qubit and the next channel are made, any outcome
-- of as many bits comes, and an input takes any values that are as many as its names
abbrev pub MovesBy : Counts → Process → Turn → Type 0
MovesBy n p turn.Qbit = IsSome (moved n p (deed.Qbit n.qubits))
MovesBy n p turn.New = IsSome (moved n p (deed.New n.chans))
MovesBy n p turn.Act = IsSome (moved n p deed.Act)
MovesBy n p (turn.Add v) = IsSome (moved n p (deed.Add v))
MovesBy n p (turn.Pick op) = IsSome (moved n p (deed.Pick op))
MovesBy n p (turn.Gate op qs) = IsSome (moved n p (deed.Gate op qs))
MovesBy n p (turn.Measure qs) =
    (m : ℕ) → m < 2 ^ length qs → IsSome (moved n p (deed.Measure qs m))
MovesBy n p (turn.If answer) = IsSome (moved n p (deed.If answer))
MovesBy n p (turn.Send chan vs) = SendsThese p chan vs
MovesBy n p (turn.Receive chan) =
    (vs : List Val) → takes p vs ≡ true → IsSome (receives_on chan vs p)
