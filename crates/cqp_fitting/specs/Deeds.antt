-- The deeds of a turn, and its operands.
use Rattle.std.specs.Prelude.{◌≡◌, ℕ, ◌<◌, ◌^◌, List, length, true}
use Rattle.cqp_syntax.specs.Gates.{places_of}
use Rattle.cqp_syntax.specs.declared.val.Val.{Val}
use Rattle.cqp_trace.specs.declared.deed.Deed.{Deed}
use Rattle.cqp_trace.specs.declared.deed.Deed.TheVariants as deed
use Rattle.cqp_vector.specs.State.{State}
use Rattle.cqp_vector.specs.Measurement.{is_outcome}
use Rattle.cqp_cells.specs.Moves.{are_operands}
use Rattle.cqp_turns.specs.declared.turn.Turn.{Turn}
use Rattle.cqp_turns.specs.declared.turn.Turn.TheVariants as turn

-- the deed measures these qubits, with an outcome whose projection isn't 0
pub record MeasuresThese (s : State) (qs : List ℕ) (d : Deed) : Type 0 where
  pub outcome : ℕ
  pub is : d ≡ deed.Measure qs outcome
  pub below : outcome < 2 ^ length qs
  pub likely : is_outcome qs s outcome ≡ true

-- the deed is one of the turn, where this is the state and so many channels were made; a turn that
-- waits has none
abbrev pub IsDeedOf : State → ℕ → Turn → Deed → Type 0
IsDeedOf s chans turn.Qbit d = d ≡ deed.Qbit s.qubits
IsDeedOf s chans turn.New d = d ≡ deed.New chans
IsDeedOf s chans turn.Act d = d ≡ deed.Act
IsDeedOf s chans (turn.Add v) d = d ≡ deed.Add v
IsDeedOf s chans (turn.Pick op) d = d ≡ deed.Pick op
IsDeedOf s chans (turn.Gate op qs) d = d ≡ deed.Gate op qs
IsDeedOf s chans (turn.Measure qs) d = MeasuresThese s qs d
IsDeedOf s chans (turn.Send k vs) d = ⊥
IsDeedOf s chans (turn.Receive k) d = ⊥
IsDeedOf s chans (turn.If answer) d = d ≡ deed.If answer

-- qubits of a turn are distinct ones of n that were made, and a gate has as many as its places
abbrev pub HasOperands : ℕ → Turn → Type 0
HasOperands n turn.Qbit = Unit {0}
HasOperands n turn.New = Unit {0}
HasOperands n turn.Act = Unit {0}
HasOperands n (turn.Add v) = Unit {0}
HasOperands n (turn.Pick op) = Unit {0}
HasOperands n (turn.Gate op qs) = (length qs ≡ places_of op) × (are_operands n qs ≡ true)
HasOperands n (turn.Measure qs) = are_operands n qs ≡ true
HasOperands n (turn.Send k vs) = Unit {0}
HasOperands n (turn.Receive k) = Unit {0}
HasOperands n (turn.If answer) = Unit {0}

-- the turn is to send on the channel
abbrev pub SendsOn : ℕ → Turn → Type 0
SendsOn k t = (vs : List Val) × (t ≡ turn.Send k vs)
