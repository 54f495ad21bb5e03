-- Laws of turns: which deeds and which communications fit.
use Rattle.std.specs.Prelude.{◌≡◌, ◌↔◌, ℕ, false, Some, None, IsSome}
use Rattle.cqp_syntax.specs.Trees.{Process}
use Rattle.cqp_trace.specs.declared.deed.Deed.{Deed}
use Rattle.cqp_trace.specs.declared.deed.Deed.TheVariants as deed
use Rattle.cqp_vector.specs.State.{State}
use Rattle.cqp_cells.specs.Config.{Config, part_at}
use Rattle.cqp_cells.specs.Examples.{by}
use Rattle.cqp_cells.specs.Operands.{is_wrong, has_wrong_operand}
use Rattle.cqp_cells.specs.Rows.{Fits}
use Rattle.cqp_cells.specs.Step.{next}
use Rattle.cqp_meeting.specs.Meetings.{is_communication}
use Rattle.cqp_meeting.specs.Tables.{stand_in}
use Rattle.cqp_turns.specs.declared.turn.Turn.{Turn}
use Rattle.cqp_turns.specs.declared.turn.Turn.TheVariants as turn
use Rattle.cqp_turns.specs.Stands.{stand_by}
use Rattle.cqp_turns.specs.Turns.{turn_in}
use Rattle.cqp_fitting.specs.Deeds.{IsDeedOf, HasOperands, SendsOn}

-- of a process with no wrong operand exactly the deeds of its turn fit
abbrev pub FitsLaw : Type 0
FitsLaw =
    (s : State) (chans : ℕ) (p : Process) (t : Turn) → is_wrong s.qubits p ≡ false
    → turn_in p ≡ Some t → (d : Deed) → Fits s chans p d ↔ IsDeedOf s chans t d

-- so an entry of one part that has the process leads on exactly with such a deed
abbrev pub EntryLaw : Type 0
EntryLaw =
    (c : Config) (i : ℕ) (p : Process) (t : Turn) → part_at i c.parts ≡ Some p
    → is_wrong c.state.qubits p ≡ false → turn_in p ≡ Some t
    → (d : Deed) → is_communication d ≡ false
    → IsSome (next c (by i d)) ↔ IsDeedOf c.state c.chans t d

-- and exactly with no such deed it leads nowhere
abbrev pub NoEntryLaw : Type 0
NoEntryLaw =
    (c : Config) (i : ℕ) (p : Process) (t : Turn) → part_at i c.parts ≡ Some p
    → is_wrong c.state.qubits p ≡ false → turn_in p ≡ Some t
    → (d : Deed) → is_communication d ≡ false
    → next c (by i d) ≡ None ↔ (IsDeedOf c.state c.chans t d → ⊥)

-- the turn of a process with no wrong operand has right ones
abbrev pub OperandsLaw : Type 0
OperandsLaw =
    (n : ℕ) (p : Process) (t : Turn) → is_wrong n p ≡ false → turn_in p ≡ Some t → HasOperands n t

-- a process stands as its turn says
abbrev pub StandLaw : Type 0
StandLaw = (p : Process) (t : Turn) → turn_in p ≡ Some t → stand_in p ≡ stand_by t

-- a communication of two parts fits exactly where the turn of the one is to send on the channel,
-- and that of the other to receive there
abbrev pub CommunicationLaw : Type 0
CommunicationLaw =
    (c : Config) → has_wrong_operand c ≡ false → (i j k : ℕ) (p q : Process) (t u : Turn)
    → part_at i c.parts ≡ Some p → turn_in p ≡ Some t
    → part_at j c.parts ≡ Some q → turn_in q ≡ Some u
    → IsSome (next c (by i (deed.Com j k))) ↔ (SendsOn k t × (u ≡ turn.Receive k))
