-- Laws of tables that tell how the parts of a configuration stand.
use Rattle.std.specs.Prelude.{◌≡◌, ◌↔◌, ℕ, ◌≤◌, false, Some, None, Option, IsSome}
use Rattle.cqp_syntax.specs.Trees.{Process}
use Rattle.cqp_trace.specs.declared.deed.Deed.{Deed}
use Rattle.cqp_trace.specs.declared.deed.Deed.TheVariants as deed
use Rattle.cqp_trace.specs.declared.entry.Entry.{Entry}
use Rattle.cqp_cells.specs.Config.{Config, part_at}
use Rattle.cqp_cells.specs.Examples.{by}
use Rattle.cqp_cells.specs.Operands.{has_wrong_operand, is_wrong}
use Rattle.cqp_cells.specs.Step.{next}
use Rattle.cqp_cells.specs.Waiting.{IsActive, IsStuck, is_waiting}
use Rattle.cqp_order.specs.declared.stand.Stand.{Stand}
use Rattle.cqp_order.specs.declared.stand.Stand.TheVariants.{Alone, Sends, Receives}
use Rattle.cqp_order.specs.declared.stand.Turn.{Turn}
use Rattle.cqp_order.specs.Stands.{IsLeastTurn, IsActive as IsActiveBy}
use Rattle.cqp_meeting.specs.Meetings.{IsFirstMeeting, communication, is_communication}
use Rattle.cqp_meeting.specs.Tables.{IsTable}

-- a part stands alone exactly where it doesn't wait
abbrev pub AloneLaw : Type 0
AloneLaw =
    (at : ℕ → Option Stand) (c : Config) → IsTable at c → (i : ℕ) (p : Process)
    → part_at i c.parts ≡ Some p → at i ≡ Some Alone ↔ is_waiting p ≡ false

-- a part is active by its table exactly where it takes part in some reduction
abbrev pub ActiveLaw : Type 0
ActiveLaw =
    (at : ℕ → Option Stand) (c : Config) → IsTable at c → (i : ℕ) → IsActiveBy at i ↔ IsActive c i

-- a communication fits exactly where the one part sends on the channel and the other receives there
abbrev pub FitLaw : Type 0
FitLaw =
    (at : ℕ → Option Stand) (c : Config) → IsTable at c → (i j k : ℕ)
    → IsSome (next c (by i (deed.Com j k)))
    ↔ ((at i ≡ Some (Sends k)) × (at j ≡ Some (Receives k)))

-- a deed of one part fits only where that stands alone
abbrev pub OwnLaw : Type 0
OwnLaw =
    (at : ℕ → Option Stand) (c : Config) → IsTable at c → (i : ℕ) (d : Deed)
    → is_communication d ≡ false → IsSome (next c (by i d)) → at i ≡ Some Alone

-- no part has a wrong operand
abbrev pub RightLaw : Type 0
RightLaw =
    (c : Config) → has_wrong_operand c ≡ false → (i : ℕ) (p : Process)
    → part_at i c.parts ≡ Some p → is_wrong c.state.qubits p ≡ false

-- no part is active by its table exactly where each waits and no two meet
abbrev pub StuckLaw : Type 0
StuckLaw =
    (at : ℕ → Option Stand) (c : Config) → IsTable at c → IsLeastTurn at None ↔ IsStuck c

-- the least turn is that of the least part that takes part in some reduction
abbrev pub LeastLaw : Type 0
LeastLaw =
    (at : ℕ → Option Stand) (c : Config) → IsTable at c → (turn : Turn) → IsLeastTurn at (Some turn)
    → IsActive c turn.part × ((j : ℕ) → IsActive c j → turn.part ≤ j)

-- the least turn has a partner exactly where its part doesn't stand alone
abbrev pub PairedLaw : Type 0
PairedLaw =
    (at : ℕ → Option Stand) (turn : Turn) → IsLeastTurn at (Some turn)
    → turn.partner ≡ None ↔ at turn.part ≡ Some Alone

-- where that turn has a partner, the communication of both is the first meeting
abbrev pub PartnerLaw : Type 0
PartnerLaw =
    (at : ℕ → Option Stand) (c : Config) → IsTable at c → (turn : Turn) → IsLeastTurn at (Some turn)
    → (j : ℕ) → turn.partner ≡ Some j → (s : Stand) → at turn.part ≡ Some s
    → (e : Entry) → communication turn.part j s ≡ Some e → IsFirstMeeting c turn.part j e
