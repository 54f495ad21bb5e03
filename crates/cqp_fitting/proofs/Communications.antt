-- Which communications fit, by the turns of both parts.
use Rattle.std.proofs.Common.{◌≡◌, ℕ, Option, Some, refl, sym, ap, ◌∙◌}
use Rattle.std.specs.Prelude.{IsSome}
use Rattle.std.specs.Option.{option_map}
use Rattle.cqp_syntax.specs.Trees.{Process}
use Rattle.cqp_trace.specs.declared.deed.Deed.TheVariants as deed
use Rattle.cqp_cells.specs.Config.{Config, part_at}
use Rattle.cqp_cells.specs.Examples.{by}
use Rattle.cqp_cells.specs.Step.{next}
use Rattle.cqp_cells.proofs.Options.{same_some}
use Rattle.cqp_order.specs.declared.stand.Stand.{Stand}
use Rattle.cqp_order.specs.declared.stand.Stand.TheVariants.{Alone, Sends, Receives}
use Rattle.cqp_meeting.specs.Laws.{FitLaw}
use Rattle.cqp_meeting.specs.Tables.{stand_in}
use Rattle.cqp_turns.specs.declared.turn.Turn.{Turn}
use Rattle.cqp_turns.specs.declared.turn.Turn.TheVariants as turn
use Rattle.cqp_turns.specs.Stands.{stand_by}
use Rattle.cqp_turns.specs.Turns.{turn_in}
use Rattle.cqp_fitting.specs.Deeds.{SendsOn}
use Rattle.cqp_fitting.specs.Laws.{CommunicationLaw}
use Rattle.cqp_fitting.proofs.TurnStands.{stand_law}

-- stands that differ
alone_sends : {k : ℕ} → Alone ≡ Sends k → ⊥
alone_sends e = cc

alone_receives : {k : ℕ} → Alone ≡ Receives k → ⊥
alone_receives e = cc

receives_sends : {m k : ℕ} → Receives m ≡ Sends k → ⊥
receives_sends e = cc

sends_receives : {m k : ℕ} → Sends m ≡ Receives k → ⊥
sends_receives e = cc

-- who stands as a sender has the turn to send
send_by : (k : ℕ) (t : Turn) → stand_by t ≡ Sends k → SendsOn k t
send_by k turn.Qbit h = absurd (alone_sends h)
send_by k turn.New h = absurd (alone_sends h)
send_by k turn.Act h = absurd (alone_sends h)
send_by k (turn.Add v) h = absurd (alone_sends h)
send_by k (turn.Pick op) h = absurd (alone_sends h)
send_by k (turn.Gate op qs) h = absurd (alone_sends h)
send_by k (turn.Measure qs) h = absurd (alone_sends h)
send_by k (turn.Send m vs) h = let same : m ≡ k = cc h in (vs, ap (λ n. turn.Send n vs) same)
send_by k (turn.Receive m) h = absurd (receives_sends h)
send_by k (turn.If answer) h = absurd (alone_sends h)

-- who stands as a receiver has the turn to receive
receive_by : (k : ℕ) (t : Turn) → stand_by t ≡ Receives k → t ≡ turn.Receive k
receive_by k turn.Qbit h = absurd (alone_receives h)
receive_by k turn.New h = absurd (alone_receives h)
receive_by k turn.Act h = absurd (alone_receives h)
receive_by k (turn.Add v) h = absurd (alone_receives h)
receive_by k (turn.Pick op) h = absurd (alone_receives h)
receive_by k (turn.Gate op qs) h = absurd (alone_receives h)
receive_by k (turn.Measure qs) h = absurd (alone_receives h)
receive_by k (turn.Send m vs) h = absurd (sends_receives h)
receive_by k (turn.Receive m) h = let same : m ≡ k = cc h in ap turn.Receive same
receive_by k (turn.If answer) h = absurd (alone_receives h)

-- the table of a configuration
abbrev table : Config → ℕ → Option Stand
table c i = option_map stand_in (part_at i c.parts)

-- a part of the table stands as its turn says
table_is : (c : Config) (i : ℕ) (p : Process) (t : Turn) → part_at i c.parts ≡ Some p → turn_in p ≡ Some t → table c i ≡ Some (stand_by t)
table_is c i p t there h = ap (option_map stand_in) there ∙ ap Some (stand_law p t h)

-- a communication fits exactly where the one part's turn is to send, and the other's to receive
pub communication_law : FitLaw → CommunicationLaw
communication_law law c right i j k p q t u there turn_is too other_is = (
  λ fits. turns (fit.0 fits),
  λ both. fit.1 (stands both),
)
  where
    fit : (IsSome (next c (by i (deed.Com j k))) → (table c i ≡ Some (Sends k)) × (table c j ≡ Some (Receives k)))
        × ((table c i ≡ Some (Sends k)) × (table c j ≡ Some (Receives k)) → IsSome (next c (by i (deed.Com j k))))
    fit = law (table c) c (record { stands = λ n. refl; operands = right }) i j k

    turns : (table c i ≡ Some (Sends k)) × (table c j ≡ Some (Receives k)) → SendsOn k t × (u ≡ turn.Receive k)
    turns both = (
      send_by k t (same_some (sym (table_is c i p t there turn_is) ∙ both.0)),
      receive_by k u (same_some (sym (table_is c j q u too other_is) ∙ both.1)),
    )

    stands : SendsOn k t × (u ≡ turn.Receive k) → (table c i ≡ Some (Sends k)) × (table c j ≡ Some (Receives k))
    stands (sends, receives) = (
      table_is c i p t there turn_is ∙ ap (λ x. Some (stand_by x)) sends.1,
      table_is c j q u too other_is ∙ ap (λ x. Some (stand_by x)) receives,
    )
