-- How a part stands, told by its turn.
use Rattle.cqp_order.specs.declared.stand.Stand.{Stand}
use Rattle.cqp_order.specs.declared.stand.Stand.TheVariants.{Alone, Sends, Receives}
use Rattle.cqp_turns.specs.declared.turn.Turn.{Turn}
use Rattle.cqp_turns.specs.declared.turn.Turn.TheVariants as turn

-- how a part with the turn stands
abbrev pub stand_by : Turn → Stand
stand_by turn.Qbit = Alone
stand_by turn.New = Alone
stand_by turn.Act = Alone
stand_by (turn.Add v) = Alone
stand_by (turn.Pick op) = Alone
stand_by (turn.Gate op qs) = Alone
stand_by (turn.Measure qs) = Alone
stand_by (turn.Send k vs) = Sends k
stand_by (turn.Receive k) = Receives k
stand_by (turn.If answer) = Alone
