use Rattle.cqp_turn_laws.proofs.PartLaws.{turn_law}
use Rattle.cqp_turn_laws.proofs.SomeQubits.{some_law}
use Rattle.cqp_turn_laws.proofs.TurnDeeds.{turn_moves}
use Rattle.cqp_turn_laws.proofs.laws.turn_laws.Goals as goal

pub returns-clause-turn : goal.returns-clause-turn
returns-clause-turn c = turn_law

pub returns-clause-moves : goal.returns-clause-moves
returns-clause-moves c = turn_moves

pub returns-clause-some : goal.returns-clause-some
returns-clause-some c = some_law
