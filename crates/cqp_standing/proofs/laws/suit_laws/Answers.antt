use Rattle.cqp_standing.proofs.SuitLemmas.{suits_law, sends_suits, takes_law}
use Rattle.cqp_standing.proofs.laws.suit_laws.Goals as goal

pub returns-clause-suits : goal.returns-clause-suits
returns-clause-suits c = suits_law

pub returns-clause-sends : goal.returns-clause-sends
returns-clause-sends c = sends_suits

pub returns-clause-takes : goal.returns-clause-takes
returns-clause-takes c = takes_law
