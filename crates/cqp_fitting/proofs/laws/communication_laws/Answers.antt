use Rattle.cqp_fitting.proofs.Communications.{communication_law}
use Rattle.cqp_fitting.proofs.TurnStands.{stand_law}
use Rattle.cqp_fitting.proofs.laws.communication_laws.Goals as goal

pub returns-clause-stands : goal.returns-clause-stands
returns-clause-stands c = stand_law

pub returns-clause-communications : goal.returns-clause-communications
returns-clause-communications c = communication_law c.stand_laws.ensures.fits
