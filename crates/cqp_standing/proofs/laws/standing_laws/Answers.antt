use Rattle.cqp_standing.proofs.StandLemmas.{stands_opening, stands_after, stands_received}
use Rattle.cqp_standing.proofs.laws.standing_laws.Goals as goal

pub returns-clause-opening : goal.returns-clause-opening
returns-clause-opening c = stands_opening

pub returns-clause-deeds : goal.returns-clause-deeds
returns-clause-deeds c = stands_after

pub returns-clause-receivers : goal.returns-clause-receivers
returns-clause-receivers c = stands_received
