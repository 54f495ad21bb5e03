use Rattle.cqp_stands.proofs.StandingRun.{standing}
use Rattle.cqp_stands.proofs.laws.stands_laws.Goals as goal

pub returns : goal.returns
returns c = standing
