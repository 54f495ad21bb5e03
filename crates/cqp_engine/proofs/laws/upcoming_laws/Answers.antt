use Rattle.cqp_engine.proofs.UpcomingExists.{upcoming_exists}
use Rattle.cqp_engine.proofs.laws.upcoming_laws.Goals as goal

pub returns : goal.returns
returns c = upcoming_exists
