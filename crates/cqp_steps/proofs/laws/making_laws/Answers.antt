use Rattle.cqp_steps.proofs.Making.{making}
use Rattle.cqp_steps.proofs.laws.making_laws.Goals as goal

pub returns : goal.returns
returns c = making
