use Rattle.cqp_engine.proofs.Reasons.{lawful_not_refused, one_reason}
use Rattle.cqp_engine.proofs.laws.replay_laws.Goals as goal

pub returns-clause-lawful : goal.returns-clause-lawful
returns-clause-lawful c = lawful_not_refused c.weight_laws.ensures.one

pub returns-clause-one : goal.returns-clause-one
returns-clause-one c = one_reason c.weight_laws.ensures.one
