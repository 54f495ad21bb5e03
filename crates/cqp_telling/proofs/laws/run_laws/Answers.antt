use Rattle.cqp_telling.proofs.Ends.{group_limit_law, left_law, limit_law, weight_law}
use Rattle.cqp_telling.proofs.laws.run_laws.Goals as goal

pub returns-clause-left : goal.returns-clause-left
returns-clause-left c = left_law

pub returns-clause-limit : goal.returns-clause-limit
returns-clause-limit c = limit_law c.level_laws.ensures.within

pub returns-clause-group_limit : goal.returns-clause-group_limit
returns-clause-group_limit c = group_limit_law c.level_laws.ensures.within

pub returns-clause-weight : goal.returns-clause-weight
returns-clause-weight c = weight_law
