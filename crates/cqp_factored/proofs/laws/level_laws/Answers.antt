use Rattle.cqp_factored.proofs.GroupRuns.{level_within, group_levels}
use Rattle.cqp_factored.proofs.laws.level_laws.Goals as goal

pub returns-clause-within : goal.returns-clause-within
returns-clause-within c = level_within

pub returns-clause-groups : goal.returns-clause-groups
returns-clause-groups c = group_levels
