use Rattle.cqp_factored.proofs.GroupRuns.{places_are, groups_are, joins_can}
use Rattle.cqp_factored.proofs.laws.group_laws.Goals as goal

pub returns-clause-places : goal.returns-clause-places
returns-clause-places c = places_are

pub returns-clause-are : goal.returns-clause-are
returns-clause-are c = groups_are

pub returns-clause-joins : goal.returns-clause-joins
returns-clause-joins c = joins_can
