use Rattle.cqp_expand.proofs.Programs.{expansion_closed, same_listing}
use Rattle.cqp_expand.proofs.laws.one_expansion.Goals as goal

pub returns-clause-some : goal.returns-clause-some
returns-clause-some c = expansion_closed

pub returns-clause-one : goal.returns-clause-one
returns-clause-one c = same_listing
