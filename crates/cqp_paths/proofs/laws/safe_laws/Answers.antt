use Rattle.cqp_paths.proofs.Ranges.{listed_distinct}
use Rattle.cqp_paths.proofs.SafePaths.{safe_after, safe_along}
use Rattle.cqp_paths.proofs.laws.safe_laws.Goals as goal

pub returns-clause-binders : goal.returns-clause-binders
returns-clause-binders c = listed_distinct

pub returns-clause-after : goal.returns-clause-after
returns-clause-after c = safe_after

pub returns-clause-along : goal.returns-clause-along
returns-clause-along c = safe_along
