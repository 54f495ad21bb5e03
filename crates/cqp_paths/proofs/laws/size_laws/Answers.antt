use Rattle.cqp_paths.proofs.Needs.{path_need}
use Rattle.cqp_paths.proofs.Smaller.{path_smaller}
use Rattle.cqp_paths.proofs.laws.size_laws.Goals as goal

pub returns-clause-along : goal.returns-clause-along
returns-clause-along c = path_smaller

pub returns-clause-need : goal.returns-clause-need
returns-clause-need c = path_need
