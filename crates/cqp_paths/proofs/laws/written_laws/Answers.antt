use Rattle.cqp_paths.proofs.OperatedNodes.{listed_operated}
use Rattle.cqp_paths.proofs.Written.{path_written}
use Rattle.cqp_paths.proofs.laws.written_laws.Goals as goal

pub returns-clause-operated : goal.returns-clause-operated
returns-clause-operated c = listed_operated

pub returns-clause-entries : goal.returns-clause-entries
returns-clause-entries c = path_written
