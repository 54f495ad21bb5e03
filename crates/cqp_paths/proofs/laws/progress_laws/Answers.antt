use Rattle.cqp_paths.proofs.Reached.{all_go_on}
use Rattle.cqp_paths.proofs.Stuck.{stuck_ends}
use Rattle.cqp_paths.proofs.laws.progress_laws.Goals as goal

pub returns-clause-goes_on : goal.returns-clause-goes_on
returns-clause-goes_on c = all_go_on

pub returns-clause-ends : goal.returns-clause-ends
returns-clause-ends c = stuck_ends
