use Rattle.cqp_results.proofs.ResultLists.{next_after_all, all_values}
use Rattle.cqp_results.proofs.laws.result_laws.Goals as goal

pub returns-clause-next : goal.returns-clause-next
returns-clause-next c = next_after_all

pub returns-clause-values : goal.returns-clause-values
returns-clause-values c = all_values
