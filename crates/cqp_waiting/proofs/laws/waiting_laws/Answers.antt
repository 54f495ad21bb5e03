use Rattle.cqp_waiting.proofs.WaitingRun.{waiting, waits_once}
use Rattle.cqp_waiting.proofs.laws.waiting_laws.Goals as goal

pub returns-clause-waiting : goal.returns-clause-waiting
returns-clause-waiting c = waiting

pub returns-clause-one_list : goal.returns-clause-one_list
returns-clause-one_list c = waits_once
