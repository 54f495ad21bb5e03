use Rattle.cqp_groups.proofs.RunGroups.{dues, gates, grows, measures, pairs}
use Rattle.cqp_groups.proofs.laws.call_laws.Goals as goal

pub returns-clause-grow : goal.returns-clause-grow
returns-clause-grow c = grows

pub returns-clause-gate : goal.returns-clause-gate
returns-clause-gate c = gates

pub returns-clause-measure : goal.returns-clause-measure
returns-clause-measure c = measures

pub returns-clause-pair : goal.returns-clause-pair
returns-clause-pair c = pairs

pub returns-clause-due : goal.returns-clause-due
returns-clause-due c = dues
