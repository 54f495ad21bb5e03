use Rattle.cqp_expand.specs.Faults.{scope_faults}
use Rattle.cqp_expand.proofs.LeastFault.{some_least, one_least, none_least}
use Rattle.cqp_expand.proofs.laws.one_least_fault.Goals as goal

pub returns-clause-some : goal.returns-clause-some
returns-clause-some c = λ t. some_least (scope_faults t)

pub returns-clause-one : goal.returns-clause-one
returns-clause-one c = λ t f g i j. one_least (scope_faults t) f g i j

pub returns-clause-none : goal.returns-clause-none
returns-clause-none c = λ t f e i. none_least (scope_faults t) f e i
