use Rattle.cqp_syntax.proofs.Same.{same_op, same_list}
use Rattle.cqp_syntax.proofs.TypeTests.{type_is, test_of_same}
use Rattle.cqp_syntax.proofs.laws.sameness_laws.Goals as goal

pub returns-clause-gates : goal.returns-clause-gates
returns-clause-gates c = same_op

pub returns-clause-lists : goal.returns-clause-lists
returns-clause-lists c = same_list

pub returns-clause-types : goal.returns-clause-types
returns-clause-types c = λ t u. (type_is t u, test_of_same t u)
