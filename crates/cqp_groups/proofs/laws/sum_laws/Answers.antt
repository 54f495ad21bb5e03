use Rattle.cqp_groups.proofs.RunGroups.{exponents_few, fits, small, sums}
use Rattle.cqp_groups.proofs.laws.sum_laws.Goals as goal

pub returns-clause-levels : goal.returns-clause-levels
returns-clause-levels c = sums

pub returns-clause-exponents : goal.returns-clause-exponents
returns-clause-exponents c = exponents_few

pub returns-clause-norms : goal.returns-clause-norms
returns-clause-norms c = fits

pub returns-clause-small : goal.returns-clause-small
returns-clause-small c = small
