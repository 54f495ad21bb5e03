use Rattle.cqp_ring.proofs.NormLemmas.{amp_product_over_sum, amp_product_over_difference}
use Rattle.cqp_ring.proofs.laws.sum_laws.Goals as goal

pub returns-clause-sums : goal.returns-clause-sums
returns-clause-sums c = amp_product_over_sum

pub returns-clause-differences : goal.returns-clause-differences
returns-clause-differences c = amp_product_over_difference
