use Rattle.std.proofs.Common.{arith}
use Rattle.std.proofs.lemmas.Bool.{false_from_ne_true}
use Rattle.std.specs.List.{list_all}
use Rattle.cqp_ring.specs.Parity.{has_even_sum}
use Rattle.cqp_vector.proofs.Bounds.{small_at}
use Rattle.cqp_vector.proofs.GroupLemmas.{exponent_of_even, norm_limit}
use Rattle.cqp_vector.proofs.laws.group_laws.Goals as goal

pub returns-clause-small : goal.returns-clause-small
returns-clause-small c = λ g k i. small_at g.nums k (norm_limit g i)

pub returns-clause-odd : goal.returns-clause-odd
returns-clause-odd c = λ g i e. false_from_ne_true (list_all has_even_sum g.nums) (λ t. let more = exponent_of_even g i t in absurd (omega arith))
