use Rattle.std.proofs.Common.{◌∙◌}
use Rattle.cqp_vector.proofs.Filters.{one_more}
use Rattle.cqp_vector.proofs.factor.measured_qubits.singles.Goals as goal

pub loop-i-preserved : goal.loop-i-preserved
loop-i-preserved c = c.in_ok-push.ensures.items ∙ one_more _ c.loop-i.i _ _ c.loop-i.invariant c.in_ok-nth.ensures
