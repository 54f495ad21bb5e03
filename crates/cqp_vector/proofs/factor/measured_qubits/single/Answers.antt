use Rattle.cqp_vector.proofs.PieceLemmas.{single_made}
use Rattle.cqp_vector.proofs.factor.measured_qubits.single.Goals as goal

pub invariant_of-result : goal.invariant_of-result
invariant_of-result c = single_made c.args.q c.args.bit c.args.amp c.args.h _ _ c.requires c.in_ok-alone.ensures c.in_ok-at_bit.ensures
