use Rattle.std.proofs.Common.{length}
use Rattle.cqp_groups.proofs.OutcomeLemmas.{IsZeroBelow}
use Rattle.cqp_groups.proofs.outcome.has_outcome.Given as goal

-- the projection is zero at the places that were passed
abbrev pub invariant-loop-k : goal.invariant-loop-k
invariant-loop-k l = IsZeroBelow l.places l.outcome (length l.factor.qubits) l.factor.nums l.k
