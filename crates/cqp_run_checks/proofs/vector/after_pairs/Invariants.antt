use Rattle.std.proofs.Common.{◌≡◌, [], ◌∷◌}
use Rattle.cqp_run_checks.proofs.vector.after_pairs.Given as goal

abbrev pub invariant-loop : goal.invariant-loop
invariant-loop l = l.factor.qubits ≡ l.q ∷ []
