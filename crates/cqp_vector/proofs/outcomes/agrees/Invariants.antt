use Rattle.std.proofs.Common.{◌≡◌, ◌≤◌, length, take}
use Rattle.std.specs.Prelude.{◌==◌}
use Rattle.cqp_vector.specs.Measurement.{outcome_at}
use Rattle.cqp_vector.proofs.outcomes.agrees.Given as goal

-- the places before i are left to be compared
abbrev pub invariant-loop-i : goal.invariant-loop-i
invariant-loop-i l = record {
  same : (outcome_at l.qubits l.places l.k == l.outcome) ≡ (outcome_at l.qubits (take l.i l.places) l.k == l.left);
  within : l.i ≤ length l.places;
}

abbrev pub decreases-loop-i : goal.decreases-loop-i
decreases-loop-i l = l.i
