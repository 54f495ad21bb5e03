use Rattle.std.proofs.Common.{◌≡◌, map}
use Rattle.std.specs.Prelude.{◌==◌, if◌then◌else◌}
use Rattle.std.specs.List.{range_with_len}
use Rattle.cqp_ring.specs.Amp.{one_amp}
use Rattle.cqp_vector.specs.Pieces.{measured}
use Rattle.cqp_vector.proofs.factor.measured_qubits.singles.Given as goal

-- the measured qubits before i
abbrev pub invariant-loop-i : goal.invariant-loop-i
invariant-loop-i l = l.list.items ≡
    map (λ i. if i == 0 then measured l.places l.outcome l.qubits i l.amp l.h else measured l.places l.outcome l.qubits i one_amp 0) (range_with_len 0 l.i)
