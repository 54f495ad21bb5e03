-- Binders of qubits, one inside the other.
use Rattle.std.specs.Prelude.{ℕ, zero, suc, ◌+◌}
use Rattle.cqp_syntax.specs.Trees.{Process, nil, qbit}

-- so many, of which the first has the name n
abbrev pub qubits_from : ℕ → ℕ → Process
qubits_from zero n = nil
qubits_from (suc k) n = qbit n (qubits_from k (n + 1))

-- one more than a run keeps
abbrev pub thirteen_qubits : Process
thirteen_qubits = qubits_from 13 0
