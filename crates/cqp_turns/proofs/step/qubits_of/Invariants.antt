use Rattle.std.proofs.Common.{◌≡◌, map, take}
use Rattle.cqp_standing.specs.Stands.{val_of, val_or_unit}
use Rattle.cqp_turns.specs.Turns.{qubit_in}
use Rattle.cqp_turns.proofs.step.qubits_of.Given as goal

-- the qubits of the names so far
abbrev pub invariant-loop-name : goal.invariant-loop-name
invariant-loop-name l = l.qubits ≡ map (λ x. qubit_in (val_or_unit (val_of x l.env))) (take l.name-index l.names)
