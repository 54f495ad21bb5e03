use Rattle.cqp_norms.proofs.NormHalf.{whole_norm}
use Rattle.cqp_norms.proofs.StateHalf.{gate_stands, measure_stands}
use Rattle.cqp_norms.proofs.StateMore.{qubit_stands, join_stands}
use Rattle.std.proofs.Common.{◌-◌}
use Rattle.cqp_machine.specs.Sums.{exponents}
use Rattle.cqp_norms.proofs.laws.state_laws.Goals as goal

pub returns-clause-gate : goal.returns-clause-gate
returns-clause-gate c = gate_stands

pub returns-clause-measurement : goal.returns-clause-measurement
returns-clause-measurement c = measure_stands

pub returns-clause-qubit : goal.returns-clause-qubit
returns-clause-qubit c = qubit_stands

pub returns-clause-join : goal.returns-clause-join
returns-clause-join c = join_stands

pub returns-clause-norm : goal.returns-clause-norm
returns-clause-norm c cells h s x =
    whole_norm s cells x.own x.partition x.covers (λ g G t. (x.good g G t).shape) (h - exponents s.qubits cells) x.reads x.whole
