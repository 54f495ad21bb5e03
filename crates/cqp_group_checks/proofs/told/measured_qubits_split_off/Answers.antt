use Rattle.cqp_group_checks.proofs.Asked.{may_split}
use Rattle.cqp_group_checks.proofs.told.measured_qubits_split_off.Goals as goal

pub split-requires : goal.split-requires
split-requires g c = may_split _ c.in_ok-groups.ensures
