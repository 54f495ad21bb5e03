use Rattle.std.proofs.Common.{◌∙◌}
use Rattle.cqp_groups.proofs.group.Group.gate.Goals as goal

pub returns-clause-ok : goal.returns-clause-ok
returns-clause-ok c = c.gate_at.ensures c.args.qubits.now (c.as_slice.ensures ∙ c.in_ok-places.ensures)
