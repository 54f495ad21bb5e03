use Rattle.std.proofs.Common.{sym, subst}
use Rattle.cqp_groups.specs.Groups.{ArePlacesOf}
use Rattle.cqp_groups.proofs.groups.Groups.gate.Goals as goal

pub returns-clause-ok : goal.returns-clause-ok
returns-clause-ok c =
    c.gate_at.ensures.value c.args.qubits.now
    (subst (ArePlacesOf c.args.self.now c.args.group c.args.qubits.now) (sym c.as_slice.ensures) c.in_ok-places.ensures)

pub returns-clause-state : goal.returns-clause-state
returns-clause-state c =
    c.gate_at.ensures.state c.args.qubits.now
    (subst (ArePlacesOf c.args.self.now c.args.group c.args.qubits.now) (sym c.as_slice.ensures) c.in_ok-places.ensures)
