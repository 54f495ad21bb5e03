use Rattle.std.proofs.Common.{subst, sym}
use Rattle.cqp_groups.specs.Groups.{ArePlacesOf, CanMeasure}
use Rattle.cqp_groups.proofs.groups.Groups.measured.Goals as goal

pub measured_at-requires-clause-can : goal.measured_at-requires-clause-can
measured_at-requires-clause-can c =
    subst (λ qs. CanMeasure c.args.self.now c.args.group qs c.args.outcome) (sym c.in_ok-due.ensures) c.requires

pub measured_at-requires-clause-places : goal.measured_at-requires-clause-places
measured_at-requires-clause-places c =
    subst (λ qs. ArePlacesOf c.args.self.now c.args.group qs c.as_slice.result.now) (sym c.in_ok-due.ensures)
    (subst (ArePlacesOf c.args.self.now c.args.group c.args.qubits.now) (sym c.as_slice.ensures) c.in_ok-places.ensures)
