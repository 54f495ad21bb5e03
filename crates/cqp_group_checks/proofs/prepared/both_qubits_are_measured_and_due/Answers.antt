use Rattle.std.proofs.Common.{[], ◌∷◌, sym, subst}
use Rattle.std.specs.Prelude.{None, Some}
use Rattle.cqp_groups.specs.Groups.{ArePlacesOf, CanMeasure}
use Rattle.cqp_group_checks.specs.Pairs.{bell}
use Rattle.cqp_group_checks.proofs.Places.{both_places, made, may_measure_both}
use Rattle.cqp_group_checks.proofs.prepared.both_qubits_are_measured_and_due.Goals as goal

pub places-requires : goal.places-requires
places-requires g c = made _ (Some bell) None c.in_ok-groups.ensures

pub has_outcome-possible-requires-clause-number : goal.has_outcome-possible-requires-clause-number
has_outcome-possible-requires-clause-number g c = made _ (Some bell) None c.in_ok-groups.ensures

pub has_outcome-possible-requires-clause-places : goal.has_outcome-possible-requires-clause-places
has_outcome-possible-requires-clause-places g c =
    both_places c.in_ok-groups.groups c.as_slice.result.now c.in_ok-groups.ensures
    (subst (ArePlacesOf c.in_ok-groups.groups 0 (0 ∷ 1 ∷ [])) (sym c.as_slice.ensures) c.in_ok-places.ensures)

pub has_outcome-other-requires-clause-places : goal.has_outcome-other-requires-clause-places
has_outcome-other-requires-clause-places g c =
    both_places c.in_ok-groups.groups c.as_slice-2.result.now c.in_ok-groups.ensures
    (subst (ArePlacesOf c.in_ok-groups.groups 0 (0 ∷ 1 ∷ [])) (sym c.as_slice-2.ensures) c.in_ok-places.ensures)

pub measured_at-requires-clause-can : goal.measured_at-requires-clause-can
measured_at-requires-clause-can g c =
    subst (λ qs. CanMeasure c.in_ok-groups.groups 0 qs 3) (sym c.in_ok-qubits.ensures)
    (may_measure_both _ c.in_ok-groups.ensures)
