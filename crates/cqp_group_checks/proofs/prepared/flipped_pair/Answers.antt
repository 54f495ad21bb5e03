use Rattle.std.proofs.Common.{[], ◌∷◌, sym, subst}
use Rattle.std.specs.Prelude.{None, Some}
use Rattle.cqp_syntax.specs.declared.op.Op.TheVariants as op
use Rattle.cqp_groups.specs.Groups.{ArePlacesOf}
use Rattle.cqp_group_checks.specs.Pairs.{bell}
use Rattle.cqp_group_checks.proofs.Changes.{gate_leaves}
use Rattle.cqp_group_checks.proofs.Places.{made, may_flip}
use Rattle.cqp_group_checks.proofs.prepared.flipped_pair.Goals as goal

pub places-requires : goal.places-requires
places-requires c = made _ (Some bell) None c.in_ok-groups.ensures

pub gate_at-requires : goal.gate_at-requires
gate_at-requires c =
    may_flip c.in_ok-groups.groups c.as_slice.result.now c.in_ok-groups.ensures
    (subst (ArePlacesOf c.in_ok-groups.groups 0 (1 ∷ [])) (sym c.as_slice.ensures) c.in_ok-places.ensures)

pub returns : goal.returns
returns c =
    gate_leaves c.in_ok-groups.groups c.gate_at.new.self bell None op.X (1 ∷ []) c.in_ok-groups.ensures
    (c.gate_at.ensures.value (1 ∷ [])
    (subst (ArePlacesOf c.in_ok-groups.groups 0 (1 ∷ [])) (sym c.as_slice.ensures) c.in_ok-places.ensures))
    c.gate_at.ensures.made
