use Rattle.std.proofs.Common.{◌++◌, ◌∷◌, [], length, refl, ap, sym, subst, ◌∙◌}
use Rattle.cqp_cells.specs.Examples.{by}
use Rattle.cqp_trace.specs.declared.deed.Deed.TheVariants as deed
use Rattle.cqp_groups.specs.Groups.{ArePlacesOf, CanGateAt, as_cells}
use Rattle.cqp_machine.specs.After.{groups_by}
use Rattle.cqp_stepper.specs.Kept.{IsKept}
use Rattle.cqp_stepper.specs.Steps.{CanMakeParts, HasMadeParts, MayMake}
use Rattle.cqp_stepper.proofs.GroupSteps.{can_gate, gate_fits, gate_regrouped, group_below, made_with}
use Rattle.cqp_stepper.proofs.Making.{can_make}
use Rattle.cqp_stepper.proofs.OwnKept.{own_kept}
use Rattle.cqp_stepper.proofs.cells.Cells.make_gate.Goals as goal

pub places-requires : goal.places-requires
places-requires c = group_below c.args.self.now.groups c.args.gate.group c.requires.gathered.before c.requires.gathered.there

pub make_parts-requires : goal.make_parts-requires
make_parts-requires c =
    let l = c.args.tables.now in
    let laws = c.make_laws.ensures in
    let entries = c.requires.run.0 in
    let k = c.requires.run.1 in
    let s = c.args.self.now in
    let gate = c.args.gate in
    let d = deed.Gate gate.op gate.qubits.now in
    let may = subst (MayMake l s c.args.n) c.requires.is c.requires.may in
    let fits = gate_fits l entries s k c.requires.seen laws.groups gate.group gate.qubits.now c.requires.gathered laws.levels gate.op c.requires.room in
    subst (CanMakeParts l s c.args.n) (sym c.requires.is)
    (can_make l entries s k laws.here laws.own laws.room c.checked.ensures.few c.requires.seen c.args.n d gate.group _ may refl fits)

pub gate_at-requires : goal.gate_at-requires
gate_at-requires c =
    let l = c.args.tables.now in
    let laws = c.make_laws.ensures in
    let s = c.args.self.now in
    let gate = c.args.gate in
    let may = subst (MayMake l s c.args.n) c.requires.is c.requires.may in
    let can = can_gate l c.requires.run.0 s c.requires.run.1 c.requires.seen laws.groups gate.group gate.qubits.now c.requires.gathered laws.gate laws.levels
    c.args.n gate.op c.requires.room may in
    let same = c.in_ok-make_parts.ensures.groups.groups in
    let at = subst (ArePlacesOf s.groups gate.group gate.qubits.now) (sym c.as_slice.ensures) c.in_ok-places.ensures in
    subst (λ z. CanGateAt z gate.group gate.op c.as_slice.result.now) (sym same) (record { qubits = gate.qubits.now; can = can; at = at })

pub returns-clause-ok : goal.returns-clause-ok
returns-clause-ok c entries k =
    let l = c.args.tables.now in
    let laws = c.make_laws.ensures in
    let s = c.args.self.now in
    let u = c.make_parts.new.self in
    let gate = c.args.gate in
    let qs = gate.qubits.now in
    let d = deed.Gate gate.op qs in
    let may = subst (MayMake l s c.args.n) c.requires.is c.requires.may in
    let told = subst (HasMadeParts l s u c.args.n) c.requires.is c.in_ok-make_parts.ensures.made in
    let same = c.in_ok-make_parts.ensures.groups in
    let new = c.gate_at.new.self in
    let t = record u { groups = new } in
    let fits = gate_fits l entries s k c.requires.seen laws.groups gate.group qs c.requires.gathered laws.levels gate.op c.requires.room in
    let at = subst (ArePlacesOf s.groups gate.group qs) (sym c.as_slice.ensures) c.in_ok-places.ensures in
    let at_now = subst (λ z. ArePlacesOf z gate.group qs c.as_slice.result.now) (sym same.groups) at in
    let groups = c.gate_at.ensures.value qs at_now ∙ ap (λ z. groups_by (as_cells z) d gate.group) same.groups in
    let places = c.gate_at.ensures.made ∙ ap length same.groups in
    let regrouped = gate_regrouped l entries s k c.requires.seen laws.groups gate.group qs c.requires.gathered t gate.op groups places same.due in
    let made = made_with s u c.args.n d _ new u.due (told may.part may.there) in
    subst (λ z. IsKept l (entries ++ by c.args.n z ∷ []) t) (sym c.requires.is)
    (own_kept l laws.own entries s k c.requires.seen c.args.n d gate.group _ may refl fits t made regrouped)
