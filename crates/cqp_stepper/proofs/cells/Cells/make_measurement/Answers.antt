use Rattle.std.proofs.Common.{rules, ◌≡◌, ◌++◌, ◌∷◌, [], Some, true, false, length, refl, ap, sym, subst, ◌∙◌}
use Rattle.cqp_cells.specs.Examples.{by}
use Rattle.cqp_trace.specs.declared.deed.Deed.TheVariants as deed
use Rattle.cqp_groups.specs.Groups.{ArePlacesOf, CanMeasure, as_cells}
use Rattle.cqp_machine.specs.After.{groups_by}
use Rattle.cqp_machine.specs.Factors.{state_of}
use Rattle.cqp_vector.specs.Measurement.{is_outcome}
use Rattle.cqp_stepper.specs.Kept.{IsKept}
use Rattle.cqp_stepper.specs.Steps.{CanMakeParts, HasMadeParts, MayMake}
use Rattle.cqp_stepper.proofs.GroupSteps.{can_measure, group_below, likely_there, made_with, measure_fits, measure_places, measure_regrouped}
use Rattle.cqp_stepper.proofs.Making.{can_make}
use Rattle.cqp_stepper.proofs.OwnKept.{own_kept}
use Rattle.cqp_stepper.proofs.cells.Cells.make_measurement.Goals as goal

pub places-requires : goal.places-requires
places-requires c = group_below c.args.self.now.groups c.args.measured.group c.requires.gathered.gathered.before c.requires.gathered.gathered.there

pub has_outcome-requires-clause-places : goal.has_outcome-requires-clause-places
has_outcome-requires-clause-places c g there =
    let l = c.args.tables.now in
    let s = c.args.self.now in
    let of = c.args.measured in
    let at = subst (ArePlacesOf s.groups of.group of.qubits.now) (sym c.as_slice.ensures) c.in_ok-places.ensures in
    measure_places l c.requires.run.0 s c.requires.run.1 c.requires.seen c.make_laws.ensures.groups of.group of.qubits.now c.requires.gathered.gathered
    c.args.n of.outcome (subst (MayMake l s c.args.n) c.requires.is c.requires.may) c.as_slice.result.now at g there

pub returns-then-not-has_outcome-clause-not : goal.returns-then-not-has_outcome-clause-not
returns-then-not-has_outcome-clause-not c not =
    let s = c.args.self.now in
    let of = c.args.measured in
    let x = c.requires.gathered.gathered in
    let at = subst (ArePlacesOf s.groups of.group of.qubits.now) (sym c.as_slice.ensures) c.in_ok-places.ensures in
    let is : c.has_outcome.result ≡ false = search rules in (
      λ g there. ap (λ ps. is_outcome ps (state_of g) of.outcome) (sym (at g there)) ∙ (sym (c.has_outcome.ensures g there) ∙ is),
      refl,
    )

pub make_parts-requires : goal.make_parts-requires
make_parts-requires c =
    let l = c.args.tables.now in
    let laws = c.make_laws.ensures in
    let entries = c.requires.run.0 in
    let k = c.requires.run.1 in
    let s = c.args.self.now in
    let of = c.args.measured in
    let d = deed.Measure of.qubits.now of.outcome in
    let may = subst (MayMake l s c.args.n) c.requires.is c.requires.may in
    let x = c.requires.gathered.gathered in
    let at = subst (ArePlacesOf s.groups of.group of.qubits.now) (sym c.as_slice.ensures) c.in_ok-places.ensures in
    let is : c.has_outcome.result ≡ true = search rules in
    let likely = likely_there l entries s k c.requires.seen laws.groups of.group of.qubits.now x of.outcome c.as_slice.result.now c.has_outcome.result at
    c.has_outcome.ensures ∙ is in
    let fits = measure_fits l entries s k c.requires.seen laws.groups of.group of.qubits.now x of.outcome likely in
    subst (CanMakeParts l s c.args.n) (sym c.requires.is)
    (can_make l entries s k laws.here laws.own laws.room c.checked.ensures.few c.requires.seen c.args.n d of.group _ may refl fits)

pub measured_at-requires-clause-can : goal.measured_at-requires-clause-can
measured_at-requires-clause-can c =
    let l = c.args.tables.now in
    let laws = c.make_laws.ensures in
    let s = c.args.self.now in
    let of = c.args.measured in
    let may = subst (MayMake l s c.args.n) c.requires.is c.requires.may in
    let x = c.requires.gathered.gathered in
    let at = subst (ArePlacesOf s.groups of.group of.qubits.now) (sym c.as_slice.ensures) c.in_ok-places.ensures in
    let is : c.has_outcome.result ≡ true = search rules in
    let likely = likely_there l c.requires.run.0 s c.requires.run.1 c.requires.seen laws.groups of.group of.qubits.now x of.outcome c.as_slice.result.now
    c.has_outcome.result at c.has_outcome.ensures ∙ is in
    let can = can_measure l c.requires.run.0 s c.requires.run.1 c.requires.seen laws.groups of.group of.qubits.now x laws.measure c.args.n of.outcome
    likely may in
    let due : c.in_ok-due.due ≡ of.qubits.now = search rules in
    subst (λ z. CanMeasure z of.group c.in_ok-due.due of.outcome) (sym c.in_ok-make_parts.ensures.groups.groups)
    (subst (λ z. CanMeasure s.groups of.group z of.outcome) (sym due) can)

pub returns-clause-made : goal.returns-clause-made
returns-clause-made c is_made entries k =
    let l = c.args.tables.now in
    let laws = c.make_laws.ensures in
    let s = c.args.self.now in
    let u = c.make_parts.new.self in
    let of = c.args.measured in
    let qs = of.qubits.now in
    let d = deed.Measure qs of.outcome in
    let may = subst (MayMake l s c.args.n) c.requires.is c.requires.may in
    let x = c.requires.gathered.gathered in
    let at = subst (ArePlacesOf s.groups of.group qs) (sym c.as_slice.ensures) c.in_ok-places.ensures in
    let is : c.has_outcome.result ≡ true = search rules in
    let likely = likely_there l entries s k c.requires.seen laws.groups of.group qs x of.outcome c.as_slice.result.now c.has_outcome.result at
    c.has_outcome.ensures ∙ is in
    let due : c.in_ok-due.due ≡ qs = search rules in
    let told = subst (HasMadeParts l s u c.args.n) c.requires.is c.in_ok-make_parts.ensures.made in
    let same = c.in_ok-make_parts.ensures.groups in
    let new = c.measured_at.new.self in
    let t = record u { groups = new; due = Some of.group } in
    let fits = measure_fits l entries s k c.requires.seen laws.groups of.group qs x of.outcome likely in
    let groups = c.measured_at.ensures.value
    ∙ (ap (λ z. groups_by (as_cells u.groups) (deed.Measure z of.outcome) of.group) due ∙ ap (λ z. groups_by (as_cells z) d of.group) same.groups) in
    let places = c.measured_at.ensures.made ∙ ap length same.groups in
    let regrouped = measure_regrouped l entries s k c.requires.seen laws.groups of.group qs x t of.outcome c.requires.gathered.none groups places refl in
    let made = made_with s u c.args.n d _ new (Some of.group) (told may.part may.there) in
    subst (λ z. IsKept l (entries ++ by c.args.n z ∷ []) t) (sym c.requires.is)
    (own_kept l laws.own entries s k c.requires.seen c.args.n d of.group _ may refl fits t made regrouped)
