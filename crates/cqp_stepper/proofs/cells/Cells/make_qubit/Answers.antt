use Rattle.std.proofs.Common.{◌≡◌, ◌++◌, ◌∷◌, [], Some, length, refl, ap, sym, subst, ◌∙◌}
use Rattle.cqp_cells.specs.Examples.{by}
use Rattle.cqp_trace.specs.declared.deed.Deed.TheVariants as deed
use Rattle.cqp_groups.specs.Groups.{groups_in}
use Rattle.cqp_machine.specs.Factors.{new_group}
use Rattle.cqp_stepper.specs.declared.cells.Cells.{Cells}
use Rattle.cqp_stepper.specs.Kept.{IsKept}
use Rattle.cqp_stepper.specs.Steps.{CanMakeParts, HasMadeParts, MayMake}
use Rattle.cqp_stepper.proofs.GroupSteps.{can_make_with, made_without, qubit_next, qubit_regrouped}
use Rattle.cqp_stepper.proofs.Making.{can_make}
use Rattle.cqp_stepper.proofs.OwnKept.{own_kept}
use Rattle.cqp_stepper.proofs.cells.Cells.make_qubit.Goals as goal

pub grown-requires : goal.grown-requires
grown-requires c =
    let l = c.args.tables.now in
    let s = c.args.self.now in
    qubit_next l c.requires.run.0 s c.requires.run.1 c.requires.seen c.args.n c.args.q (subst (MayMake l s c.args.n) c.requires.is c.requires.may)

pub make_parts-requires : goal.make_parts-requires
make_parts-requires c =
    let l = c.args.tables.now in
    let laws = c.make_laws.ensures in
    let s = c.args.self.now in
    let d = deed.Qbit c.args.q in
    let may = subst (MayMake l s c.args.n) c.requires.is c.requires.may in
    let can = can_make l c.requires.run.0 s c.requires.run.1 laws.here laws.own laws.room c.checked.ensures.few c.requires.seen c.args.n d 0 _ may refl
    (refl, refl) in
    can_make_with l s c.args.n c.args.deed.now c.grown.new.self (subst (CanMakeParts l s c.args.n) (sym c.requires.is) can)

pub returns-in-Ok-clause-ok : goal.returns-in-Ok-clause-ok
returns-in-Ok-clause-ok c entries k =
    let l = c.args.tables.now in
    let s = c.args.self.now in
    let u = record s { groups = c.grown.new.self } in
    let t = c.make_parts.new.self in
    let q = c.args.q in
    let d = deed.Qbit q in
    let may = subst (MayMake l s c.args.n) c.requires.is c.requires.may in
    let told = subst (HasMadeParts l u t c.args.n) c.requires.is c.in-Ok.ensures.made in
    let same = c.in-Ok.ensures.groups in
    let next = qubit_next l entries s k c.requires.seen c.args.n q may in
    let grown = c.in_ok-grown.ensures in
    let regrouped = qubit_regrouped l entries s k c.requires.seen t q next (ap groups_in same.groups ∙ grown.ok)
    (ap length same.groups ∙ grown.made) same.due in
    let made = made_without s c.grown.new.self t c.args.n d _ (told may.part may.there) in
    subst (λ z. IsKept l (entries ++ by c.args.n z ∷ []) t) (sym c.requires.is)
    (own_kept l c.make_laws.ensures.own entries s k c.requires.seen c.args.n d 0 _ may refl (refl, refl) t made regrouped)

pub returns-in-Err-clause-err : goal.returns-in-Err-clause-err
returns-in-Err-clause-err c =
    let s = c.args.self.now in
    let back : c.make_parts.new.self ≡ record s { groups = c.grown.new.self } = c.in-Err.ensures.err in
    let list : c.make_parts.new.self.groups ≡ s.groups ++ Some (new_group c.args.q) ∷ [] = ap (λ z. z.groups) back ∙ c.in_ok-grown.ensures.list in
    let less : c.drop_last.new.self ≡ s.groups = c.drop_last.ensures s.groups (Some (new_group c.args.q)) list in
    let first : record c.make_parts.new.self { groups = c.drop_last.new.self } ≡ record s { groups = c.drop_last.new.self } =
    ap {B = Cells} (λ (z : Cells). record z { groups = c.drop_last.new.self }) back in
    let then_ : record s { groups = c.drop_last.new.self } ≡ s = ap {B = Cells} (λ z. record s { groups = z }) less in
    first ∙ then_
