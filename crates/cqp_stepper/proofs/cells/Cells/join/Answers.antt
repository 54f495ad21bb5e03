use Rattle.std.proofs.Common.{◌≡◌, ap, sym, subst, arith, ◌∙◌}
use Rattle.cqp_groups.specs.Groups.{as_cells, groups_in}
use Rattle.cqp_machine.specs.After.{groups_joined, lesser}
use Rattle.cqp_machine.specs.Shown.{cells_of}
use Rattle.cqp_stepper.specs.Kept.{AreDueIn, is_that}
use Rattle.cqp_stepper.proofs.Gathered.{IsNoneDue, join_none, joined_alike, may_join, none_due_in, product_there, regrouped_kept}
use Rattle.cqp_stepper.proofs.cells.Cells.join.Goals as goal

pub join-requires : goal.join-requires
join-requires c =
    let l = c.args.tables.now in
    let s = c.args.self.now in
    let k = c.requires.run.1 in
    let few = c.group_laws.ensures.few l k.events k.settled.process k.checked k.settled.run in
    let places = k.groups.places in
    c.group_laws.ensures.pair l k.events s.groups c.args.left c.args.right k.groups (omega arith)
    (may_join l c.requires.run.0 s k c.args.left c.args.right c.requires.left.0 c.requires.right.0 c.requires.none c.requires.apart c.requires.left.1
    c.requires.right.1)

pub returns-clause-kept : goal.returns-clause-kept
returns-clause-kept c entries k =
    let l = c.args.tables.now in
    let s = c.args.self.now in
    let left = c.args.left in
    let right = c.args.right in
    let may = may_join l entries s k left right c.requires.left.0 c.requires.right.0 c.requires.none c.requires.apart c.requires.left.1 c.requires.right.1 in
    let r = c.group_laws.ensures.join l k.events left right k.settled may in
    let first = sym (ap (λ m. m left) k.groups.groups) ∙ c.requires.left.1 in
    let second = sym (ap (λ m. m right) k.groups.groups) ∙ c.requires.right.1 in
    let f = groups_joined (cells_of l k.events) left right in
    let are : groups_in c.join.new.self ≡ f = c.in_ok-join.ensures.ok ∙ joined_alike (as_cells s.groups) (cells_of l k.events) left right k.groups.groups in
    let before : IsNoneDue (cells_of l k.events).groups =
    λ n g at. k.due n g (ap (λ m. m n) k.groups.groups ∙ at) (ap (λ z. is_that z n) c.requires.none) in
    let none = join_none (cells_of l k.events) left right c.requires.left.0 c.requires.right.0 first second before in
    regrouped_kept l entries s k _ f c.join.new.self s.due r are c.join.ensures.made
    (subst (AreDueIn c.join.new.self) (sym c.requires.none) (none_due_in c.join.new.self f are none))

pub returns-clause-joined : goal.returns-clause-joined
returns-clause-joined c = record {
  product = λ g h first second.
      ap (groups_in c.join.new.self) c.lesser.ensures
      ∙ (ap (λ m. m (lesser c.args.left c.args.right)) c.in_ok-join.ensures.ok ∙ product_there
      (as_cells c.args.self.now.groups) c.args.left c.args.right g h first second);
  none = c.requires.none;
}
