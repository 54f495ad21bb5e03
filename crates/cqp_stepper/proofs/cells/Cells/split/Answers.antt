use Rattle.std.proofs.Common.{rules, ◌≡◌, true, None, ◌∙◌}
use Rattle.cqp_groups.specs.Groups.{groups_in}
use Rattle.cqp_machine.specs.After.{split_in}
use Rattle.cqp_machine.specs.Enabled.{name_of_rest}
use Rattle.cqp_machine.specs.Factors.{rest_of}
use Rattle.cqp_machine.specs.Shown.{cells_of}
use Rattle.cqp_stepper.proofs.Gathered.{due_there, may_split, none_behind, none_due_in, regrouped_kept}
use Rattle.cqp_stepper.proofs.cells.Cells.split.Goals as goal

pub split-requires : goal.split-requires
split-requires c =
    let l = c.args.tables.now in
    let s = c.args.self.now in
    let entries = c.requires.run.0 in
    let k = c.requires.run.1 in
    let n = c.args.group in
    let is : c.has_due.result ≡ true = search rules in
    let there = due_there (groups_in s.groups n) c.has_due.result c.has_due.ensures.there c.has_due.ensures.none is in
    (c.group_laws.ensures.due l k.events s.groups n _ there.0.due k.groups (may_split l entries s k n there.0 there.1 there.2)).0

pub returns-clause-kept : goal.returns-clause-kept
returns-clause-kept c entries k =
    let l = c.args.tables.now in
    let s = c.args.self.now in
    let n = c.args.group in
    let is : c.has_due.result ≡ true = search rules in
    let there = due_there (groups_in s.groups n) c.has_due.result c.has_due.ensures.there c.has_due.ensures.none is in
    let g = there.0 in
    let rest = name_of_rest n (rest_of g.qubits g.due) in
    let may = may_split l entries s k n g there.1 there.2 in
    let f = split_in n g.due rest ((cells_of l k.events).groups n) (cells_of l k.events).groups in
    let r = c.group_laws.ensures.split l k.events n rest g.due k.settled may in
    let law = (c.group_laws.ensures.due l k.events s.groups n rest g.due k.groups may).1 in
    let are : groups_in c.split.new.self ≡ f = c.in_ok-split.ensures.ok ∙ law in
    let none = none_behind l entries s k n rest g c.requires.is there.1 in
    regrouped_kept l entries s k _ f c.split.new.self None r are c.split.ensures.made (none_due_in c.split.new.self f are none)
