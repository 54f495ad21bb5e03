use Rattle.std.proofs.Common.{◌≡◌, true, None, take}
use Rattle.std.specs.List.{AllByRecursion}
use Rattle.cqp_groups.specs.Groups.{groups_in, holds}
use Rattle.cqp_stepper.specs.Gathering.{HasOnlyNewGroups, IsGroup}
use Rattle.cqp_stepper.specs.Kept.{Keeps}
use Rattle.cqp_stepper.proofs.cells.Cells.gather.Given as goal

-- the group has the qubits so far
abbrev pub invariant-loop-q : goal.invariant-loop-q
invariant-loop-q l = record {
  kept : Keeps l.tables l.fn.self l.self;
  same : HasOnlyNewGroups l.fn.self l.self;
  none : l.self.due ≡ None;
  there : IsGroup l.self l.group;
  has : AllByRecursion (λ p. holds p (groups_in l.self.groups l.group) ≡ true) (take l.q-index l.qubits);
}
