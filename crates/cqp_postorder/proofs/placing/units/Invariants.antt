use Rattle.std.proofs.Common.{◌≡◌, ◌≤◌, replicate, vec_capacity}
use Rattle.cqp_program.specs.declared.tree.TreeNode.TheVariants.{Unit}
use Rattle.cqp_postorder.proofs.placing.units.Given as goal

abbrev pub invariant-loop : goal.invariant-loop
invariant-loop l = record {
  units : l.nodes.items ≡ replicate l.counter Unit;
  room : l.count ≤ vec_capacity l.nodes;
}
