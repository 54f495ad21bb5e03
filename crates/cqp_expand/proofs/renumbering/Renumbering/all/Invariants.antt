use Rattle.std.proofs.Common.{◌≡◌, map, take}
use Rattle.cqp_expand.specs.Moved.{node_at}
use Rattle.cqp_expand.proofs.renumbering.Renumbering.all.Given as goal

abbrev pub invariant-loop-node : goal.invariant-loop-node
invariant-loop-node l = l.numbers ≡ map (node_at l.self) (take l.node-index l.nodes)
