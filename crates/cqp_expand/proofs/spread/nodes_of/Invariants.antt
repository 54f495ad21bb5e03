use Rattle.std.proofs.Common.{◌≡◌}
use Rattle.cqp_expand.specs.Copies.{own_nodes}
use Rattle.cqp_expand.proofs.spread.nodes_of.Given as goal

abbrev pub invariant-loop-member : goal.invariant-loop-member
invariant-loop-member l = l.nodes ≡ own_nodes l.yielded
