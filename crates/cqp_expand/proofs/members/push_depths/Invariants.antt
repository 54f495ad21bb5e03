use Rattle.std.proofs.Common.{◌≡◌, ◌++◌, replicate}
use Rattle.cqp_expand.proofs.members.push_depths.Given as goal

abbrev pub invariant-loop : goal.invariant-loop
invariant-loop l = l.depths.items ≡ l.fn.depths.items ++ replicate l.counter l.depth
