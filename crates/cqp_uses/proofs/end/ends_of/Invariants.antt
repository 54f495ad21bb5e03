use Rattle.std.proofs.Common.{◌-◌}
use Rattle.cqp_uses.specs.Users.{EndsFrom}
use Rattle.cqp_uses.proofs.end.ends_of.Given as goal

-- the ends of the nodes so far, from the last
abbrev pub invariant-loop-k : goal.invariant-loop-k
invariant-loop-k l = EndsFrom l.proc l.ends.items (l.count - l.k)
