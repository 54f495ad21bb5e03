use Rattle.std.proofs.Common.{◌-◌}
use Rattle.cqp_types.specs.Tables.{EndsFrom}
use Rattle.cqp_types.proofs.uses.ends_of.Given as goal

-- the ends of the nodes so far, from the last
abbrev pub invariant-loop-k : goal.invariant-loop-k
invariant-loop-k l = EndsFrom l.given l.ends.items (l.count - l.k)
