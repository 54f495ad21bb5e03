use Rattle.std.proofs.Common.{◌-◌}
use Rattle.cqp_redexes.specs.Evaluation.{CountsFrom}
use Rattle.cqp_redexes.proofs.trail.counts_of.Given as goal

-- the counts of the nodes so far, from the last
abbrev pub invariant-loop-k : goal.invariant-loop-k
invariant-loop-k l = CountsFrom l.proc l.counts.items (l.count - l.k)
