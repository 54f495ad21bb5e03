use Rattle.std.proofs.Common.{◌≡◌}
use Rattle.cqp_machine.specs.Sums.{levels}
use Rattle.cqp_groups.specs.Groups.{as_cells}
use Rattle.cqp_groups.proofs.groups.Groups.level.Given as goal

-- the sum so far
abbrev pub invariant-loop-n : goal.invariant-loop-n
invariant-loop-n l = l.level ≡ levels l.n (as_cells l.self)
