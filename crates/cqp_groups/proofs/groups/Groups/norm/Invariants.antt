use Rattle.std.proofs.Common.{◌≡◌}
use Rattle.cqp_machine.specs.Sums.{norms}
use Rattle.cqp_groups.specs.Groups.{as_cells}
use Rattle.cqp_groups.proofs.groups.Groups.norm.Given as goal

-- the product so far
abbrev pub invariant-loop-n : goal.invariant-loop-n
invariant-loop-n l = l.norm ≡ norms l.n (as_cells l.self)
