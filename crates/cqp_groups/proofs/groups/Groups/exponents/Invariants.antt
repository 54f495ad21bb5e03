use Rattle.std.proofs.Common.{◌≡◌}
use Rattle.cqp_machine.specs.Sums.{exponents}
use Rattle.cqp_groups.specs.Groups.{as_cells}
use Rattle.cqp_groups.proofs.groups.Groups.exponents.Given as goal

-- the sum so far
abbrev pub invariant-loop-n : goal.invariant-loop-n
invariant-loop-n l = l.h ≡ exponents l.n (as_cells l.self)
