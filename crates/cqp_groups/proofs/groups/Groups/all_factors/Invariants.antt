use Rattle.std.proofs.Common.{◌≡◌}
use Rattle.cqp_groups.specs.Groups.{factors_in}
use Rattle.cqp_groups.proofs.groups.Groups.all_factors.Given as goal

-- the factors of those that were passed
abbrev pub invariant-loop-slot : goal.invariant-loop-slot
invariant-loop-slot l = l.list.items ≡ factors_in l.yielded
