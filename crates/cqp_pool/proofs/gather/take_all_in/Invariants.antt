use Rattle.std.proofs.Common.{◌≡◌}
use Rattle.cqp_pool.specs.Apart.{all_in}
use Rattle.cqp_pool.proofs.gather.take_all_in.Given as goal

abbrev pub invariant-loop-row : goal.invariant-loop-row
invariant-loop-row g l = l.owns.items ≡ all_in l.initial.owns.items l.yielded
