use Rattle.std.proofs.Common.{rules}
use Rattle.cqp_step_checks.specs.Processes.{sums, sums_lists}
use Rattle.cqp_step_checks.proofs.Listed.{sums_listed, same_listing}
use Rattle.cqp_step_checks.proofs.processes.sums_told.Goals as goal

pub make-requires-clause-listed : goal.make-requires-clause-listed
unfolding sums_lists
make-requires-clause-listed c =
    (sums, same_listing sums sums_lists _ _ _ _ (search rules) (search rules) (search rules) (search rules) sums_listed)

pub returns : goal.returns
unfolding sums_lists
returns c = search rules
