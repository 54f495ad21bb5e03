use Rattle.std.proofs.Common.{rules}
use Rattle.cqp_step_checks.specs.Processes.{nothing, nothing_lists}
use Rattle.cqp_step_checks.proofs.Listed.{nothing_listed, same_listing}
use Rattle.cqp_step_checks.proofs.processes.nothing_told.Goals as goal

pub make-requires-clause-listed : goal.make-requires-clause-listed
unfolding nothing_lists
make-requires-clause-listed c =
    (nothing, same_listing nothing nothing_lists _ _ _ _ (search rules) (search rules) (search rules) (search rules) nothing_listed)

pub returns : goal.returns
unfolding nothing_lists
returns c = search rules
