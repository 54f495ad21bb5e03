use Rattle.std.proofs.Common.{rules}
use Rattle.cqp_step_checks.specs.Processes.{received, received_lists}
use Rattle.cqp_step_checks.proofs.Listed.{received_listed, same_listing}
use Rattle.cqp_step_checks.proofs.processes.received_told.Goals as goal

pub make-requires-clause-listed : goal.make-requires-clause-listed
unfolding received_lists
make-requires-clause-listed c =
    (received, same_listing received received_lists _ _ _ _ (search rules) (search rules) (search rules) (search rules) received_listed)

pub returns : goal.returns
unfolding received_lists
returns c = search rules
