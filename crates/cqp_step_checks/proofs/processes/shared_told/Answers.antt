use Rattle.std.proofs.Common.{rules}
use Rattle.cqp_step_checks.specs.Processes.{shared, shared_lists}
use Rattle.cqp_step_checks.proofs.Listed.{shared_listed, same_listing}
use Rattle.cqp_step_checks.proofs.processes.shared_told.Goals as goal

pub make-requires-clause-listed : goal.make-requires-clause-listed
unfolding shared_lists
make-requires-clause-listed c =
    (shared, same_listing shared shared_lists _ _ _ _ (search rules) (search rules) (search rules) (search rules) shared_listed)

pub returns : goal.returns
unfolding shared_lists
returns c = search rules
