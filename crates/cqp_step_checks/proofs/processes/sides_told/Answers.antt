use Rattle.std.proofs.Common.{rules}
use Rattle.cqp_step_checks.specs.Processes.{sides, sides_lists}
use Rattle.cqp_step_checks.proofs.Listed.{sides_listed, same_listing}
use Rattle.cqp_step_checks.proofs.processes.sides_told.Goals as goal

pub make-requires-clause-listed : goal.make-requires-clause-listed
unfolding sides_lists
make-requires-clause-listed c =
    (sides, same_listing sides sides_lists _ _ _ _ (search rules) (search rules) (search rules) (search rules) sides_listed)

pub returns : goal.returns
unfolding sides_lists
returns c = search rules
