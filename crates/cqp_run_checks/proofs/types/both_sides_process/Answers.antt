use Rattle.std.proofs.Common.{rules}
use Rattle.cqp_types.specs.Examples.{on_both_sides}
use Rattle.cqp_run_checks.proofs.RunExamples.{same_listing}
use Rattle.cqp_run_checks.proofs.TypeExamples.{both_sides_lists, both_sides_listed}
use Rattle.cqp_run_checks.proofs.types.both_sides_process.Goals as goal

pub make-requires-clause-listed : goal.make-requires-clause-listed
make-requires-clause-listed c =
    (on_both_sides, same_listing on_both_sides both_sides_lists _ _ _ _ (search rules) (search rules) (search rules) (search rules) both_sides_listed)
