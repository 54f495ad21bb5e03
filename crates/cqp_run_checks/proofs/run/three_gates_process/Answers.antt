use Rattle.std.proofs.Common.{rules}
use Rattle.cqp_run_checks.specs.StraightLines.{three_gates}
use Rattle.cqp_run_checks.proofs.RunExamples.{three_lists, three_listed, same_listing}
use Rattle.cqp_run_checks.proofs.run.three_gates_process.Goals as goal

pub make-requires-clause-listed : goal.make-requires-clause-listed
make-requires-clause-listed c =
    (three_gates, same_listing three_gates three_lists _ _ _ _ (search rules) (search rules) (search rules) (search rules) three_listed)
