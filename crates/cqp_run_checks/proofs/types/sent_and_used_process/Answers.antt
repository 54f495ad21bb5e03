use Rattle.std.proofs.Common.{rules}
use Rattle.cqp_types.specs.Examples.{sent_and_used}
use Rattle.cqp_run_checks.proofs.RunExamples.{same_listing}
use Rattle.cqp_run_checks.proofs.TypeExamples.{sent_and_used_lists, sent_and_used_listed}
use Rattle.cqp_run_checks.proofs.types.sent_and_used_process.Goals as goal

pub make-requires-clause-listed : goal.make-requires-clause-listed
make-requires-clause-listed c =
    (sent_and_used, same_listing sent_and_used sent_and_used_lists _ _ _ _ (search rules) (search rules) (search rules) (search rules) sent_and_used_listed)
