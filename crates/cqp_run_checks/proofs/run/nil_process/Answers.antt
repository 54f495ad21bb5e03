use Rattle.std.proofs.Common.{rules}
use Rattle.cqp_syntax.specs.Trees.{nil}
use Rattle.cqp_run_checks.proofs.RunExamples.{nil_lists, nil_listed, same_listing}
use Rattle.cqp_run_checks.proofs.run.nil_process.Goals as goal

pub make-requires-clause-listed : goal.make-requires-clause-listed
make-requires-clause-listed c =
    (nil, same_listing nil nil_lists _ _ _ _ (search rules) (search rules) (search rules) (search rules) nil_listed)
