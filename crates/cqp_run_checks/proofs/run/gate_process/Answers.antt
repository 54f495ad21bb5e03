use Rattle.std.proofs.Common.{rules}
use Rattle.cqp_syntax.specs.Examples.{one_gate}
use Rattle.cqp_run_checks.proofs.RunExamples.{gate_lists, gate_listed, same_listing}
use Rattle.cqp_run_checks.proofs.run.gate_process.Goals as goal

pub make-requires-clause-listed : goal.make-requires-clause-listed
make-requires-clause-listed c =
    (one_gate, same_listing one_gate gate_lists _ _ _ _ (search rules) (search rules) (search rules) (search rules) gate_listed)
