use Rattle.std.proofs.Common.{rules}
use Rattle.cqp_run_checks.specs.QubitBinders.{thirteen_qubits}
use Rattle.cqp_run_checks.proofs.RunExamples.{same_listing}
use Rattle.cqp_run_checks.proofs.TypeExamples.{thirteen_lists, thirteen_listed}
use Rattle.cqp_run_checks.proofs.types.thirteen_process.Goals as goal

pub make-requires-clause-listed : goal.make-requires-clause-listed
make-requires-clause-listed c =
    (thirteen_qubits, same_listing thirteen_qubits thirteen_lists _ _ _ _ (search rules) (search rules) (search rules) (search rules) thirteen_listed)
