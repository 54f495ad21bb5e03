use Rattle.cqp_machine.proofs.Teleported.{teleportation_run}
use Rattle.cqp_machine.proofs.examples.teleportation_is_a_run.Goals as goal

pub returns-clause-run : goal.returns-clause-run
returns-clause-run c = teleportation_run
