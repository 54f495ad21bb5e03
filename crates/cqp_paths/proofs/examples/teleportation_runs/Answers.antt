use Rattle.std.proofs.Common.{refl}
use Rattle.cqp_cells.specs.Teleportation.{teleportation}
use Rattle.cqp_paths.specs.Examples.{teleportation_trace}
use Rattle.cqp_paths.specs.Script.{script_answers}
use Rattle.cqp_paths.proofs.Runs.{run_of}
use Rattle.cqp_paths.proofs.TeleportationRuns.{followed_first, teleportation_follows, teleportation_lawful, teleportation_plain}
use Rattle.cqp_paths.proofs.examples.teleportation_runs.Goals as goal

pub returns-clause-plain : goal.returns-clause-plain
returns-clause-plain c script is = record {
  run = run_of (script_answers script) teleportation teleportation_trace c.derivable_cases.ensures.teleportation refl teleportation_lawful
      (teleportation_follows script is);
  plain = record { entries = teleportation_plain; stop = tt };
}

pub returns-clause-no_other : goal.returns-clause-no_other
returns-clause-no_other c script run = followed_first script run.follows
