use Rattle.std.proofs.Common.{rules, refl, []}
use Rattle.cqp_step_checks.specs.Processes.{shared_lists}
use Rattle.cqp_step_checks.specs.Steps.{start_steps}
use Rattle.cqp_step_checks.proofs.Walked.{walked, start_walked}
use Rattle.cqp_step_checks.proofs.turns.each_part_keeps_its_own_names.Goals as goal

pub gives-requires : goal.gives-requires
gives-requires g c =
    walked c.in_ok-told.told shared_lists [] [] c.in_ok-steps.steps.items start_steps
    (search rules) refl (search rules) start_walked
