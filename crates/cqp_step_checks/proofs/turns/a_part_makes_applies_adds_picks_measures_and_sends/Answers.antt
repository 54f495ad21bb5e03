use Rattle.std.proofs.Common.{rules, refl, [], ◌++◌}
use Rattle.cqp_step_checks.specs.Processes.{sums_lists}
use Rattle.cqp_step_checks.specs.Steps.{gate_steps, start_steps, sum_steps}
use Rattle.cqp_step_checks.proofs.Walked.{walked, sums_walked}
use Rattle.cqp_step_checks.proofs.turns.a_part_makes_applies_adds_picks_measures_and_sends.Goals as goal

pub gives-requires : goal.gives-requires
gives-requires g c =
    walked c.in_ok-told.told sums_lists [] [] c.in_ok-steps.steps.items (start_steps ++ (gate_steps ++ sum_steps))
    (search rules) refl (search rules) sums_walked
