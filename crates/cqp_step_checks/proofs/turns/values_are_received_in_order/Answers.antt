use Rattle.std.proofs.Common.{rules, [], ◌∷◌}
use Rattle.cqp_syntax.specs.declared.val.Val.TheVariants as val
use Rattle.cqp_step_checks.specs.Processes.{received_lists}
use Rattle.cqp_step_checks.specs.Steps.{receipt_steps}
use Rattle.cqp_step_checks.proofs.Walked.{walked, receipt_walked}
use Rattle.cqp_step_checks.proofs.turns.values_are_received_in_order.Goals as goal

pub gives-requires : goal.gives-requires
gives-requires g c =
    walked c.in_ok-told.told received_lists (c.num.result ∷ c.num-2.result ∷ []) (val.Num 5 ∷ val.Num 3 ∷ []) c.in_ok-steps.steps.items receipt_steps
    (search rules) (search rules) (search rules) receipt_walked
