use Rattle.std.proofs.Common.{rules, [], ◌∷◌, ◌++◌}
use Rattle.cqp_syntax.specs.declared.val.Val.TheVariants as val
use Rattle.cqp_step_checks.specs.Processes.{received_lists}
use Rattle.cqp_step_checks.specs.Steps.{receipt_steps, yes_steps}
use Rattle.cqp_step_checks.proofs.Walked.{walked, yes_walked}
use Rattle.cqp_step_checks.proofs.turns.equal_sums_take_the_first_branch.Goals as goal

pub gives-requires : goal.gives-requires
gives-requires g c =
    walked c.in_ok-told.told received_lists (c.num.result ∷ c.num-2.result ∷ []) (val.Num 5 ∷ val.Num 3 ∷ [])
    c.in_ok-steps.steps.items (receipt_steps ++ yes_steps)
    (search rules) (search rules) (search rules) yes_walked
