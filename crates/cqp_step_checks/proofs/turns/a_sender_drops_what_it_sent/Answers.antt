use Rattle.std.proofs.Common.{rules, refl, [], ◌∷◌, ◌++◌}
use Rattle.std.specs.Prelude.{Some}
use Rattle.cqp_trace.specs.declared.deed.Deed.TheVariants as deed
use Rattle.cqp_step_checks.specs.Processes.{shared_lists}
use Rattle.cqp_step_checks.specs.Steps.{start_steps}
use Rattle.cqp_step_checks.proofs.Walked.{walked, sent_walked}
use Rattle.cqp_step_checks.proofs.turns.a_sender_drops_what_it_sent.Goals as goal

pub gives-requires : goal.gives-requires
gives-requires g c =
    walked c.in_ok-told.told shared_lists [] [] c.in_ok-steps.steps.items (start_steps ++ Some (deed.Com 1 0) ∷ [])
    (search rules) refl (search rules) sent_walked
