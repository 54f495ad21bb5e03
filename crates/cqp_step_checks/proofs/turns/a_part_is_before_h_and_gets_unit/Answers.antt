use Rattle.std.proofs.Common.{rules, refl, [], ◌∷◌, ◌++◌}
use Rattle.std.specs.Prelude.{Some}
use Rattle.cqp_trace.specs.declared.deed.Deed.TheVariants as deed
use Rattle.cqp_syntax.specs.declared.op.Op.TheVariants as op
use Rattle.cqp_step_checks.specs.Processes.{shared_lists}
use Rattle.cqp_step_checks.specs.Steps.{start_steps}
use Rattle.cqp_step_checks.proofs.Walked.{walked, turned_walked}
use Rattle.cqp_step_checks.proofs.turns.a_part_is_before_h_and_gets_unit.Goals as goal

pub gives-requires : goal.gives-requires
gives-requires g c =
    walked c.in_ok-told.told shared_lists [] [] c.in_ok-steps.steps.items (start_steps ++ Some (deed.Com 1 0) ∷ Some (deed.Gate op.H (1 ∷ [])) ∷ [])
    (search rules) refl (search rules) turned_walked
