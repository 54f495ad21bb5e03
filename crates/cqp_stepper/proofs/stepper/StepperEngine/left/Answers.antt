use Rattle.std.proofs.Common.{◌∙◌}
use Rattle.cqp_stepper.proofs.Told.{left_here}
use Rattle.cqp_stepper.proofs.stepper.StepperEngine.left.Goals as goal

pub returns : goal.returns
returns c =
    let s = c.self.inside in
    rw (← c.self.view_is) (c.left.ensures ∙ left_here s.tables c.reading_laws.ensures.here s.entries.items s.cells c.self.invariant c.reading_laws.ensures.left)
