use Rattle.cqp_stepper.proofs.Tried.{limit_here}
use Rattle.cqp_stepper.proofs.stepper.StepperEngine.is_at_limit.Goals as goal

pub returns : goal.returns
returns c =
    let s = c.self.inside in
    let both = limit_here s.tables c.reading_laws.ensures.here s.entries.items s.cells c.self.invariant c.reading_laws.ensures.limit in
    rw (← c.self.view_is) (λ t. both.1 (c.has_reached_limit.ensures.0 t), λ most. c.has_reached_limit.ensures.1 (both.0 most))
