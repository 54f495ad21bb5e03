use Rattle.cqp_stepper.proofs.Weighed.{weighed_here}
use Rattle.cqp_stepper.proofs.stepper.Stepper.weighed.Goals as goal

pub returns : goal.returns
returns c =
    let s = c.self.inside in
    rw (← c.self.view_is)
    (weighed_here s.tables c.reading_laws.ensures.here s.entries.items s.cells c.self.invariant c.told_factors.ensures.state
    c.told_factors.ensures.small c.weight_laws.ensures.only c.weight_laws.ensures.below)
