use Rattle.cqp_stepper.proofs.Told.{few_here, weight_here}
use Rattle.cqp_stepper.proofs.stepper.StepperEngine.weight.Goals as goal

pub norm-top-requires : goal.norm-top-requires
norm-top-requires c =
    let s = c.self.inside in
    let laws = c.reading_laws.ensures in
    laws.norms s.tables c.self.invariant.events s.cells.groups c.self.invariant.groups
    (few_here s.tables laws.here s.entries.items s.cells c.self.invariant laws.few)

pub returns-clause-is : goal.returns-clause-is
returns-clause-is c =
    let s = c.self.inside in
    let laws = c.reading_laws.ensures in
    rw (← c.self.view_is) (weight_here s.tables laws.here s.entries.items s.cells c.self.invariant laws.weight c.least.result c.norm-top.result
    c.exponents-below.result
    c.norm-top.ensures c.exponents-below.ensures c.least.ensures.same)
