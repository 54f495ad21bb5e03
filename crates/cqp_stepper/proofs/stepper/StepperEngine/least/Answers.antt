use Rattle.std.proofs.Common.{subst}
use Rattle.cqp_engine.specs.Upcoming.{IsLeastOrStuck}
use Rattle.cqp_stepper.specs.Runs.{progress_of}
use Rattle.cqp_stepper.proofs.Last.{last, table_here}
use Rattle.cqp_stepper.proofs.Next.{least_told}
use Rattle.cqp_stepper.proofs.stepper.StepperEngine.least.Goals as goal

pub returns-clause-least : goal.returns-clause-least
returns-clause-least c =
    let s = c.self.inside in
    let here = c.reading_laws.ensures.here in
    let u = c.settle.new.self in
    let k = c.in_ok-settle.ensures.kept s.entries.items c.self.invariant in
    let told = least_told c.next_laws.ensures.stuck c.next_laws.ensures.least _ (last s.tables here s.entries.items u k)
    (table_here s.tables here s.entries.items u k c.in_ok-settle.ensures.seen) c.least_part.result c.least_part.ensures in
    subst (λ r. IsLeastOrStuck (progress_of r).last c.least_part.result) c.self.view_is told
