use Rattle.std.proofs.Common.{arith, subst, sym}
use Rattle.std.specs.Prelude.{IfOk}
use Rattle.cqp_engine.specs.Upcoming.{IsLeastPart, IsUpcoming}
use Rattle.cqp_stepper.specs.Runs.{progress_of}
use Rattle.cqp_stepper.proofs.Last.{last}
use Rattle.cqp_stepper.proofs.Next.{next_if, next_told}
use Rattle.cqp_stepper.proofs.Told.{few_here}
use Rattle.cqp_stepper.proofs.stepper.StepperEngine.upcoming.Goals as goal

pub next_of-requires-clause-few : goal.next_of-requires-clause-few
next_of-requires-clause-few c =
    let s = c.self.inside in
    let laws = c.reading_laws.ensures in
    let few = few_here s.tables laws.here s.entries.items c.settle.new.self (c.in_ok-settle.ensures.kept s.entries.items c.self.invariant) laws.few in
    omega arith

pub returns-clause-next : goal.returns-clause-next
returns-clause-next c =
    let s = c.self.inside in
    let laws = c.reading_laws.ensures in
    let next = c.next_laws.ensures in
    let u = c.settle.new.self in
    let k = c.in_ok-settle.ensures.kept s.entries.items c.self.invariant in
    let first = subst (λ r. IsLeastPart (progress_of r).last c.args.part) (sym c.self.view_is) c.requires.least in
    let told =
    next_if s.tables (last s.tables laws.here s.entries.items u k) u c.args.part c.in_ok-next_of.field-0 c.found.result
    (λ x h. next_told s.tables laws.here s.entries.items u k c.in_ok-settle.ensures.seen next.fits next.operands next.least next.partner c.args.part first x h)
    c.in_ok-next_of.ensures c.found.ensures in
    subst (λ r. IfOk c.found.result (IsUpcoming (progress_of r).last c.args.part)) c.self.view_is told
