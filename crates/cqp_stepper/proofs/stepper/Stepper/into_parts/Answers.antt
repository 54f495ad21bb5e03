use Rattle.std.proofs.Common.{subst}
use Rattle.std.specs.Prelude.{IfOk}
use Rattle.cqp_syntax.specs.Listing.{root}
use Rattle.cqp_stepper.specs.Factors.{AreFactorsAfter}
use Rattle.cqp_stepper.proofs.Factored.{factors_here}
use Rattle.cqp_stepper.proofs.stepper.Stepper.into_parts.Goals as goal

pub returns-clause-factors : goal.returns-clause-factors
returns-clause-factors c =
    let s = c.self.inside in
    let laws = c.told_factors.ensures in
    let told = factors_here s.tables c.reading_laws.ensures.here s.entries.items s.cells c.self.invariant laws.state laws.held laws.levels
    c.reading_laws.ensures.few c.into_factors.result c.into_factors.ensures.list c.into_factors.ensures.state in
    subst (λ r. AreFactorsAfter (root r.process) r.entries c.in_ok-factors.factors) c.self.view_is
    (subst (λ r. IfOk r (λ list. AreFactorsAfter (root s.tables) s.entries.items list)) c.in_ok-factors.was told)
