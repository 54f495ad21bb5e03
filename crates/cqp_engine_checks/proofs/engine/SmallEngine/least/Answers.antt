use Rattle.std.proofs.Common.{subst, sym}
use Rattle.cqp_cells.specs.Config.{start_of}
use Rattle.cqp_engine.specs.Upcoming.{IsLeastPart}
use Rattle.cqp_engine_checks.specs.Measured.{opening}
use Rattle.cqp_engine_checks.proofs.Measured.{measures_first}
use Rattle.cqp_engine_checks.proofs.engine.SmallEngine.least.Goals as goal

pub returns-then-self-clause-least : goal.returns-then-self-clause-least
returns-then-self-clause-least c = subst (λ b. IsLeastPart (start_of (opening b)) 0) (sym c.if-self.true) measures_first
