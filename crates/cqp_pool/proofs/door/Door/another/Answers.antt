use Rattle.std.proofs.Common.{ap}
use Rattle.cqp_pool.specs.Parts.{Entered}
use Rattle.cqp_pool.proofs.Steps.{forks}
use Rattle.cqp_pool.proofs.door.Door.another.Goals as goal

pub another-entry-requires-clause-rule : goal.another-entry-requires-clause-rule
another-entry-requires-clause-rule g c = forks g.T.Numbered.number _ _ (rw (ap (λ (o : Entered). o.view.parts) c.self.view_is) c.requires)
