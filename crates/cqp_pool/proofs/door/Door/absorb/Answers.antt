use Rattle.std.proofs.Common.{ap}
use Rattle.cqp_pool.specs.Parts.{Entered}
use Rattle.cqp_pool.proofs.Steps.{merges}
use Rattle.cqp_pool.proofs.door.Door.absorb.Goals as goal

pub absorb-requires-clause-rule : goal.absorb-requires-clause-rule
absorb-requires-clause-rule g c = merges g.T.Numbered.number _ _ _ _ (rw (ap (λ (o : Entered). o.view.parts) c.self.view_is) c.requires.part)
