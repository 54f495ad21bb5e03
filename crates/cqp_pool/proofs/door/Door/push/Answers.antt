use Rattle.std.proofs.Common.{[], ◌∷◌, ap}
use Rattle.cqp_pool.specs.Parts.{Entered}
use Rattle.cqp_pool.proofs.Steps.{pushes}
use Rattle.cqp_pool.proofs.door.Door.push.Goals as goal

pub push_as-requires-clause-rule : goal.push_as-requires-clause-rule
push_as-requires-clause-rule g c = pushes g.T.Numbered.number _ _ (c.args.item ∷ []) (rw (ap (λ (o : Entered). o.view.parts) c.self.view_is) c.requires)
