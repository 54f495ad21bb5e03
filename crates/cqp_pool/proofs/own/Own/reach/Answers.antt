use Rattle.std.proofs.Common.{ap}
use Rattle.cqp_pool.specs.Parts.{Owned}
use Rattle.cqp_pool.proofs.Steps.{forks}
use Rattle.cqp_pool.proofs.own.Own.reach.Goals as goal

pub another-pass-requires : goal.another-pass-requires
another-pass-requires g c = forks g.T.Numbered.number _ _ (rw (ap (λ (o : Owned). o.view.parts) c.self.view_is) c.requires)
