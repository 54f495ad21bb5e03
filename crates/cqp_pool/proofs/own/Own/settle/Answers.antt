use Rattle.std.proofs.Common.{ap, ◌∙◌}
use Rattle.cqp_pool.specs.Parts.{Owned}
use Rattle.cqp_pool.proofs.Steps.{settles}
use Rattle.cqp_pool.proofs.own.Own.settle.Goals as goal

pub len_as-requires : goal.len_as-requires
len_as-requires g c = settles g.T.Numbered.number _ _ (ap (λ (o : Owned). o.view.parts) c.self.view_is ∙ c.requires)
