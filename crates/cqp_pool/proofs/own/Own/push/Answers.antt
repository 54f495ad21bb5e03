use Rattle.std.proofs.Common.{[], ◌∷◌, ap, ◌∙◌}
use Rattle.cqp_pool.specs.Parts.{Owned}
use Rattle.cqp_pool.proofs.Steps.{pushes}
use Rattle.cqp_pool.proofs.own.Own.push.Goals as goal

pub push_as-requires-clause-pushes : goal.push_as-requires-clause-pushes
push_as-requires-clause-pushes g c =
    let same = ap (λ (o : Owned). o.view.parts) c.self.view_is ∙ ap (λ (o : Owned). o.view.parts) c.is_full.ensures in
    pushes g.T.Numbered.number _ _ (c.args.item ∷ []) (rw same c.requires)
