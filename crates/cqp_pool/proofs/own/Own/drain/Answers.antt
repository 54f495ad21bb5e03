use Rattle.std.proofs.Common.{ap, ◌∙◌}
use Rattle.cqp_pool.specs.Parts.{Owned}
use Rattle.cqp_pool.proofs.Steps.{drains, finds_drained}
use Rattle.cqp_pool.proofs.own.Own.drain.Goals as goal

pub pop_as-requires-clause-fifo : goal.pop_as-requires-clause-fifo
pop_as-requires-clause-fifo g c = λ _. drains g.T.Numbered.number _ _ 1 (ap (λ (o : Owned). o.view.parts) c.self.view_is ∙ c.requires.0)

pub pop_as-requires-clause-empty : goal.pop_as-requires-clause-empty
pop_as-requires-clause-empty g c = finds_drained g.T.Numbered.number _ _ (ap (λ (o : Owned). o.view.parts) c.self.view_is ∙ c.requires.0)
