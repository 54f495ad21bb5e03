use Rattle.std.proofs.Common.{ap}
use Rattle.cqp_pool.specs.Parts.{Owned}
use Rattle.cqp_pool.proofs.Steps.{takes}
use Rattle.cqp_pool.proofs.own.Own.pop.Goals as goal

pub pop_as-requires-clause-fifo : goal.pop_as-requires-clause-fifo
pop_as-requires-clause-fifo g c = λ _. takes g.T.Numbered.number _ _ 1 (rw (ap (λ (o : Owned). o.view.parts) c.self.view_is) c.requires)
