use Rattle.std.proofs.Common.{ap, ◌∙◌}
use Rattle.cqp_pool.specs.declared.tally.Tally.{Tally}
use Rattle.cqp_pool.proofs.Steps.{drains, finds_drained}
use Rattle.cqp_pool.proofs.door.drain_by.Goals as goal

pub steal_as-requires-clause-rule : goal.steal_as-requires-clause-rule
steal_as-requires-clause-rule g c =
    let all = ap (λ (v : Tally). v.parts) c.loop.invariant.1 ∙ c.requires.parts in
    (drains g.T.Numbered.number _ _ 1 all, finds_drained g.T.Numbered.number _ _ all)
