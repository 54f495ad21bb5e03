use Rattle.std.proofs.Common.{ℕ, sym, ap, ◌∙◌}
use Rattle.cqp_pool.specs.Pools.{LaneState}
use Rattle.cqp_pool.proofs.Places.{whole_kept}
use Rattle.cqp_pool_uses.proofs.workers.work_on.Goals as goal

pub returns : goal.returns
returns g c = λ whole.
    whole_kept c.args.lanes.now c.for_each_mut.new.s c.for_each_mut.auto.s
    (λ k d lt.
    let change = (c.for_each_mut.ensures k d lt).1 in (
      sym (ap (λ (l : LaneState ℕ). l.pool) change.left) ∙ change.call.0 ∙ ap (λ (l : LaneState ℕ). l.pool) change.argument_is,
      sym (ap (λ (l : LaneState ℕ). l.number) change.left) ∙ change.call.1 ∙ ap (λ (l : LaneState ℕ). l.number) change.argument_is,
    ))
    whole
