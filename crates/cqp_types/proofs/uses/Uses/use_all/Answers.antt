use Rattle.std.proofs.Common.{◌-◌, ◌<◌, length, drop, refl, sym, ◌∙◌, subst, arith}
use Rattle.cqp_types.specs.Uses.{IsRecorded}
use Rattle.cqp_types.proofs.Backward.{drop_step}
use Rattle.cqp_types.proofs.uses.Uses.use_all.Goals as goal

pub loop-k-preserved : goal.loop-k-preserved
loop-k-preserved c =
    let xs = c.args.names.now in
    let h : c.loop-k.k < length xs = omega arith in
    record {
      first = c.use_at.ensures.first ∙ c.loop-k.invariant.first;
      second = c.use_at.ensures.second ∙ c.loop-k.invariant.second;
      recorded = λ l within r.
          subst (λ ys. IsRecorded l c.args.n ys c.use_at.new.self.first.items c.use_at.new.self.second.items) (sym (drop_step xs (length xs) c.loop-k.k refl h))
          (c.use_at.ensures.recorded l (drop (length xs - c.loop-k.k) xs) within (c.loop-k.invariant.recorded l within r));
    }
