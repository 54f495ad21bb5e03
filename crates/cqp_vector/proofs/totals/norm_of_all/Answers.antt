use Rattle.std.proofs.Common.{◌+◌, ◌<◌, length, ap, ◌∙◌, sym, subst, arith}
use Rattle.cqp_ring.specs.Root.{RootFits, root_sum, norm_of}
use Rattle.cqp_vector.specs.State.{amp_at}
use Rattle.cqp_vector.proofs.SumBounds.{one_fits, take_fits, norm_sum_more}
use Rattle.cqp_vector.proofs.totals.norm_of_all.Goals as goal

pub norm-requires : goal.norm-requires
norm-requires c = one_fits c.args.nums.now c.loop-amp.amp-index c.requires

pub add-norm-requires : goal.add-norm-requires
add-norm-requires c =
    let less : c.loop-amp.amp-index < length c.args.nums.now = omega arith in
    let e = norm_sum_more c.args.nums.now c.loop-amp.amp-index less in
    subst RootFits (sym (ap (root_sum c.loop-amp.norm) c.norm.ensures
    ∙ ap (λ t. root_sum t (norm_of (amp_at c.args.nums.now c.loop-amp.amp-index))) c.loop-amp.invariant ∙ e))
    (take_fits c.args.nums.now (c.loop-amp.amp-index + 1) c.requires)

pub loop-amp-preserved : goal.loop-amp-preserved
loop-amp-preserved c =
    let less : c.loop-amp.amp-index < length c.args.nums.now = omega arith in
    c.add-norm.ensures ∙ ap (root_sum c.loop-amp.norm) c.norm.ensures
    ∙ ap (λ t. root_sum t (norm_of (amp_at c.args.nums.now c.loop-amp.amp-index))) c.loop-amp.invariant
    ∙ norm_sum_more c.args.nums.now c.loop-amp.amp-index less
