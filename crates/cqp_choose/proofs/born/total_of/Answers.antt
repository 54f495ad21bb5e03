use Rattle.std.proofs.Common.{◌+◌, sym, subst, refl}
use Rattle.cqp_ring.specs.Root.{RootFits, root_at, root_sum}
use Rattle.cqp_choose.specs.Small.{IsSmall}
use Rattle.cqp_choose.proofs.OddsLemmas.{front_small, small_fits, next_sum}
use Rattle.cqp_choose.proofs.born.total_of.Goals as goal

pub add-sum-requires : goal.add-sum-requires
add-sum-requires c = subst RootFits
    (sym (next_sum c.args.odds.now c.loop-odd.odd-index c.loop-odd.sum
    (root_sum c.loop-odd.sum (root_at c.args.odds.now c.loop-odd.odd-index)) c.loop-odd.invariant refl))
    (small_fits _ (front_small c.args.odds.now (c.loop-odd.odd-index + 1) c.requires))

pub loop-odd-preserved : goal.loop-odd-preserved
loop-odd-preserved c = next_sum c.args.odds.now c.loop-odd.odd-index c.loop-odd.sum c.add-sum.result c.loop-odd.invariant c.add-sum.ensures

pub returns-clause-small : goal.returns-clause-small
returns-clause-small c = subst IsSmall (sym c.loop-odd.invariant) (front_small c.args.odds.now c.loop-odd.odd-index c.requires)
