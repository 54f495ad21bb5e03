use Rattle.std.proofs.Common.{◌+◌, arith, rules, refl, sym, subst, below_more}
use Rattle.std.specs.Prelude.{IsTrue, false}
use Rattle.cqp_ring.specs.Root.{RootFits, root_at, root_sum}
use Rattle.cqp_choose.specs.Small.{IsSmall}
use Rattle.cqp_choose.proofs.OddsLemmas.{front_small, small_fits, next_sum}
use Rattle.cqp_choose.proofs.BornLemmas.{last_reached, reached_by, reached_so}
use Rattle.cqp_choose.proofs.born.born_index.Goals as goal

pub add-sum-requires : goal.add-sum-requires
add-sum-requires c = subst RootFits
    (sym (next_sum c.args.odds.now c.loop-i.i c.loop-i.sum (root_sum c.loop-i.sum (root_at c.args.odds.now c.loop-i.i)) c.loop-i.invariant.sum refl))
    (small_fits _ (front_small c.args.odds.now (c.loop-i.i + 1) c.requires))

pub is_share_less-requires-clause-sum : goal.is_share_less-requires-clause-sum
is_share_less-requires-clause-sum c = subst IsSmall
    (sym (next_sum c.args.odds.now c.loop-i.i c.loop-i.sum c.add-sum.result c.loop-i.invariant.sum c.add-sum.ensures))
    (front_small c.args.odds.now (c.loop-i.i + 1) c.requires)

pub returns-then-is_share_less : goal.returns-then-is_share_less
returns-then-is_share_less c =
    let less : IsTrue c.is_share_less.result = search rules in
    record {
      in_range = omega arith;
      reached = reached_by c.args.word c.args.odds.now c.loop-i.i c.total_of-total.result c.add-sum.result c.total_of-total.ensures.total
          (next_sum c.args.odds.now c.loop-i.i c.loop-i.sum c.add-sum.result c.loop-i.invariant.sum c.add-sum.ensures) (c.is_share_less.ensures.0 less);
      first = c.loop-i.invariant.before;
    }

pub loop-i-preserved : goal.loop-i-preserved
loop-i-preserved c =
    let next = next_sum c.args.odds.now c.loop-i.i c.loop-i.sum c.add-sum.result c.loop-i.invariant.sum c.add-sum.ensures in
    record {
      sum = next;
      before = below_more _ _ c.loop-i.invariant.before (λ reached.
          let less =
          c.is_share_less.ensures.1
          (reached_so c.args.word c.args.odds.now c.loop-i.i c.total_of-total.result c.add-sum.result c.total_of-total.ensures.total next reached) in
          let wrong : IsTrue false = subst IsTrue c.if-is_share_less.false less in absurd cc);
    }

pub returns : goal.returns
returns c = record {
  in_range = omega (arith, c.requires.fair.some);
  reached = last_reached c.sign_laws.ensures.sum c.sign_laws.ensures.product c.args.word c.args.odds.now c.ranges.word.fits c.requires.fair;
  first = λ j below. c.loop-i.invariant.before j (omega arith);
}
