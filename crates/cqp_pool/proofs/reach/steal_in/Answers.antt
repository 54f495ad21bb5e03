use Rattle.std.proofs.Common.{◌+◌, ◌∙◌, List, All, take, sym, subst, refl}
use Rattle.cqp_pool.specs.Tallies.{WasEmpty}
use Rattle.cqp_pool.specs.Parts.{Reached, passes_of}
use Rattle.cqp_pool.proofs.Reaches.{deques_of-set, stolen_one_more, set_unchanged}
use Rattle.cqp_pool.proofs.Reaches.{looked_at_one_more, looked_at_all}
use Rattle.cqp_pool.proofs.reach.steal_in.Goals as goal

pub returns-in-Some-clause-deques : goal.returns-in-Some-clause-deques
returns-in-Some-clause-deques g c = deques_of-set _ _ _ _ c.in-Some.ensures.deque ∙ (rw c.loop-k.invariant.0 refl)

pub returns-in-Some-clause-taken : goal.returns-in-Some-clause-taken
returns-in-Some-clause-taken g c = stolen_one_more _ _ _ _ _ _ c.loop-k.invariant.0 c.loop-k-test.true c.in-Some.ensures.taken

pub loop-k-preserved : goal.loop-k-preserved
loop-k-preserved g c =
    let same = set_unchanged _ _ c.loop-k.k _ _ c.loop-k.invariant.0 c.in_default.ensures.none.0 in
    let P : List Reached → Type 0 = λ l. All WasEmpty (passes_of (take (c.loop-k.k + 1) l)) in
    let looked = looked_at_one_more _ _ _ (rw c.loop-k.invariant.0 c.loop-k-test.true) c.loop-k.invariant.1 c.in_default.ensures.none.1 in
    (same, subst P (c.loop-k.invariant.0 ∙ sym same) looked)

pub returns-clause-none : goal.returns-clause-none
returns-clause-none g c = (c.loop-k.invariant.0, looked_at_all _ _ c.loop-k.k c.loop-k.invariant.0 c.loop-k-test.false c.loop-k.auto.k-end c.loop-k.invariant.1)
