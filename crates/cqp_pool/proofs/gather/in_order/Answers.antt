use Rattle.std.proofs.Common.{◌≡◌, ◌<◌, Contains, length, get_or, ap, sym, ◌∙◌, subst, arith}
use Rattle.std.specs.List.{sum_by}
use Rattle.cqp_pool.specs.Pools.{LaneState, IsWhole, numbers_of, pushed_by, taken_by}
use Rattle.cqp_pool.proofs.Orders.{whole_count, whole_contains, whole_after_swap}
use Rattle.cqp_pool.proofs.Orders.{as_often_after_swap, placed_one_more}
use Rattle.cqp_pool.proofs.gather.in_order.Goals as goal

pub place_of-at-requires : goal.place_of-at-requires
place_of-at-requires g c =
    let lanes = c.loop-k.lanes in
    let i = c.loop-k.invariant in
    let in_range : c.loop-k.k < length lanes.items = let a = c.loop-k-test.true in let b = c.len-k-end.ensures in let d = i.len in let e = lanes.ok.0
    in omega arith in
    subst (λ l. Contains (numbers_of {T = g.row.T.Denot} l) c.loop-k.k) (sym c.as_slice.ensures.value) (whole_contains lanes.items i.whole c.loop-k.k in_range)

pub loop-k-preserved : goal.loop-k-preserved
loop-k-preserved g c =
    let lanes = c.loop-k.lanes in
    let k = c.loop-k.k in
    let at = c.place_of-at.result in
    let i = c.loop-k.invariant in
    let new = c.swap.new.self in
    let is = c.swap.ensures.items in
    let k_in : k < length lanes.items = let a = c.loop-k-test.true in let b = c.len-k-end.ensures in let d = i.len in let e = lanes.ok.0 in omega arith in
    let at_in : at < length lanes.items = let a = c.place_of-at.ensures.within in let e = ap length c.as_slice.ensures.value in omega arith in
    let found : (d : LaneState g.row.T.Denot) → (get_or lanes.items at d).number ≡ k = λ d. ap (λ l. (get_or l at d).number)
    (sym c.as_slice.ensures.value) ∙ c.place_of-at.ensures.found d in
    record {
      whole = subst (IsWhole {T = g.row.T.Denot}) (sym is) (whole_after_swap lanes.items k at k_in at_in i.whole);
      len = c.swap.ensures.len ∙ i.len;
      placed = placed_one_more lanes.items new.items k at c.swap.ensures.by_index i.placed found;
      pushed = λ weight. ap (λ l. sum_by weight (pushed_by l)) is
          ∙ as_often_after_swap (λ (l : LaneState g.row.T.Denot). l.pushed) lanes.items k at k_in at_in weight ∙ i.pushed weight;
      taken = λ weight. ap (λ l. sum_by weight (taken_by l)) is
          ∙ as_often_after_swap (λ (l : LaneState g.row.T.Denot). l.taken) lanes.items k at k_in at_in weight ∙ i.taken weight;
    }

pub returns-clause-order : goal.returns-clause-order
returns-clause-order g c =
    let lanes = c.loop-k.lanes in
    let i = c.loop-k.invariant in (
      i.whole.pool,
      record {
        of_pool = i.whole.of_pool;
        count = whole_count lanes.items i.whole;
        numbers = λ k d lt. i.placed k (let a = c.loop-k-test.false in let b = c.len-k-end.ensures in let e = i.len in let f = lanes.ok.0 in omega arith) d;
      },
    )
