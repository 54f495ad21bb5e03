use Rattle.std.proofs.Common.{◌≡◌, ◌<◌, ◌++◌, ◌∷◌, [], ◌∙◌, ap, sym, arith, length, get_or, take}
use Rattle.std.proofs.Math.Seq.{take-length}
use Rattle.cqp_pool.specs.Parts.{Owned, lend, new_reach, new_row, deques_in}
use Rattle.cqp_pool.proofs.Rows.{get_or-map_first, map_first_more, map_first_all, new_row_more}
use Rattle.cqp_pool.proofs.Rows.{get_or-deques_in, length-deques_in}
use Rattle.cqp_pool.proofs.start.row_into_all.Goals as goal

pub reach-requires : goal.reach-requires
reach-requires g c =
    let k = c.loop-k.k in
    let d = c.index-owns-k.result in
    let here = ap (λ l. get_or l k d) c.loop-k.invariant.0 ∙ get_or-map_first lend k c.args.owns.now d in
    rw here (c.requires k d c.loop-k-test.true)

pub loop-k-preserved : goal.loop-k-preserved
loop-k-preserved g c =
    let k = c.loop-k.k in
    let d : Owned = c.index-owns-k.result in
    let owns = c.args.owns.now in
    let in_range = c.loop-k-test.true in
    let here : get_or c.loop-k.owns k d ≡ get_or owns k d = ap (λ l. get_or l k d) c.loop-k.invariant.0 ∙ get_or-map_first lend k owns d in
    let id = ap (λ (o : Owned). new_reach o.deque) here ∙ ap new_reach (sym (get_or-deques_in owns k d)) in
    let in_range' : k < length (deques_in owns) = rw (length-deques_in owns) in_range in (
      map_first_more lend k owns c.loop-k.owns c.reach.new.self d c.loop-k.invariant.0 in_range c.in_ok-reach.ensures.lent,
      c.in_ok-push.ensures.items ∙ ap (λ l. l ++ c.in_ok-reach.reach ∷ []) c.loop-k.invariant.1
          ∙ ap (λ r. new_row (take k (deques_in owns)) ++ r ∷ []) (c.in_ok-reach.ensures.reach ∙ id) ∙ new_row_more (deques_in owns) k d.deque in_range',
    )

pub returns-clause-owns : goal.returns-clause-owns
returns-clause-owns g c = c.loop-k.invariant.0 ∙ map_first_all lend c.loop-k.k c.args.owns.now c.loop-k-test.false

pub returns-clause-row : goal.returns-clause-row
returns-clause-row g c =
    let owns = c.args.owns.now in
    let end : c.loop-k.k ≡ length (deques_in owns) = let a = c.loop-k-test.false in let b = c.loop-k.auto.k-end in omega (arith, length-deques_in owns) in
    c.loop-k.invariant.1 ∙ ap new_row (ap (λ n. take n (deques_in owns)) end ∙ take-length (deques_in owns))
