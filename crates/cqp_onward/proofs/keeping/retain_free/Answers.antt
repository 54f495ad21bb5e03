use Rattle.std.proofs.Common.{◌≡◌, ◌≤◌, ◌<◌, ◌+◌, length, take, drop, slice_index_or, sym, ap, ap₂, subst, arith, ◌∙◌}
use Rattle.cqp_syntax.specs.Listing.{process_at}
use Rattle.cqp_parts.specs.declared.bind.Bind.{Bind}
use Rattle.cqp_parts.specs.Free.{is_free}
use Rattle.cqp_parts.proofs.Lists.{same_there, all_at_place}
use Rattle.cqp_onward.proofs.Kept.{next_low, put_count, put_rest, kept_step}
use Rattle.cqp_onward.proofs.keeping.retain_free.Goals as goal

pub is_free-stays-requires-clause-named : goal.is_free-stays-requires-clause-named
is_free-stays-requires-clause-named c =
    let xs = c.loop-i.items.items in
    let ys = c.args.items.now.items in
    let i = c.loop-i.i in
    let b = c.index-bind.result.now in
    let here : i < length ys = omega (arith, c.loop-i-test.true, c.len-i-end.ensures) in
    let same = same_there xs ys i b (omega (arith, here, c.loop-i.invariant.count)) here c.loop-i.invariant.rest in
    let is : b ≡ slice_index_or ys i b = c.index-bind.ensures ∙ same.0 in
    subst (λ (x : Bind). x.name < length c.args.uses.now.names) (sym is)
    (all_at_place (λ (x : Bind). x.name < length c.args.uses.now.names) ys i b c.requires.names here)

pub loop-i-preserved : goal.loop-i-preserved
loop-i-preserved c =
    let xs = c.loop-i.items.items in
    let ys = c.args.items.now.items in
    let i = c.loop-i.i in
    let at = c.loop-i.kept in
    let b = c.index-bind.result.now in
    let stays = c.is_free-stays.result in
    let here : i < length ys = omega (arith, c.loop-i-test.true, c.len-i-end.ensures) in
    let there : i < length xs = omega (arith, here, c.loop-i.invariant.count) in
    let same = same_there xs ys i b there here c.loop-i.invariant.rest in
    let is : b ≡ slice_index_or ys i b = c.index-bind.ensures ∙ same.0 in
    let items = c.put_if-kept.ensures.items in
    let next = c.put_if-kept.ensures.next in
    record {
      low = subst (λ k. k ≤ i + 1) (sym next) (next_low at i stays c.loop-i.invariant.low);
      count = ap length items ∙ (put_count xs at b stays ∙ c.loop-i.invariant.count);
      rest = ap (drop (i + 1)) items ∙ (put_rest xs at i b stays c.loop-i.invariant.low ∙ same.1);
      told = λ l uses is_there. ap₂ (λ k zs. take k zs) next items
          ∙ kept_step (λ (x : Bind). is_free x.name (process_at l c.args.n)) xs ys at i b stays (omega (arith, there, c.loop-i.invariant.low)) here is
          (c.is_free-stays.ensures l uses is_there)
          (c.loop-i.invariant.told l uses is_there);
    }
