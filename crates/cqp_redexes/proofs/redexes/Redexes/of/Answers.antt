use Rattle.std.proofs.Common.{◌≡◌, ◌≤◌, ◌+◌, ◌++◌, ◌∷◌, [], length, length-append, slice_index, sym, ap, subst, arith, ◌∙◌}
use Rattle.std.specs.List.{AllByRecursion}
use Rattle.cqp_redexes.specs.Evaluation.{redexes_at, redexes_below}
use Rattle.cqp_redexes.proofs.Orders.{below_step}
use Rattle.cqp_redexes.proofs.OrderTables.{more_starts, more_within}
use Rattle.cqp_redexes.proofs.redexes.Redexes.of.Goals as goal

pub loop-n-preserved : goal.loop-n-preserved
loop-n-preserved c =
    let l = c.args.proc.now in
    let n = c.loop-n.n in
    let inv = c.loop-n.invariant in
    let old = c.loop-n.redexes.items in
    let items = c.in_ok-push.ensures.items in
    let more = c.in_ok-push_redexes.ensures.ok in
    let last : length c.as_slice.result.now ≡ length (redexes_below l n) = ap length c.as_slice.ensures.value ∙ ap length inv.redexes in
    let long : length c.push_redexes.new.redexes.items ≡ length old + length (redexes_at l n) = ap length more ∙ length-append old (redexes_at l n) in
    record {
      redexes = more ∙ (ap (λ xs. xs ++ redexes_at l n) inv.redexes ∙ sym (below_step l n));
      count = ap length items ∙ (length-append c.loop-n.starts.items (length c.as_slice.result.now ∷ []) ∙ ap (λ k. k + 1) inv.count);
      starts =
          λ k h. ap (λ xs. slice_index xs k) items
          ∙ more_starts c.loop-n.starts.items n (length c.as_slice.result.now) (λ j. length (redexes_below l j)) inv.count inv.starts last k h;
      within = subst (AllByRecursion (λ at. at ≤ length c.push_redexes.new.redexes.items)) (sym items)
          (more_within (length old) (length c.push_redexes.new.redexes.items) (length c.as_slice.result.now) c.loop-n.starts.items (omega (arith, long))
          (omega (arith, long, ap length c.as_slice.ensures.value)) inv.within);
      empty = c.in_ok-push_redexes.ensures.done;
    }

pub returns : goal.returns
returns c =
    let l = c.args.proc.now in
    let n = c.loop-n.n in
    let inv = c.loop-n.invariant in
    let old = c.loop-n.redexes.items in
    let items = c.in_ok-push-2.ensures.items in
    let all : n ≡ length l.nodes = omega (arith, c.loop-n-test.false, c.len-n-end.ensures.length, c.loop-n.auto.n-end) in
    let last : length c.as_slice-2.result.now ≡ length (redexes_below l n) = ap length c.as_slice-2.ensures.value ∙ ap length inv.redexes in
    record {
      numbers = c.len-n-end.ensures.numbered;
      counts = c.in_ok-counts.ensures;
      start_count = ap length items ∙ (length-append c.loop-n.starts.items (length c.as_slice-2.result.now ∷ []) ∙ ap (λ k. k + 1) (inv.count ∙ all));
      starts =
          λ k h. ap (λ xs. slice_index xs k) items
          ∙ more_starts c.loop-n.starts.items n (length c.as_slice-2.result.now) (λ j. length (redexes_below l j)) inv.count inv.starts last k
          (omega (arith, all));
      within = subst (AllByRecursion (λ at. at ≤ length old)) (sym items)
          (more_within (length old) (length old) (length c.as_slice-2.result.now) c.loop-n.starts.items (omega arith)
          (omega (arith, ap length c.as_slice-2.ensures.value)) inv.within);
      redexes = inv.redexes ∙ ap (redexes_below l) all;
    }
