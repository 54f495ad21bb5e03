use Rattle.std.proofs.Common.{◌≡◌, ◌++◌, ◌+◌, sym, ap, ◌∙◌}
use Rattle.cqp_syntax.specs.NodeNames.{uses_in}
use Rattle.cqp_parts.specs.Parts.{node_at, or_nil}
use Rattle.cqp_onward.specs.Forgetting.{without, used_between}
use Rattle.cqp_onward.proofs.Without.{without_both, used_first}
use Rattle.cqp_onward.proofs.forgetting.forget_between.Goals as goal

pub loop-m-preserved : goal.loop-m-preserved
loop-m-preserved c =
    let l = c.args.proc.now in
    let n = c.args.n in
    let m = c.loop-m.m in
    let x = c.node.result.now in
    let old = c.loop-m.items.items in
    let rest = used_between l (m + 1) c.args.to in
    let is : node_at l m ≡ x = ap or_nil c.node.ensures.node in
    let names : used_between l m c.args.to ≡ uses_in x ++ rest = used_first l m c.args.to c.loop-m-test.true ∙ ap (λ y. uses_in y ++ rest) is in
    record {
      told = ap (without l n rest) (c.forget_used.ensures.items l c.requires.uses c.requires.there)
          ∙ (sym (without_both l n (uses_in x) rest old) ∙ (ap (λ xs. without l n xs old) (sym names) ∙ c.loop-m.invariant.told));
      rise = c.forget_used.ensures.rise;
    }
