use Rattle.std.proofs.Common.{◌≡◌, ◌++◌, sym, ap, ap₂, ◌∙◌}
use Rattle.cqp_syntax.specs.NodeNames.{binds_in}
use Rattle.cqp_parts.specs.Parts.{node_at, or_nil}
use Rattle.cqp_onward.specs.Forgetting.{without, used_between}
use Rattle.cqp_onward.proofs.Passed.{passed_kept}
use Rattle.cqp_onward.proofs.Without.{without_both}
use Rattle.cqp_onward.proofs.forgetting.keep_on.Goals as goal

pub returns : goal.returns
returns c =
    let l = c.args.proc.now in
    let p = c.args.p in
    let n = c.args.n in
    let env = c.args.env in
    let uses = c.requires.uses in
    let there = c.requires.there in
    let is : node_at l p ≡ c.node.result.now = ap or_nil c.node.ensures.node in
    let bound = binds_in (node_at l p) in
    let before = used_between l p n in
    let behind = used_between l c.end.result c.end-2.result in
    let ends = ap₂ (used_between l) (c.end.ensures l uses) (c.end-2.ensures l uses) in
    let first =
    c.forget_bound.ensures.items l uses there ∙ ap₂ (λ x xs. without l n (binds_in x) xs) (sym is) c.into_vec-items.ensures in
    let second = c.forget_between.ensures.items ∙ ap (without l n before) first in
    let third = c.forget_between-2.ensures.items ∙ ap (without l n behind) second in
    let all = without_both l n bound (before ++ behind) env ∙ without_both l n before behind (without l n bound env) in
    let kept = passed_kept l c.args.uses.now uses p n c.requires.ends.there there env c.requires.ends.known in
    c.from_vec.ensures ∙ (third ∙ (sym all ∙ (ap (λ xs. without l n (bound ++ (before ++ xs)) env) ends ∙ kept)))
