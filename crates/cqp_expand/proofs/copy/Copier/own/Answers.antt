use Rattle.std.proofs.lemmas.List.{get_or_read}
use Rattle.std.proofs.lemmas.Result.{on_ok_weaker}
use Rattle.cqp_expand.specs.Copying.{shown}
use Rattle.cqp_expand.proofs.CopySteps.{own_done}
use Rattle.cqp_expand.proofs.copy.Copier.own.Goals as goal

pub returns : goal.returns
returns c =
    let at = get_or_read c.args.outline.now.at.items _ _ c.requires.placed c.index.ensures 0 in
    on_ok_weaker c.push-2.result (λ p. own_done c.args.outline.now c.args.instance c.args.node.now (shown c.args.self.now) _ _ _ _ _ _ _ _ _ _ _ _
    c.in_ok-bind.ensures p c.in_ok-copy.ensures c.as_slice.ensures.value c.as_slice-2.ensures.value c.as_slice-3.ensures.value
    c.in_ok-push.ensures.ok at) c.push-2.ensures.ok
