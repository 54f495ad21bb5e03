use Rattle.std.proofs.Common.{◌∙◌, ap}
use Rattle.std.proofs.lemmas.Result.{on_ok_weaker}
use Rattle.cqp_expand.specs.Copying.{shown, with_member}
use Rattle.cqp_expand.proofs.CopySteps.{element, one_element}
use Rattle.cqp_expand.proofs.copy.Copier.member.Goals as goal

pub call-requires : goal.call-requires
call-requires c =
    c.requires.can _ (element c.args.outline.now.members.items c.args.instance.next _ _ c.requires.within c.index.ensures c.in-Call.is)

pub own-requires : goal.own-requires
own-requires c =
    c.requires.can _ (element c.args.outline.now.members.items c.args.instance.next _ _ c.requires.within c.index.ensures c.in-Own.is)

pub returns-in-Call : goal.returns-in-Call
returns-in-Call c =
    let here = element c.args.outline.now.members.items c.args.instance.next _ _ c.requires.within c.index.ensures c.in-Call.is in
    on_ok_weaker c.call.result (λ p x e. p ∙ ap (λ z. with_member c.args.outline.now c.args.instance z (shown c.args.self.now))
    (one_element c.args.outline.now.members.items c.args.instance.next _ x here e)) c.call.ensures

pub returns-in-Own : goal.returns-in-Own
returns-in-Own c =
    let here = element c.args.outline.now.members.items c.args.instance.next _ _ c.requires.within c.index.ensures c.in-Own.is in
    on_ok_weaker c.own.result (λ p x e. p ∙ ap (λ z. with_member c.args.outline.now c.args.instance z (shown c.args.self.now))
    (one_element c.args.outline.now.members.items c.args.instance.next _ x here e)) c.own.ensures
