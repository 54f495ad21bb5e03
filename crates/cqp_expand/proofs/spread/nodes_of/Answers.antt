use Rattle.std.proofs.Common.{◌∙◌, ◌∷◌, ◌++◌, [], sym, ap}
use Rattle.std.proofs.lemmas.Iterator.Adapters.{YieldsList-from_vec}
use Rattle.std.proofs.lemmas.Iterator.Consumers.{YieldsList-end}
use Rattle.std.proofs.lemmas.List.{map-id}
use Rattle.cqp_expand.specs.Copies.{own_nodes}
use Rattle.cqp_expand.proofs.Alone.{own_nodes-append}
use Rattle.cqp_expand.proofs.spread.nodes_of.Goals as goal

pub returns : goal.returns
returns c =
    let items = c.args.members.items in
    let done = c.loop-member.yielded in
    let gives = c.into_iter-member-iterator.ensures.into_iter_gives in
    let road =
    YieldsList-from_vec {s = c.into_iter-member-iterator.result} items gives.0
    (gives.1 ∙ c.args.members.ok.0) in
    let end =
    YieldsList-end road done c.loop-member.member-iterator c.loop-member.yielded_by c.next.result
    c.next.new.self c.in-None.is c.next.ensures.steps in
    c.loop-member.invariant ∙ ap own_nodes (sym (map-id done) ∙ end.0)

pub loop-member-preserved : goal.loop-member-preserved
loop-member-preserved c =
    c.in_ok-add.ensures ∙ ap (λ ns. ns ++ own_nodes (c.in-Some.member ∷ [])) c.loop-member.invariant
    ∙ sym (own_nodes-append c.loop-member.yielded (c.in-Some.member ∷ []))
