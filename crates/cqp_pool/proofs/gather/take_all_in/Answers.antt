use Rattle.std.proofs.Common.{◌<◌, All, Vec, Global, length, ap, sym, ◌∙◌, subst}
use Rattle.std.proofs.lemmas.Iterator.Adapters.{YieldsList-from_vec}
use Rattle.std.proofs.lemmas.Iterator.Consumers.{YieldsList-turn}
use Rattle.cqp_pool.specs.Parts.{Reached, Owned, deques_in, deques_of, zip_in}
use Rattle.cqp_pool.proofs.AllIn.{deques_in-all_in, all_in-push, all_in_some}
use Rattle.cqp_pool.proofs.gather.take_all_in.Goals as goal

pub take_in-requires-clause-deques : goal.take_in-requires-clause-deques
take_in-requires-clause-deques g c =
    let rows = c.args.rows.items in
    let owns = c.args.owns.now.items in
    let yielded = c.loop-row.yielded in
    let row = c.in-Some.row in
    let gives = c.into_iter-row-iterator.ensures.into_iter_gives in
    let turn = YieldsList-turn (YieldsList-from_vec {s = c.into_iter-row-iterator.result} rows gives.0 (gives.1
    ∙ c.args.rows.ok.0)) yielded c.loop-row.row-iterator c.loop-row.yielded_by c.next.result c.next.new.self row c.in-Some.is c.next.ensures.steps in
    ap (λ (r : Vec Reached Global). deques_of r.items) turn.1 ∙ c.requires.rows (length yielded) row turn.0 ∙ sym (deques_in-all_in owns yielded)
    ∙ sym (ap deques_in c.loop-row.invariant)

pub take_in-requires-clause-parts : goal.take_in-requires-clause-parts
take_in-requires-clause-parts g c =
    subst (All (λ (o : Owned). 0 < o.view.parts)) (sym c.loop-row.invariant) (all_in_some c.args.owns.now.items c.loop-row.yielded c.requires.parts)

pub loop-row-preserved : goal.loop-row-preserved
loop-row-preserved g c =
    c.take_in.ensures ∙ ap (λ l. zip_in l c.in-Some.row.items) c.loop-row.invariant ∙ sym (all_in-push c.args.owns.now.items c.loop-row.yielded c.in-Some.row)
