use Rattle.std.proofs.Common.{subst}
use Rattle.cqp_cells.specs.Lawful.{AppliesH}
use Rattle.cqp_standing.proofs.PartRedexes.{none_left_at}
use Rattle.cqp_turns.proofs.RedexSearch.{next_found, none_found}
use Rattle.cqp_turns.proofs.standing.applies_h.Goals as goal

pub redex_applies_h-requires-clause-redex : goal.redex_applies_h-requires-clause-redex
redex_applies_h-requires-clause-redex c =
    let l = c.args.proc.now in
    let stands = c.requires.stands in
    let order = c.requires.redexes in
    next_found l c.args.part.now stands order.numbers c.len.result c.redex.result c.len.ensures (c.redex.ensures l order stands.within)
    c.in-Some.redex c.in-Some.is

pub returns-in-None : goal.returns-in-None
returns-in-None c =
    let l = c.args.proc.now in
    let p = c.args.part.now in
    let stands = c.requires.stands in
    let order = c.requires.redexes in
    let done = none_found l p stands order.numbers c.len.result c.redex.result c.len.ensures (c.redex.ensures l order stands.within) c.in-None.is in
    (λ h. absurd (cc h), λ h. absurd (subst AppliesH (none_left_at l p stands done) h))
