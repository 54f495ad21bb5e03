use Rattle.cqp_turns.proofs.RedexSearch.{next_found, none_found}
use Rattle.cqp_turns.proofs.RedexStands.{next_alone}
use Rattle.cqp_turns.proofs.standing.stand_of.Goals as goal

pub prefix_stand-requires-clause-done : goal.prefix_stand-requires-clause-done
prefix_stand-requires-clause-done c =
    let l = c.args.proc.now in
    let stands = c.requires.stands in
    let order = c.requires.redexes in
    none_found l c.args.part.now stands order.numbers c.len.result c.redex.result c.len.ensures (c.redex.ensures l order stands.within) c.in-None.is

pub returns-in-Some : goal.returns-in-Some
returns-in-Some c =
    let l = c.args.proc.now in
    let p = c.args.part.now in
    let stands = c.requires.stands in
    let order = c.requires.redexes in
    let found = c.redex.ensures l order stands.within in
    next_alone l p c.in-Some.field-0
    (next_found l p stands order.numbers c.len.result c.redex.result c.len.ensures found c.in-Some.field-0 c.in-Some.is)
