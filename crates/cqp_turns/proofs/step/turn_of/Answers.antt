use Rattle.cqp_parts.specs.Parts.{process_of_part}
use Rattle.cqp_turns.proofs.RedexSearch.{next_found, none_found}
use Rattle.cqp_turns.proofs.TurnsTold.{turns_told}
use Rattle.cqp_turns.proofs.step.turn_of.Goals as goal

pub redex_turn-requires-clause-redex : goal.redex_turn-requires-clause-redex
redex_turn-requires-clause-redex c =
    let l = c.args.proc.now in
    let stands = c.requires.stands in
    let order = c.requires.redexes in
    next_found l c.args.part.now stands order.numbers c.len.result c.redex.result c.len.ensures (c.redex.ensures l order stands.within)
    c.in-Some.redex c.in-Some.is

pub prefix_turn-requires-clause-done : goal.prefix_turn-requires-clause-done
prefix_turn-requires-clause-done c =
    let l = c.args.proc.now in
    let stands = c.requires.stands in
    let order = c.requires.redexes in
    none_found l c.args.part.now stands order.numbers c.len.result c.redex.result c.len.ensures (c.redex.ensures l order stands.within) c.in-None.is

pub returns-in-Some-clause-says : goal.returns-in-Some-clause-says
returns-in-Some-clause-says c = turns_told (process_of_part c.args.proc.now c.args.part.now) c.redex_turn.result c.redex_turn.ensures

pub returns-in-None-clause-says : goal.returns-in-None-clause-says
returns-in-None-clause-says c = turns_told (process_of_part c.args.proc.now c.args.part.now) c.prefix_turn.result c.prefix_turn.ensures
