use Rattle.std.proofs.Common.{ap, subst, ◌∙◌}
use Rattle.cqp_syntax.specs.Listing.{Unfolds}
use Rattle.cqp_order.specs.declared.stand.Stand.TheVariants.{Sends, Receives}
use Rattle.cqp_turns.specs.Turns.{chan_in}
use Rattle.cqp_turns.proofs.PrefixStands.{receives_at, sends_at, alone_at}
use Rattle.cqp_turns.proofs.standing.prefix_stand.Goals as goal

pub returns-in-In : goal.returns-in-In
returns-in-In c t h =
    let l = c.args.proc.now in
    let p = c.args.part.now in
    ap Receives (c.chan.ensures ∙ ap chan_in c.name_value.ensures)
    ∙ receives_at l p c.requires.stands c.requires.done c.requires.takes t h c.in-In.name c.in-In.params c.in-In.body
    (subst (λ x. Unfolds l p.node x) c.in-In.is c.node.ensures.tree)

pub returns-in-Out : goal.returns-in-Out
returns-in-Out c t h =
    let l = c.args.proc.now in
    let p = c.args.part.now in
    ap Sends (c.chan-in-Out.ensures ∙ ap chan_in c.name_value-in-Out.ensures)
    ∙ sends_at l p c.requires.stands c.requires.done c.requires.takes t h c.in-Out.name c.in-Out.args c.in-Out.body
    (subst (λ x. Unfolds l p.node x) c.in-Out.is c.node.ensures.tree)

pub returns-in_default : goal.returns-in_default
returns-in_default c t h =
    alone_at c.args.proc.now c.args.part.now c.requires.stands c.requires.done c.requires.takes t h c.node.result.now c.node.ensures.tree
    c.in_default.not-In c.in_default.not-Out
