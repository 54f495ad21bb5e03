use Rattle.std.proofs.Common.{◌==◌, map, Some, sym, ap, ap₂, subst, ◌∙◌}
use Rattle.cqp_syntax.specs.Listing.{Unfolds, expr_at}
use Rattle.cqp_turns.specs.declared.turn.Turn.TheVariants as turn
use Rattle.cqp_results.specs.Results.{operand, operands, count_of}
use Rattle.cqp_parts.specs.Bound.{expr_bound}
use Rattle.cqp_standing.specs.Stands.{IsOperandAt, AreOperandsAt}
use Rattle.cqp_turns.specs.Turns.{number_of, chan_in}
use Rattle.cqp_turns.proofs.PrefixTurns.{new_turn, qbit_turn, in_turn, out_turn, if_turn, other_turn, if_operands, out_operands}
use Rattle.cqp_turns.proofs.step.prefix_turn.Goals as goal

pub returns-in-New : goal.returns-in-New
returns-in-New c =
    let l = c.args.proc.now in
    let p = c.args.part.now in
    new_turn l p c.requires.stands c.requires.done c.requires.takes c.in-New.name c.in-New.body
    (subst (λ x. Unfolds l p.node x) c.in-New.is c.node.ensures.tree)

pub returns-in-Qbit : goal.returns-in-Qbit
returns-in-Qbit c =
    let l = c.args.proc.now in
    let p = c.args.part.now in
    qbit_turn l p c.requires.stands c.requires.done c.requires.takes c.in-Qbit.name c.in-Qbit.body
    (subst (λ x. Unfolds l p.node x) c.in-Qbit.is c.node.ensures.tree)

pub returns-in-In : goal.returns-in-In
returns-in-In c =
    let l = c.args.proc.now in
    let p = c.args.part.now in
    let chan = c.chan.ensures ∙ ap chan_in c.name_value.ensures in
    in_turn l p c.requires.stands c.requires.done c.requires.takes c.in-In.name c.in-In.params c.in-In.body
    (subst (λ x. Unfolds l p.node x) c.in-In.is c.node.ensures.tree)
    ∙ ap (λ k. Some (turn.Receive k)) (sym chan)

pub sent-requires-clause-are : goal.sent-requires-clause-are
sent-requires-clause-are c =
    let l = c.args.proc.now in
    let p = c.args.part.now in
    let both =
    out_operands l p c.requires.stands c.requires.done c.in-Out.name c.in-Out.args c.in-Out.body
    (subst (λ x. Unfolds l p.node x) c.in-Out.is c.node.ensures.tree) in
    subst (λ es. AreOperandsAt l p es) (sym c.as_slice.ensures) both.0

pub sent-requires-clause-done : goal.sent-requires-clause-done
sent-requires-clause-done c =
    let l = c.args.proc.now in
    let p = c.args.part.now in
    let both =
    out_operands l p c.requires.stands c.requires.done c.in-Out.name c.in-Out.args c.in-Out.body
    (subst (λ x. Unfolds l p.node x) c.in-Out.is c.node.ensures.tree) in
    both.1 ∙ ap (λ es. count_of (map (λ e. expr_at l e) es)) (sym c.as_slice.ensures)

pub value-requires-clause-operand : goal.value-requires-clause-operand
value-requires-clause-operand c =
    let l = c.args.proc.now in
    let p = c.args.part.now in
    let u = subst (λ x. Unfolds l p.node x) c.in-If.is c.node.ensures.tree in
    let both = if_operands l p c.requires.stands c.requires.done c.in-If.left c.in-If.right c.in-If.yes c.in-If.no u in
    subst (λ k. IsOperandAt l p c.in-If.left k) (sym (c.count-skip.ensures l c.requires.redexes u.exprs.1.0.within)) both.0

pub value-requires-in-If-clause-operand : goal.value-requires-in-If-clause-operand
value-requires-in-If-clause-operand c =
    let l = c.args.proc.now in
    let p = c.args.part.now in
    let u = subst (λ x. Unfolds l p.node x) c.in-If.is c.node.ensures.tree in
    (if_operands l p c.requires.stands c.requires.done c.in-If.left c.in-If.right c.in-If.yes c.in-If.no u).1

pub returns-in_ok-sent-in-Out : goal.returns-in_ok-sent-in-Out
returns-in_ok-sent-in-Out c =
    let l = c.args.proc.now in
    let p = c.args.part.now in
    let chan = c.chan-in-Out.ensures ∙ ap chan_in c.name_value-in-Out.ensures in
    let vals = c.in_ok-sent-in-Out.ensures ∙ ap (λ es. operands p.vals (map (λ e. expr_bound p.env (expr_at l e)) es)) c.as_slice.ensures in
    out_turn l p c.requires.stands c.requires.done c.requires.takes c.in-Out.name c.in-Out.args c.in-Out.body
    (subst (λ x. Unfolds l p.node x) c.in-Out.is c.node.ensures.tree)
    ∙ ap₂ (λ k vs. Some (turn.Send k vs)) (sym chan) (sym vals)

pub returns-in-If : goal.returns-in-If
returns-in-If c =
    let l = c.args.proc.now in
    let p = c.args.part.now in
    let u = subst (λ x. Unfolds l p.node x) c.in-If.is c.node.ensures.tree in
    let skip = c.count-skip.ensures l c.requires.redexes u.exprs.1.0.within in
    let left = c.number-u.ensures ∙ ap number_of (c.value.ensures ∙ ap (λ k. operand p.vals k (expr_bound p.env (expr_at l c.in-If.left))) skip) in
    let right = c.number-w.ensures ∙ ap number_of c.value-in-If.ensures in
    if_turn l p c.requires.stands c.requires.done c.requires.takes c.in-If.left c.in-If.right c.in-If.yes c.in-If.no u
    ∙ ap₂ (λ a b. Some (turn.If (a == b))) (sym left) (sym right)

pub returns-in_default : goal.returns-in_default
returns-in_default c =
    let l = c.args.proc.now in
    let p = c.args.part.now in
    other_turn l p c.requires.stands c.requires.done c.requires.takes c.node.result.now c.node.ensures.tree
    c.in_default.not-New c.in_default.not-Qbit c.in_default.not-In c.in_default.not-Out c.in_default.not-If
