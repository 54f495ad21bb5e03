use Rattle.std.proofs.Common.{◌+◌, ◌%◌, ◌^◌, Some, sym, ap, ap₂, subst, ◌∙◌}
use Rattle.std.specs.Prelude.{IsSome}
use Rattle.cqp_syntax.specs.Listing.{Unfolds, expr_at}
use Rattle.cqp_cells.specs.Moves.{picked}
use Rattle.cqp_turns.specs.declared.turn.Turn.TheVariants as turn
use Rattle.cqp_results.specs.Results.{operand}
use Rattle.cqp_parts.specs.Bound.{expr_bound}
use Rattle.cqp_parts.specs.Parts.{process_of_part}
use Rattle.cqp_standing.specs.Stands.{IsOperandAt}
use Rattle.cqp_turns.specs.Turns.{turn_after, number_of, gate_in}
use Rattle.cqp_standing.proofs.Operands.{sum_operands, pick_operand, gate_operand, sum_next, pick_next, gate_next, look_next}
use Rattle.cqp_turns.proofs.TurnLemmas.{qubits_at, sum_turn, pick_turn, gate_turn_is, look_turn_is}
use Rattle.cqp_turns.proofs.step.redex_turn.Goals as goal

pub value-requires-clause-operand : goal.value-requires-clause-operand
value-requires-clause-operand c =
    let l = c.args.proc.now in
    let u = subst (λ x. Unfolds l c.args.m x) c.in-Add.is c.node.ensures.tree in
    let both = sum_operands l c.args.part.now c.args.m c.requires.redex c.in-Add.left c.in-Add.right u in
    subst (λ k. IsOperandAt l c.args.part.now c.in-Add.left k) (sym (c.count-skip.ensures l c.requires.redexes u.exprs.1.0.within)) both.0

pub value-requires-in-Add-clause-operand : goal.value-requires-in-Add-clause-operand
value-requires-in-Add-clause-operand c =
    let l = c.args.proc.now in
    let u = subst (λ x. Unfolds l c.args.m x) c.in-Add.is c.node.ensures.tree in
    (sum_operands l c.args.part.now c.args.m c.requires.redex c.in-Add.left c.in-Add.right u).1

pub value-requires-in-Sig-clause-operand : goal.value-requires-in-Sig-clause-operand
value-requires-in-Sig-clause-operand c =
    let l = c.args.proc.now in
    pick_operand l c.args.part.now c.args.m c.requires.redex c.in-Sig.of (subst (λ x. Unfolds l c.args.m x) c.in-Sig.is c.node.ensures.tree)

pub value-requires-in-Apply-clause-operand : goal.value-requires-in-Apply-clause-operand
value-requires-in-Apply-clause-operand c =
    let l = c.args.proc.now in
    gate_operand l c.args.part.now c.args.m c.requires.redex c.in-Apply.qubits c.in-Apply.op
    (subst (λ x. Unfolds l c.args.m x) c.in-Apply.is c.node.ensures.tree)

pub returns-in-Add : goal.returns-in-Add
returns-in-Add c =
    let l = c.args.proc.now in
    let part = c.args.part.now in
    let p = process_of_part l part in
    let u = subst (λ x. Unfolds l c.args.m x) c.in-Add.is c.node.ensures.tree in
    let skip = c.count-skip.ensures l c.requires.redexes u.exprs.1.0.within in
    let next = sum_next l part c.args.m c.requires.redex c.in-Add.left c.in-Add.right u in
    let told = ap (λ o. turn_after o p) next in
    let left = ap number_of (c.value.ensures ∙ ap (λ k. operand part.vals k (expr_bound part.env (expr_at l c.in-Add.left))) skip) in
    let right = ap number_of c.value-in-Add.ensures in
    told ∙ (sum_turn _ _ (subst IsSome told c.requires.takes)
    ∙ ap₂ (λ u w. Some (turn.Add ((u + w) % 2 ^ 32))) (sym (c.number-u.ensures ∙ left)) (sym (c.number-w.ensures ∙ right)))

pub returns-in-Sig : goal.returns-in-Sig
returns-in-Sig c =
    let l = c.args.proc.now in
    let part = c.args.part.now in
    let p = process_of_part l part in
    let u = subst (λ x. Unfolds l c.args.m x) c.in-Sig.is c.node.ensures.tree in
    let told = ap (λ o. turn_after o p) (pick_next l part c.args.m c.requires.redex c.in-Sig.of u) in
    let number = c.number.ensures ∙ ap number_of c.value-in-Sig.ensures in
    told ∙ (pick_turn _ (subst IsSome told c.requires.takes) ∙ ap (λ o. Some (turn.Pick o)) (sym (c.picked.ensures ∙ ap picked number)))

pub returns-in_ok-qubits_of-in-Apply : goal.returns-in_ok-qubits_of-in-Apply
returns-in_ok-qubits_of-in-Apply c =
    let l = c.args.proc.now in
    let part = c.args.part.now in
    let p = process_of_part l part in
    let u = subst (λ x. Unfolds l c.args.m x) c.in-Apply.is c.node.ensures.tree in
    let told = ap (λ o. turn_after o p) (gate_next l part c.args.m c.requires.redex c.in-Apply.qubits c.in-Apply.op u) in
    let gate = c.gate.ensures ∙ ap gate_in c.value-in-Apply.ensures in
    let qubits = c.in_ok-qubits_of-in-Apply.ensures ∙ ap (qubits_at part.env) c.as_slice.ensures in
    told ∙ (gate_turn_is part.env c.in-Apply.qubits _ (subst IsSome told c.requires.takes) ∙ ap₂ (λ o qs. Some (turn.Gate o qs)) (sym gate) (sym qubits))

pub returns-in_ok-qubits_of-in-Measure : goal.returns-in_ok-qubits_of-in-Measure
returns-in_ok-qubits_of-in-Measure c =
    let l = c.args.proc.now in
    let part = c.args.part.now in
    let p = process_of_part l part in
    let u = subst (λ x. Unfolds l c.args.m x) c.in-Measure.is c.node.ensures.tree in
    let told = ap (λ o. turn_after o p) (look_next l part c.args.m c.requires.redex c.in-Measure.qubits u) in
    let qubits = c.in_ok-qubits_of-in-Measure.ensures ∙ ap (qubits_at part.env) c.as_slice-in-Measure.ensures in
    told ∙ (look_turn_is part.env c.in-Measure.qubits (subst IsSome told c.requires.takes) ∙ ap (λ qs. Some (turn.Measure qs)) (sym qubits))
