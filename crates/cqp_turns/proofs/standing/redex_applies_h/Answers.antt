use Rattle.std.proofs.Common.{map, sym, ap, subst, ◌∙◌}
use Rattle.cqp_syntax.specs.Trees.{named}
use Rattle.cqp_syntax.specs.Listing.{Unfolds}
use Rattle.cqp_vector.specs.Group.{factors_left_out}
use Rattle.cqp_cells.specs.Lawful.{AppliesH}
use Rattle.cqp_standing.proofs.Bindings.{slots_bound}
use Rattle.cqp_standing.proofs.Operands.{gate_operand, gate_next}
use Rattle.cqp_turns.specs.Turns.{gate_in}
use Rattle.cqp_turns.proofs.HTurns.{gate_applies, other_applies}
use Rattle.cqp_turns.proofs.standing.redex_applies_h.Goals as goal

pub value-requires-clause-operand : goal.value-requires-clause-operand
value-requires-clause-operand c =
    let l = c.args.proc.now in
    gate_operand l c.args.part.now c.args.m c.requires.redex c.in-Apply.qubits c.in-Apply.op
    (subst (λ x. Unfolds l c.args.m x) c.in-Apply.is c.node.ensures.tree)

pub returns-in-Apply : goal.returns-in-Apply
returns-in-Apply c =
    let l = c.args.proc.now in
    let part = c.args.part.now in
    let u = subst (λ x. Unfolds l c.args.m x) c.in-Apply.is c.node.ensures.tree in
    let next = gate_next l part c.args.m c.requires.redex c.in-Apply.qubits c.in-Apply.op u in
    let op = ap factors_left_out (c.gate.ensures ∙ ap gate_in c.value.ensures) in
    let applies = gate_applies (slots_bound part.env (map named c.in-Apply.qubits)) _ in
    (λ h. subst AppliesH (sym next) (applies.0 (sym op ∙ c.is_h.ensures.0 h)), λ h. c.is_h.ensures.1 (op ∙ applies.1 (subst AppliesH next h)))

pub returns-in_default : goal.returns-in_default
returns-in_default c =
    let other = other_applies c.args.proc.now c.args.part.now c.args.m c.requires.redex c.node.result.now c.node.ensures.tree c.in_default.not-Apply in
    (λ h. absurd (cc h), λ h. absurd (other h))
