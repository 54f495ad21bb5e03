use Rattle.std.proofs.Common.{◌≡◌, ◌<◌, length, true, refl, sym, ap, subst, ◌∙◌}
use Rattle.cqp_syntax.specs.declared.val.Val.TheVariants as val
use Rattle.cqp_syntax.specs.declared.node.Node.TheVariants as node
use Rattle.cqp_syntax.specs.Trees.{named, slot, value}
use Rattle.cqp_syntax.specs.Listing.{expr_at}
use Rattle.cqp_results.specs.Results.{is_closed, last_but, operand}
use Rattle.cqp_parts.specs.Bound.{expr_bound}
use Rattle.cqp_standing.proofs.Bindings.{count_bound}
use Rattle.cqp_standing.proofs.Operands.{tree_is, of_value, of_name, of_redex, is_redex}
use Rattle.cqp_turns.proofs.step.value.Goals as goal

pub returns-in-Num : goal.returns-in-Num
returns-in-Num c =
    let p = c.args.part.now in
    let there = tree_is c.args.proc.now c.args.n c.node.result.now c.node.ensures.tree (node.Num c.in-Num.v) (value (val.Num c.in-Num.v)) c.in-Num.is refl in
    of_value p.vals p.env c.args.skip (val.Num c.in-Num.v) ∙ ap (λ e. operand p.vals c.args.skip (expr_bound p.env e)) (sym there)

pub returns-in-Unit : goal.returns-in-Unit
returns-in-Unit c =
    let p = c.args.part.now in
    let there = tree_is c.args.proc.now c.args.n c.node.result.now c.node.ensures.tree node.Unit (value val.Unit) c.in-Unit.is refl in
    of_value p.vals p.env c.args.skip val.Unit ∙ ap (λ e. operand p.vals c.args.skip (expr_bound p.env e)) (sym there)

pub returns-in-Gate : goal.returns-in-Gate
returns-in-Gate c =
    let p = c.args.part.now in
    let there =
    tree_is c.args.proc.now c.args.n c.node.result.now c.node.ensures.tree (node.Gate c.in-Gate.op) (value (val.Gate c.in-Gate.op)) c.in-Gate.is refl in
    of_value p.vals p.env c.args.skip (val.Gate c.in-Gate.op) ∙ ap (λ e. operand p.vals c.args.skip (expr_bound p.env e)) (sym there)

pub returns-in-Name : goal.returns-in-Name
returns-in-Name c =
    let p = c.args.part.now in
    let there =
    tree_is c.args.proc.now c.args.n c.node.result.now c.node.ensures.tree (node.Name c.in-Name.name) (slot (named c.in-Name.name)) c.in-Name.is refl in
    let closed = subst (λ e. is_closed (expr_bound p.env e) ≡ true) there c.requires.operand.closed in
    c.name_value.ensures ∙ (of_name p.vals p.env c.args.skip c.in-Name.name closed ∙ ap (λ e. operand p.vals c.args.skip (expr_bound p.env e)) (sym there))

pub returns-in_default : goal.returns-in_default
returns-in_default c =
    let p = c.args.part.now in
    let some =
    is_redex c.args.proc.now c.args.n c.requires.operand.is c.node.result.now c.node.ensures.tree
    c.in_default.not-Num c.in_default.not-Unit c.in_default.not-Name c.in_default.not-Gate in
    c.last_but.ensures
    ∙ ap (last_but c.args.skip) c.as_slice.ensures
    ∙ of_redex p.vals c.args.skip (expr_bound p.env (expr_at c.args.proc.now c.args.n))
    (subst (λ k. 0 < k) (sym (count_bound p.env (expr_at c.args.proc.now c.args.n))) some)

pub last_but-requires : goal.last_but-requires
last_but-requires c =
    let within =
    c.requires.operand.results
    (is_redex c.args.proc.now c.args.n c.requires.operand.is c.node.result.now c.node.ensures.tree
    c.in_default.not-Num c.in_default.not-Unit c.in_default.not-Name c.in_default.not-Gate) in
    subst (λ vs. c.args.skip < length vs) (sym c.as_slice.ensures) within
