use Rattle.std.proofs.Common.{◌≡◌, subst, arith}
use Rattle.cqp_syntax.specs.Subterms.{term_node}
use Rattle.cqp_syntax.specs.Listing.{Unfolds, term_at, expr_at}
use Rattle.cqp_redexes.proofs.RedexCounts.{count_within, right_stands}
use Rattle.cqp_redexes.proofs.trail.count_at.Goals as goal

pub returns-in-Add-clause-small : goal.returns-in-Add-clause-small
returns-in-Add-clause-small c =
    let l = c.args.proc.now in
    let n = c.args.n in
    let left = c.in-Add.left in
    let right = c.in-Add.right in
    let u = subst (λ x. Unfolds l n x) c.in-Add.is c.node.ensures.tree in
    let at = right_stands l n left right u (subst (λ x. x ≡ term_node n (term_at l n)) c.in-Add.is c.node.ensures.numbers) in
    let first = c.requires.later.each left (omega (arith, u.exprs.0.behind)) u.exprs.0.within in
    let second = c.requires.later.each right (omega (arith, u.exprs.1.0.behind)) u.exprs.1.0.within in
    let small = c.requires.later.small right (omega (arith, u.exprs.1.0.behind)) u.exprs.1.0.within in
    omega (arith, at, first, second, small, count_within (expr_at l left))
