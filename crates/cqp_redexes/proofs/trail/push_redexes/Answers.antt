use Rattle.std.proofs.Common.{◌≡◌, ◌++◌, ap, subst, ◌∙◌}
use Rattle.std.specs.List.{flat_map}
use Rattle.cqp_syntax.specs.Subterms.{term_node}
use Rattle.cqp_syntax.specs.Listing.{Unfolds, term_at, expr_at}
use Rattle.cqp_redexes.specs.Evaluation.{redexes_of}
use Rattle.cqp_redexes.proofs.TrailLists.{on_ok, redexes_of_args}
use Rattle.cqp_redexes.proofs.trail.push_redexes.Goals as goal

pub returns-in-Out-clause-ok : goal.returns-in-Out-clause-ok
returns-in-Out-clause-ok c =
    let l = c.args.proc.now in
    let n = c.args.n in
    let u = subst (λ x. Unfolds l n x) c.in-Out.is c.node.ensures.tree in
    let numbers = subst (λ x. x ≡ term_node n (term_at l n)) c.in-Out.is c.node.ensures.numbers in
    let same = ap (flat_map (λ m. redexes_of m (expr_at l m))) c.as_slice.ensures ∙ redexes_of_args l n c.in-Out.chan c.in-Out.args c.in-Out.body u numbers in
    on_ok c.push_all-in-Out.result (λ h. h ∙ ap (λ xs. c.args.redexes.now.items ++ xs) same) c.push_all-in-Out.ensures.ok
