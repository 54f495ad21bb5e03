-- An expression has no more redexes than nodes, so the redexes of a sum stand before the end.
use Rattle.std.proofs.Common.{◌≡◌, ℕ, ◌+◌, ◌≤◌, ap, arith, ◌∙◌}
use Rattle.cqp_syntax.specs.declared.node.Node.TheVariants as node
use Rattle.cqp_syntax.specs.Trees.{Expr, slot, sig, add, apply, measure}
use Rattle.cqp_syntax.specs.Preorder.{expr_size}
use Rattle.cqp_syntax.specs.Subterms.{term_node}
use Rattle.cqp_syntax.specs.Listing.{Listing, Unfolds, term_at, expr_at}
use Rattle.cqp_syntax.specs.Measures.{expr_steps}

-- an expression has no more redexes than nodes
pub count_within : (e : Expr) → expr_steps e ≤ expr_size e
count_within (slot s) = omega arith
count_within (sig e) = omega (arith, count_within e)
count_within (add e f) = omega (arith, count_within e, count_within f)
count_within (apply qs e) = omega (arith, count_within e)
count_within (measure qs) = omega arith

-- where a sum's right operand stands
pub right_stands : (l : Listing) (n left right : ℕ) → Unfolds l n (node.Add left right) → node.Add left right ≡ term_node n (term_at l n)
    → right ≡ n + 1 + expr_size (expr_at l left)
right_stands l n left right u h =
    let both : node.Add left right ≡ node.Add (n + 1) (n + 1 + expr_size (expr_at l left)) = h ∙ ap (term_node n) u.tree in
    cc both
