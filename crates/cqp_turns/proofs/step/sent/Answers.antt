use Rattle.std.proofs.Common.{◌≡◌, ℕ, ◌++◌, ◌∷◌, [], ◌+◌, ◌-◌, map, drop, slice_index_or, append_assoc, sym, ap, subst, arith, ◌∙◌}
use Rattle.cqp_syntax.specs.Trees.{Expr}
use Rattle.cqp_syntax.specs.Listing.{expr_at}
use Rattle.cqp_syntax.specs.Measures.{expr_steps}
use Rattle.cqp_results.specs.Results.{operand, operands, count_of}
use Rattle.cqp_parts.specs.Bound.{expr_bound}
use Rattle.cqp_standing.specs.Stands.{AreOperandsAt}
use Rattle.cqp_standing.proofs.Bindings.{count_of_bound}
use Rattle.cqp_parts.proofs.Lists.{drop_first}
use Rattle.cqp_turns.proofs.PrefixTurns.{bound_at}
use Rattle.cqp_turns.proofs.step.sent.Goals as goal

pub loop-arg-preserved : goal.loop-arg-preserved
loop-arg-preserved c =
    let l = c.args.proc.now in
    let p = c.args.part.now in
    let args = c.args.args.now in
    let i = c.loop-arg.arg-index in
    let arg = slice_index_or args i 0 in
    let rest = drop (i + 1) args in
    let bound : ℕ → Expr = λ e. expr_bound p.env (expr_at l e) in
    let first = drop_first args i 0 c.loop-arg-test.true in
    let are = subst (λ es. AreOperandsAt l p es) first c.loop-arg.invariant.are in
    let count = c.count.ensures l c.requires.redexes are.0.within in
    let all : c.loop-arg.left ≡ expr_steps (expr_at l arg) + count_of (map (λ e. expr_at l e) rest) =
    c.loop-arg.invariant.left ∙ ap (λ es. count_of (map (λ e. expr_at l e) es)) first in
    let left : c.loop-arg.left - c.count.result ≡ count_of (map (λ e. expr_at l e) rest) = omega (arith, all, count) in
    let same : count_of (map bound rest) ≡ count_of (map (λ e. expr_at l e) rest) =
    ap count_of (sym (bound_at l p.env rest)) ∙ count_of_bound p.env (map (λ e. expr_at l e) rest) in
    let val : c.value.result ≡ operand p.vals (count_of (map bound rest)) (bound arg) =
    c.value.ensures ∙ ap (λ k. operand p.vals k (bound arg)) (left ∙ sym same) in
    let told = sym (ap (λ es. c.loop-arg.vals ++ operands p.vals (map bound es)) first) ∙ c.loop-arg.invariant.told in
    record {
      are = are.1;
      left = left;
      told = ap (λ vs. vs ++ operands p.vals (map bound rest)) c.in_ok-push.ensures.ok
          ∙ (append_assoc c.loop-arg.vals (c.value.result ∷ []) (operands p.vals (map bound rest))
          ∙ (ap (λ v. c.loop-arg.vals ++ v ∷ operands p.vals (map bound rest)) val ∙ told));
    }
