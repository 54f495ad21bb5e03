use Rattle.std.proofs.Common.{◌≡◌, ◌++◌, map, drop}
use Rattle.cqp_syntax.specs.Listing.{expr_at}
use Rattle.cqp_results.specs.Results.{operands, count_of}
use Rattle.cqp_parts.specs.Bound.{expr_bound}
use Rattle.cqp_standing.specs.Stands.{AreOperandsAt}
use Rattle.cqp_turns.proofs.step.sent.Given as goal

-- the values so far, and those of what is left
abbrev pub invariant-loop-arg : goal.invariant-loop-arg
invariant-loop-arg l = record {
  are : AreOperandsAt l.proc l.part (drop l.arg-index l.args);
  left : l.left ≡ count_of (map (λ e. expr_at l.proc e) (drop l.arg-index l.args));
  told : l.vals ++ operands l.part.vals (map (λ e. expr_bound l.part.env (expr_at l.proc e)) (drop l.arg-index l.args))
      ≡ operands l.part.vals (map (λ e. expr_bound l.part.env (expr_at l.proc e)) l.args);
}
