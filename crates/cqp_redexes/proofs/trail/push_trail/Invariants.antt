use Rattle.std.proofs.Common.{◌≡◌, ◌++◌}
use Rattle.cqp_syntax.specs.Listing.{expr_at}
use Rattle.cqp_redexes.specs.Evaluation.{redexes_of}
use Rattle.cqp_redexes.specs.Trails.{trail_left, work_left, AreExprsAt}
use Rattle.cqp_redexes.proofs.trail.push_trail.Given as goal

-- the redexes so far, and those that are left
abbrev pub invariant-loop-next : goal.invariant-loop-next
invariant-loop-next l = record {
  told : l.redexes.items ++ trail_left l.proc l.stack.items ≡ l.fn.redexes.items ++ redexes_of l.n (expr_at l.proc l.n);
  there : AreExprsAt l.proc l.stack.items;
}

abbrev pub decreases-loop-next : goal.decreases-loop-next
decreases-loop-next l = work_left l.proc l.stack.items
