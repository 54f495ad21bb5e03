use Rattle.std.proofs.Common.{◌≡◌, ◌++◌, [], take}
use Rattle.std.specs.List.{flat_map}
use Rattle.cqp_syntax.specs.Listing.{expr_at}
use Rattle.cqp_redexes.specs.Evaluation.{redexes_of}
use Rattle.cqp_redexes.proofs.trail.push_all.Given as goal

-- the redexes of the expressions so far
abbrev pub invariant-loop-n : goal.invariant-loop-n
invariant-loop-n l = record {
  told : l.redexes.items ≡ l.fn.redexes.items ++ flat_map (λ n. redexes_of n (expr_at l.proc n)) (take l.n-index l.exprs);
  empty : l.stack.items ≡ [];
}
