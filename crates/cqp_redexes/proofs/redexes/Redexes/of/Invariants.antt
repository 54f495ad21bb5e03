use Rattle.std.proofs.Common.{◌≡◌, ℕ, ◌≤◌, ◌<◌, [], length, slice_index}
use Rattle.std.specs.List.{AllByRecursion}
use Rattle.cqp_redexes.specs.Evaluation.{redexes_below}
use Rattle.cqp_redexes.proofs.redexes.Redexes.of.Given as goal

-- the redexes of the prefixes so far, and where those of each begin
abbrev pub invariant-loop-n : goal.invariant-loop-n
invariant-loop-n l = record {
  redexes : l.redexes.items ≡ redexes_below l.proc l.n;
  count : length l.starts.items ≡ l.n;
  starts : (k : ℕ) → k < l.n → slice_index l.starts.items k ≡ length (redexes_below l.proc k);
  within : AllByRecursion (λ at. at ≤ length l.redexes.items) l.starts.items;
  empty : l.stack.items ≡ [];
}
