-- The table of counts with one more filled in.
use Rattle.std.proofs.Common.{◌≡◌, ℕ, ◌+◌, ◌<◌, ◌≤◌, List, length, set, ◌∙◌, arith, length-set}
use Rattle.cqp_syntax.specs.Listing.{Listing, expr_at}
use Rattle.cqp_syntax.specs.Measures.{expr_steps}
use Rattle.cqp_redexes.specs.Evaluation.{CountsFrom}
use Rattle.cqp_parts.proofs.Filling.{entry, from_here}

-- the counts from n on, where those behind it are known
pub counts_more : (l : Listing) (counts : List ℕ) (n v : ℕ) → CountsFrom l counts (n + 1) → n < length l.nodes → v ≡ expr_steps (expr_at l n)
    → n + expr_steps (expr_at l n) ≤ length l.nodes → CountsFrom l (set counts n v) n
counts_more l counts n v t within is small = record {
  count = length-set counts n v ∙ t.count;
  each = λ m low high. entry counts n v m (λ k. expr_steps (expr_at l k)) (omega (arith, t.count)) is low (λ more. t.each m more high);
  small = λ m low high. from_here (λ k. k + expr_steps (expr_at l k) ≤ length l.nodes) n m low small (λ more. t.small m more high);
}
