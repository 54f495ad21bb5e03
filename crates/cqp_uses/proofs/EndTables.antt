-- The table of ends with one more filled in.
use Rattle.std.proofs.Common.{◌≡◌, ℕ, ◌+◌, ◌<◌, ◌≤◌, List, length, set, ◌∙◌, arith, length-set}
use Rattle.cqp_syntax.specs.Listing.{Listing}
use Rattle.cqp_syntax.specs.Ends.{end_at}
use Rattle.cqp_uses.specs.Users.{EndsFrom}
use Rattle.cqp_parts.proofs.Filling.{entry, from_here}

-- the ends from n on, where those behind it are known
pub ends_more : (l : Listing) (ends : List ℕ) (n v : ℕ) → EndsFrom l ends (n + 1) → n < length l.nodes → v ≡ end_at l n → end_at l n ≤ length l.nodes
    → EndsFrom l (set ends n v) n
ends_more l ends n v t within is small = record {
  count = length-set ends n v ∙ t.count;
  each = λ m low high. entry ends n v m (end_at l) (omega (arith, t.count)) is low (λ more. t.each m more high);
  within = λ m low high. from_here (λ k. end_at l k ≤ length l.nodes) n m low small (λ more. t.within m more high);
}
