-- A table with one more entry.
use Rattle.std.proofs.Common.{◌≡◌, ℕ, ◌+◌, ◌<◌, ◌≤◌, List, length, set, ◌∙◌, subst, arith, length-set}
use Rattle.cqp_syntax.proofs.Bools.{at_or_after}
use Rattle.cqp_syntax.proofs.NeedTables.{entry}
use Rattle.cqp_syntax.specs.Listing.{Listing}
use Rattle.cqp_syntax.specs.Ends.{end_at}
use Rattle.cqp_types.specs.Tables.{EndsFrom}

-- where the tables begin: at the end nothing is known
pub ends_begin : (l : Listing) (ends : List ℕ) (a : ℕ) → length ends ≡ length l.nodes → a ≡ length l.nodes → EndsFrom l ends a
ends_begin l ends a count e = record {
  count = count;
  at = λ m low high. absurd (omega arith);
  within = λ m low high. absurd (omega arith);
}

-- the ends from a node on, with one entry more
pub ends_more : (l : Listing) (ends : List ℕ) (n v : ℕ) → EndsFrom l ends (n + 1) → n < length l.nodes → v ≡ end_at l n → end_at l n ≤ length l.nodes
    → EndsFrom l (set ends n v) n
ends_more l ends n v t within is small = record {
  count = length-set ends n v ∙ t.count;
  at = λ m low high. entry ends n v m (end_at l) (omega (arith, t.count)) is low (λ more. t.at m more high);
  within = λ m low high. at_or_after n m low (λ e. subst (λ k. end_at l k ≤ length l.nodes) e small) (λ more. t.within m more high);
}
