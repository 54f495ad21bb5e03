use Rattle.std.proofs.Common.{◌≡◌, ◌-◌, ◌<◌, [], length, drop}
use Rattle.cqp_syntax.specs.Listing.{Listing}
use Rattle.cqp_types.specs.Uses.{IsRecorded}
use Rattle.cqp_types.proofs.uses.Uses.use_all.Given as goal

-- the names so far, from the last, are recorded
abbrev pub invariant-loop-k : goal.invariant-loop-k
invariant-loop-k l = record {
  first : length l.self.first.items ≡ length l.fn.self.first.items;
  second : length l.self.second.items ≡ length l.fn.self.second.items;
  recorded : (p : Listing) → l.n < length p.nodes → IsRecorded p l.n [] l.fn.self.first.items l.fn.self.second.items
      → IsRecorded p l.n (drop (l.count - l.k) l.names) l.self.first.items l.self.second.items;
}
