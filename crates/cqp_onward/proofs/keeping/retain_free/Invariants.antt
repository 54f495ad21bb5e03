use Rattle.std.proofs.Common.{◌≡◌, ◌≤◌, length, take, drop}
use Rattle.cqp_syntax.specs.Listing.{Listing}
use Rattle.cqp_parts.specs.Parts.{kept_at, IsProcessAt}
use Rattle.cqp_uses.specs.Users.{IsUses}
use Rattle.cqp_onward.proofs.keeping.retain_free.Given as goal

-- the bindings so far are kept in front, and those behind are as they were
abbrev pub invariant-loop-i : goal.invariant-loop-i
invariant-loop-i l = record {
  low : l.kept ≤ l.i;
  count : length l.items.items ≡ length l.fn.items.items;
  rest : drop l.i l.items.items ≡ drop l.i l.fn.items.items;
  told : (list : Listing) → IsUses list l.uses → IsProcessAt list l.n → take l.kept l.items.items ≡ kept_at list l.n (take l.i l.fn.items.items);
}
