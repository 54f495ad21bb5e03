use Rattle.std.proofs.Common.{◌≡◌, true, drop}
use Rattle.cqp_syntax.specs.Listing.{Listing}
use Rattle.cqp_parts.specs.Parts.{IsProcessAt}
use Rattle.cqp_standing.specs.Stands.{has_rising_names}
use Rattle.cqp_uses.specs.Users.{IsUses}
use Rattle.cqp_onward.specs.Forgetting.{without}
use Rattle.cqp_onward.proofs.forgetting.forget_all.Given as goal

-- the names that are left, and names that rise
abbrev pub invariant-loop-name : goal.invariant-loop-name
invariant-loop-name l = record {
  told : (list : Listing) → IsUses list l.uses → IsProcessAt list l.n
      → without list l.n (drop l.name-index l.names) l.items.items ≡ without list l.n l.names l.fn.items.items;
  rise : has_rising_names l.items.items ≡ true;
}
