use Rattle.std.proofs.Common.{◌≡◌, ℕ, length, map, take}
use Rattle.std.specs.List.{AllByRecursion}
use Rattle.cqp_syntax.specs.Listing.{Listing}
use Rattle.cqp_parts.specs.Parts.{begins_at, IsProcessAt}
use Rattle.cqp_uses.specs.Users.{IsUses}
use Rattle.cqp_onward.specs.Sharing.{StandApart}
use Rattle.cqp_onward.proofs.sharing.begin_all.Given as goal

-- a part at each number, with those of the bindings so far whose names are free there
abbrev pub invariant-loop-bind : goal.invariant-loop-bind
invariant-loop-bind l = record {
  count : length l.parts.items ≡ length l.numbers;
  told : (list : Listing) (a b : ℕ) → IsUses list l.uses → AllByRecursion (IsProcessAt list) l.numbers → StandApart list a b l.numbers
      → l.parts.items ≡ map (begins_at list (take l.bind-index l.env)) l.numbers;
}
