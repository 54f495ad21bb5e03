use Rattle.std.proofs.Common.{◌≡◌, ◌<◌, ◌-◌, ℕ, List, length, map, slice_index_or}
use Rattle.std.specs.List.{AllByRecursion}
use Rattle.cqp_syntax.specs.Listing.{Listing}
use Rattle.cqp_parts.specs.declared.bind.Bind.{Bind}
use Rattle.cqp_parts.specs.declared.part.Part.{Part}
use Rattle.cqp_parts.specs.Parts.{begins_at, IsProcessAt}
use Rattle.cqp_uses.specs.Users.{IsUses}
use Rattle.cqp_onward.specs.Sharing.{StandApart}
use Rattle.cqp_onward.proofs.Shares.{begun}
use Rattle.cqp_onward.proofs.sharing.share.Given as goal

-- the parts so far have the binding where its name is free
abbrev pub invariant-loop-i : goal.invariant-loop-i
invariant-loop-i l = record {
  count : length l.parts.items ≡ length l.numbers;
  told : (list : Listing) (a b : ℕ) (before : List Bind) → IsUses list l.uses → AllByRecursion (IsProcessAt list) l.numbers
      → StandApart list a b l.numbers → l.fn.parts.items ≡ map (begins_at list before) l.numbers
      → (d : Part) (j : ℕ) → j < length l.numbers → slice_index_or l.parts.items j d ≡ begun list l.bind before l.i l.numbers j;
}

abbrev pub decreases-loop-i : goal.decreases-loop-i
decreases-loop-i l = length l.numbers - l.i
