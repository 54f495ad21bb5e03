use Rattle.std.proofs.Common.{◌≡◌, ℕ, ◌<◌, sum_by, take, length, slice_index}
use Rattle.cqp_expand.specs.Sizes.{member_length}
use Rattle.cqp_expand.proofs.sizes.starts.Given as goal

abbrev pub invariant-loop-member : goal.invariant-loop-member
invariant-loop-member l =
    (l.next ≡ sum_by (member_length l.outlines) (take l.member-index l.members)) × (length l.starts.items ≡ l.member-index)
    × ((k : ℕ) → k < l.member-index → slice_index l.starts.items k ≡ sum_by (member_length l.outlines) (take k l.members))
