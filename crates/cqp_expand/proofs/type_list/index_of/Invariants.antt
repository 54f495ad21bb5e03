use Rattle.std.proofs.Common.{◌≡◌, ◌-◌, ◌<◌, ◌≤◌, ℕ, length, slice_get, Some}
use Rattle.cqp_expand.proofs.type_list.index_of.Given as goal

abbrev pub invariant-loop-next : goal.invariant-loop-next
invariant-loop-next l = (l.next ≤ length l.types) × ((n : ℕ) → n < l.next → slice_get l.types n ≡ Some l.ty → ⊥)

abbrev pub decreases-loop-next : goal.decreases-loop-next
decreases-loop-next l = length l.types - l.next
