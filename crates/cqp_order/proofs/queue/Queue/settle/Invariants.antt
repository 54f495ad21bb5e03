use Rattle.std.proofs.Common.{◌≡◌, ℕ, IsTrue, Some, length}
use Rattle.cqp_order.specs.Places.{has, stands_in}
use Rattle.cqp_order.proofs.queue.Queue.settle.Given as goal

-- who stands so is still there
abbrev pub invariant-loop-part : goal.invariant-loop-part
invariant-loop-part l = (k : ℕ) → stands_in l.parts k ≡ Some l.stand → IsTrue (has l.fn.self k) → IsTrue (has l.self k)

abbrev pub decreases-loop-part : goal.decreases-loop-part
decreases-loop-part l = length l.self
