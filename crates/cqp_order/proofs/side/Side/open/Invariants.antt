use Rattle.std.proofs.Common.{◌≡◌, ◌+◌, ◌-◌, ℕ, length}
use Rattle.cqp_order.specs.Places.{waits}
use Rattle.cqp_order.proofs.side.Side.open.Given as goal

-- who waits is as before
abbrev pub invariant-loop-self : goal.invariant-loop-self
invariant-loop-self l = (c k : ℕ) → waits l.self-inside.queues.items c k ≡ waits l.fn.self c k

abbrev pub decreases-loop-self : goal.decreases-loop-self
decreases-loop-self l = l.chan + 1 - length l.self-inside.queues.items
