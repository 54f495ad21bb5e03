use Rattle.std.proofs.Common.{◌≡◌, ◌<◌, ℕ, get_or}
use Rattle.cqp_pool.specs.Parts.{Owned, IsSettled}
use Rattle.cqp_pool.proofs.gather.settle_in.Given as goal

abbrev pub invariant-loop-k : goal.invariant-loop-k
invariant-loop-k g l = (l.owns ≡ l.initial.owns) × ((j : ℕ) → j < l.k → (d : Owned) → IsSettled (get_or l.initial.owns j d))
