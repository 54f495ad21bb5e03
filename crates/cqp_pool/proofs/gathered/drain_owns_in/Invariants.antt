use Rattle.std.proofs.Common.{◌≡◌, ◌<◌, ℕ, get_or}
use Rattle.cqp_pool.specs.Often.{AsOften}
use Rattle.cqp_pool.specs.Parts.{Owned}
use Rattle.cqp_pool.proofs.gathered.drain_owns_in.Given as goal

abbrev pub invariant-loop-k : goal.invariant-loop-k
invariant-loop-k g l =
    (l.owns ≡ l.initial.owns)
    × ((j : ℕ) → j < l.k → (d : Owned) → AsOften (get_or l.initial.owns j d).view.pushed (get_or l.initial.owns j d).view.taken)
