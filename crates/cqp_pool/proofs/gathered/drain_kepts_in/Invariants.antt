use Rattle.std.proofs.Common.{◌≡◌, ◌<◌, ℕ, get_or}
use Rattle.cqp_pool.specs.Often.{AsOften}
use Rattle.cqp_pool.specs.Parts.{Log}
use Rattle.cqp_pool.proofs.gathered.drain_kepts_in.Given as goal

abbrev pub invariant-loop-k : goal.invariant-loop-k
invariant-loop-k g l =
    (l.kepts ≡ l.initial.kepts)
    × ((j : ℕ) → j < l.k → (d : Log _) → AsOften (get_or l.initial.kepts j d).pushed (get_or l.initial.kepts j d).taken)
