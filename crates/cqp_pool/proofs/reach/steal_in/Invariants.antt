use Rattle.std.proofs.Common.{◌≡◌, All, take}
use Rattle.cqp_pool.specs.Tallies.{WasEmpty}
use Rattle.cqp_pool.specs.Parts.{passes_of}
use Rattle.cqp_pool.proofs.reach.steal_in.Given as goal

abbrev pub invariant-loop-k : goal.invariant-loop-k
invariant-loop-k g l = (l.row ≡ l.initial.row) × All WasEmpty (passes_of (take l.k l.row))
