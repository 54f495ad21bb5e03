use Rattle.std.proofs.Common.{◌≡◌, ◌++◌}
use Rattle.std.specs.Prelude.{replicate}
use Rattle.cqp_ring.specs.Amp.{zero_amp}
use Rattle.cqp_vector.proofs.products.push_zeros.Given as goal

-- so many zeros more
abbrev pub invariant-loop-i : goal.invariant-loop-i
invariant-loop-i l = l.nums.items ≡ l.initial.nums.items ++ replicate l._i zero_amp
