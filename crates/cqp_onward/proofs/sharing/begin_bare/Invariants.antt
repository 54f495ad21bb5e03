use Rattle.std.proofs.Common.{◌≡◌, map, take}
use Rattle.cqp_onward.specs.Sharing.{bare_at}
use Rattle.cqp_onward.proofs.sharing.begin_bare.Given as goal

-- parts at the numbers so far
abbrev pub invariant-loop-n : goal.invariant-loop-n
invariant-loop-n l = l.parts.items ≡ map bare_at (take l.n-index l.numbers)
