use Rattle.std.proofs.Common.{◌≡◌, ◌++◌, take}
use Rattle.cqp_trace.specs.Text.{spaced}
use Rattle.cqp_trace.proofs.putting.put_all.Given as goal

-- the numbers so far
abbrev pub invariant-loop-number : goal.invariant-loop-number
invariant-loop-number l = l.bytes.items ≡ l.initial.bytes.items ++ spaced (take l.number-index l.numbers)
