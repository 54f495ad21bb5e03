use Rattle.std.proofs.Common.{◌≡◌, [], replicate}
use Rattle.cqp_uses.proofs.uses.none_used.Given as goal

-- so many lists so far
abbrev pub invariant-loop : goal.invariant-loop
invariant-loop l = l.names.items ≡ replicate l.counter []
