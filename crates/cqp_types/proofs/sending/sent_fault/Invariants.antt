use Rattle.std.proofs.Common.{◌-◌, length, drop}
use Rattle.cqp_types.specs.Sending.{sent_at}
use Rattle.cqp_types.proofs.SendSteps.{HasSent}
use Rattle.cqp_types.proofs.sending.sent_fault.Given as goal

-- the arguments so far, from the last
abbrev pub invariant-loop-k : goal.invariant-loop-k
invariant-loop-k l =
    HasSent (length l.given.ty_of) l.n l.end l.uses.second.items l.fn.marks.by.items l.marks.by.items
    (sent_at l.given (drop (l.count - l.k) l.args)) l.twice l.used
