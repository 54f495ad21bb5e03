use Rattle.std.proofs.Common.{◌≡◌, true, take}
use Rattle.cqp_trace.specs.Lines.{has_no_feed}
use Rattle.cqp_tool.proofs.cut.line_len.Given as goal

-- no line feed stands before the place
abbrev pub invariant-loop-i : goal.invariant-loop-i
invariant-loop-i l = has_no_feed (take l.i l.bytes) ≡ true
