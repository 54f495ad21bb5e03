use Rattle.std.proofs.Common.{◌-◌, length}
use Rattle.cqp_tool.proofs.Cutting.{IsCutUpTo}
use Rattle.cqp_tool.proofs.cut.cut.Given as goal

-- the lines up to the place belong to the text
abbrev pub invariant-loop-at : goal.invariant-loop-at
invariant-loop-at l = IsCutUpTo l.input l.at

-- the bytes that are left are fewer each time
abbrev pub decreases-loop-at : goal.decreases-loop-at
decreases-loop-at l = length l.input - l.at
