use Rattle.std.proofs.Common.{sym, ◌∙◌}
use Rattle.cqp_tool.proofs.Cutting.{loop_finds, loop_goes_on}
use Rattle.cqp_tool.proofs.cut.cut.Goals as goal

pub returns-then-is_marker-clause-trace : goal.returns-then-is_marker-clause-trace
returns-then-is_marker-clause-trace c =
    loop_finds c.args.input.now c.loop-at.at c.line_len.result c.loop-at.invariant c.line_len.ensures.line
    (sym c.is_marker.ensures ∙ c.if-is_marker.true)

pub loop-at-preserved : goal.loop-at-preserved
loop-at-preserved c =
    loop_goes_on c.args.input.now c.loop-at.at c.line_len.result c.loop-at.invariant c.line_len.ensures.line
    (sym c.is_marker.ensures ∙ c.if-is_marker.false)
