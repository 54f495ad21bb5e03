use Rattle.cqp_tool.proofs.FirstLines.{line_to_end, line_to_feed}
use Rattle.cqp_tool.proofs.cut.line_len.Goals as goal

pub returns-then-byte-eq10-clause-line : goal.returns-then-byte-eq10-clause-line
returns-then-byte-eq10-clause-line c =
    line_to_feed c.args.bytes.now c.loop-i.i c.loop-i.invariant c.loop-i-test.true c.if-byte-eq10.true

pub returns-clause-line : goal.returns-clause-line
returns-clause-line c =
    line_to_end c.args.bytes.now c.loop-i.i c.loop-i.invariant c.loop-i-test.false c.requires
