use Rattle.std.proofs.Common.{append_assoc}
use Rattle.cqp_tool.proofs.lines.accepted_line.Goals as goal

pub returns : goal.returns
returns c = simp append_assoc (rw (c.from_vec.ensures, c.into_bytes.ensures.value) c.in_ok-text.ensures.ok)
