use Rattle.cqp_paths.proofs.PlainCases.{receiver_next}
use Rattle.cqp_paths.proofs.limits.receiver_decides.Goals as goal

pub returns : goal.returns
returns c = record { next = receiver_next }
