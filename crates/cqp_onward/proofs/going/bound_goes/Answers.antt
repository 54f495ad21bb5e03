use Rattle.std.proofs.Common.{ap}
use Rattle.cqp_parts.specs.Parts.{or_nil}
use Rattle.cqp_onward.proofs.Endings.{may_bind_name}
use Rattle.cqp_onward.proofs.going.bound_goes.Goals as goal

pub all_bound_goes-requires-clause-ends : goal.all_bound_goes-requires-clause-ends
all_bound_goes-requires-clause-ends c =
    may_bind_name c.args.proc.now c.requires.uses.process c.args.part c.requires.stands c.node-node.result.now c.in-New.name c.args.val
    (ap or_nil c.node-node.ensures.node) c.in-New.is
