use Rattle.std.proofs.Common.{sym, ap, ◌∙◌}
use Rattle.cqp_syntax.specs.NodeNames.{binds_in}
use Rattle.cqp_parts.specs.Parts.{or_nil}
use Rattle.cqp_onward.proofs.Endings.{may_bind}
use Rattle.cqp_onward.proofs.going.received.Goals as goal

pub all_bound_goes-requires-clause-ends : goal.all_bound_goes-requires-clause-ends
all_bound_goes-requires-clause-ends c =
    let names = ap binds_in (ap or_nil c.node-node.ensures.node ∙ c.in-In.is) ∙ sym c.as_slice-names.ensures in
    may_bind c.args.proc.now c.requires.uses.process c.args.part c.requires.stands c.as_slice-names.result.now c.args.vals.now names
