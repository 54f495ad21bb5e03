use Rattle.std.proofs.Common.{ap, subst, sym}
use Rattle.cqp_parts.specs.Parts.{or_nil}
use Rattle.cqp_onward.specs.Forgetting.{PrefixEnds}
use Rattle.cqp_onward.proofs.Endings.{may_bind_name}
use Rattle.cqp_onward.proofs.alone.bound_alone.Goals as goal

pub begins_here-requires-clause-ends : goal.begins_here-requires-clause-ends
begins_here-requires-clause-ends c =
    let l = c.args.proc.now in
    let old = c.args.part.now in
    subst (PrefixEnds l old.node) (sym c.in_ok-push-in-New.ensures.ok)
    (may_bind_name l c.requires.uses.process old c.requires.stands c.node-node.result.now c.in-New.name c.args.val
    (ap or_nil c.node-node.ensures.node) c.in-New.is)
