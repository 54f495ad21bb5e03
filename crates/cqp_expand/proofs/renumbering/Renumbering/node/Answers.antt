use Rattle.cqp_expand.proofs.FlatNodes.{is_flat}
use Rattle.cqp_expand.proofs.renumbering.Renumbering.node.Goals as goal

pub flat-requires-clause-flat : goal.flat-requires-clause-flat
flat-requires-clause-flat c =
    let no = c.in_default in
    is_flat c.args.node.now no.not-In no.not-Out no.not-Apply no.not-Measure no.not-If
