use Rattle.std.proofs.Common.{ap}
use Rattle.cqp_machine.specs.Factors.{factor_of}
use Rattle.cqp_groups.proofs.GroupPieces.{pieces_told}
use Rattle.cqp_groups.proofs.group.Group.split_at.Goals as goal

pub returns-in-Ok-clause-ok : goal.returns-in-Ok-clause-ok
returns-in-Ok-clause-ok c =
    pieces_told c.in-Ok.list c.args.places.items c.as_slice.result.now c.as_slice-2.result.now c.outcome_in-outcome.result c.self.inside.factor
    c.args.self c.in-Ok.ensures.ok
    (ap factor_of c.self.view_is) c.as_slice.ensures c.as_slice-2.ensures
    c.requires.places c.outcome_in-outcome.ensures c.requires.rightly
