use Rattle.cqp_groups.proofs.PlaceLemmas.{read_there}
use Rattle.cqp_groups.proofs.groups.Groups.has_outcome.Goals as goal

pub has_outcome-requires : goal.has_outcome-requires
has_outcome-requires c =
    c.requires.places c.in-Some.held
    (read_there c.args.self.now c.self.inside.slots.items c.args.group c.index.result.now c.in-Some.held c.self.view_is c.index.ensures
    c.requires.number c.in-Some.is)
