use Rattle.std.proofs.Common.{ap, sym, ◌∙◌}
use Rattle.cqp_book.specs.Keys.{has}
use Rattle.cqp_groups.specs.Groups.{holds}
use Rattle.cqp_groups.proofs.PlaceLemmas.{has_any, read_there}
use Rattle.cqp_groups.proofs.groups.Groups.has_at.Goals as goal

pub returns-in-Some : goal.returns-in-Some
returns-in-Some c =
    c.contains.ensures.value
    ∙ (has_any c.args.qubit c.qubits.result.now
    ∙ (ap (has c.args.qubit) c.qubits.ensures.value
    ∙ sym (ap (holds c.args.qubit)
    (read_there c.args.self.now c.self.inside.slots.items c.args.number c.index.result.now c.in-Some.group c.self.view_is c.index.ensures
    c.requires c.in-Some.is))))
