use Rattle.std.proofs.Common.{◌≡◌, Some, sym, ◌∙◌}
use Rattle.cqp_machine.specs.Factors.{gated}
use Rattle.cqp_groups.specs.Groups.{groups_in}
use Rattle.cqp_groups.proofs.PlaceLemmas.{can_gate_too}
use Rattle.cqp_groups.proofs.SlotLemmas.{changed_to, set_twice}
use Rattle.cqp_groups.proofs.StateLemmas.{gate_state}
use Rattle.cqp_groups.proofs.groups.Groups.gate_at.Goals as goal

pub returns-in-Some-clause-value : goal.returns-in-Some-clause-value
returns-in-Some-clause-value c qs at =
    let there : groups_in c.args.self.now c.args.group ≡ Some c.in-Some.held = sym c.take.ensures.value ∙ c.in-Some.is in
    changed_to c.args.self.now c.take.new.self c.put.new.self c.args.group (gated c.args.op qs) c.in-Some.held c.gate_at.new.self
    there c.take.ensures.left c.put.ensures (c.gate_at.ensures qs (at c.in-Some.held there))

pub returns-in-Some-clause-state : goal.returns-in-Some-clause-state
returns-in-Some-clause-state c qs at =
    gate_state c.args.self.now c.put.new.self c.args.group c.args.op qs
    (can_gate_too c.args.self.now c.args.group c.args.op c.args.places.now qs c.requires at)
    (returns-in-Some-clause-value c qs at)
    (set_twice c.args.self.now c.take.new.self c.put.new.self c.args.group _ _ c.take.ensures.left c.put.ensures)
