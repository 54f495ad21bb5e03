use Rattle.std.proofs.Common.{sym, ◌∙◌}
use Rattle.cqp_machine.specs.Factors.{measured}
use Rattle.cqp_groups.proofs.PlaceLemmas.{outcome_there, places_there}
use Rattle.cqp_groups.proofs.SlotLemmas.{changed_to, set_twice}
use Rattle.cqp_groups.proofs.StateLemmas.{measured_state}
use Rattle.cqp_groups.proofs.groups.Groups.measured_at.Goals as goal

pub measured_at-requires-clause-places : goal.measured_at-requires-clause-places
measured_at-requires-clause-places c =
    places_there c.args.self.now c.args.group c.args.qubits c.args.places.now c.in-Some.held c.requires.places
    (sym c.take.ensures.value ∙ c.in-Some.is) c.requires.can.held

pub measured_at-requires-clause-outcome : goal.measured_at-requires-clause-outcome
measured_at-requires-clause-outcome c =
    outcome_there c.args.self.now c.args.group c.args.qubits c.args.places.now c.in-Some.held c.requires.places
    (sym c.take.ensures.value ∙ c.in-Some.is) c.args.outcome c.requires.can

pub returns-in-Some-clause-value : goal.returns-in-Some-clause-value
returns-in-Some-clause-value c =
    changed_to c.args.self.now c.take.new.self c.put.new.self c.args.group (measured c.args.qubits c.args.outcome) c.in-Some.held
    c.measured_at.new.self (sym c.take.ensures.value ∙ c.in-Some.is) c.take.ensures.left c.put.ensures c.measured_at.ensures

pub returns-in-Some-clause-state : goal.returns-in-Some-clause-state
returns-in-Some-clause-state c =
    measured_state c.args.self.now c.put.new.self c.args.group c.args.qubits c.args.outcome c.requires.can (returns-in-Some-clause-value c)
    (set_twice c.args.self.now c.take.new.self c.put.new.self c.args.group _ _ c.take.ensures.left c.put.ensures)
