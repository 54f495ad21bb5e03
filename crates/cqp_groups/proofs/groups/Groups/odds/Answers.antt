use Rattle.cqp_groups.specs.Groups.{AreOdds}
use Rattle.cqp_groups.specs.States.{TellState}
use Rattle.cqp_groups.proofs.SlotLemmas.{if_ok_too}
use Rattle.cqp_groups.proofs.StateLemmas.{odds_state}
use Rattle.cqp_groups.proofs.groups.Groups.odds.Goals as goal

pub returns-clause-state : goal.returns-clause-state
returns-clause-state c =
    if_ok_too c.odds_at.result (AreOdds c.args.self.now c.args.group c.args.qubits.now) (TellState c.args.self.now c.args.qubits.now)
    (odds_state c.args.self.now c.args.group c.args.qubits.now c.requires.held) c.odds_at.ensures
