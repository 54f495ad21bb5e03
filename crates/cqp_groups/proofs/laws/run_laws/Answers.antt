use Rattle.cqp_groups.proofs.RunGroups.{follows, opens}
use Rattle.cqp_groups.proofs.RunStates.{states}
use Rattle.cqp_groups.proofs.StateLemmas.{held_alone}
use Rattle.cqp_groups.proofs.laws.run_laws.Goals as goal

pub returns-clause-open : goal.returns-clause-open
returns-clause-open c = opens

pub returns-clause-next : goal.returns-clause-next
returns-clause-next c = follows

pub returns-clause-state : goal.returns-clause-state
returns-clause-state c = states

pub returns-clause-held : goal.returns-clause-held
returns-clause-held c = held_alone
