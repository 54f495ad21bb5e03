use Rattle.cqp_engine.proofs.PlainEnds.{done_alone, stopped_alone}
use Rattle.cqp_engine.proofs.laws.end_laws.Goals as goal

pub returns-clause-done : goal.returns-clause-done
returns-clause-done c = done_alone

pub returns-clause-stopped : goal.returns-clause-stopped
returns-clause-stopped c = stopped_alone
