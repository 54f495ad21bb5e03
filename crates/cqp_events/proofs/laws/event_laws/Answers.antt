use Rattle.cqp_events.proofs.Events.{event_law}
use Rattle.cqp_events.proofs.laws.event_laws.Goals as goal

pub returns : goal.returns
returns c = event_law
