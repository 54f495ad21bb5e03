use Rattle.cqp_stepper.proofs.Channels.{chan_made}
use Rattle.cqp_stepper.proofs.laws.meeting_laws.Goals as goal

pub returns-clause-chans : goal.returns-clause-chans
returns-clause-chans c = chan_made
