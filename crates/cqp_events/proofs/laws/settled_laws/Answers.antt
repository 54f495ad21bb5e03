use Rattle.cqp_events.proofs.Meeting.{meeting_law}
use Rattle.cqp_events.proofs.Own.{join_law, opening_law, own_law, split_law}
use Rattle.cqp_events.proofs.laws.settled_laws.Goals as goal

pub returns-clause-opening : goal.returns-clause-opening
returns-clause-opening c = opening_law

pub returns-clause-own : goal.returns-clause-own
returns-clause-own c = own_law

pub returns-clause-meeting : goal.returns-clause-meeting
returns-clause-meeting c = meeting_law

pub returns-clause-join : goal.returns-clause-join
returns-clause-join c = join_law

pub returns-clause-split : goal.returns-clause-split
returns-clause-split c = split_law
