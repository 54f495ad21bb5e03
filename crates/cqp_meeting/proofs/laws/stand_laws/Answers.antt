use Rattle.cqp_meeting.proofs.Active.{active_law, alone_law}
use Rattle.cqp_meeting.proofs.Meeting.{fit_law, own_law}
use Rattle.cqp_meeting.proofs.Right.{part_right}
use Rattle.cqp_meeting.proofs.laws.stand_laws.Goals as goal

pub returns-clause-alone : goal.returns-clause-alone
returns-clause-alone c = alone_law

pub returns-clause-active : goal.returns-clause-active
returns-clause-active c = active_law

pub returns-clause-fits : goal.returns-clause-fits
returns-clause-fits c = fit_law

pub returns-clause-own : goal.returns-clause-own
returns-clause-own c = own_law

pub returns-clause-right : goal.returns-clause-right
returns-clause-right c = part_right
