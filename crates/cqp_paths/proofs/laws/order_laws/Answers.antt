use Rattle.cqp_paths.proofs.Following.{plain_on}
use Rattle.cqp_paths.proofs.Plain.{plain_alone, plain_meeting}
use Rattle.cqp_paths.proofs.laws.order_laws.Goals as goal

pub returns-clause-alone : goal.returns-clause-alone
returns-clause-alone c = plain_alone

pub returns-clause-meeting : goal.returns-clause-meeting
returns-clause-meeting c = plain_meeting

pub returns-clause-goes_on : goal.returns-clause-goes_on
returns-clause-goes_on c = plain_on
