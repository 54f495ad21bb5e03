use Rattle.cqp_meeting.proofs.Least.{least_law, paired_law, partner_law, stuck_law}
use Rattle.cqp_meeting.proofs.laws.least_laws.Goals as goal

pub returns-clause-stuck : goal.returns-clause-stuck
returns-clause-stuck c = stuck_law

pub returns-clause-least : goal.returns-clause-least
returns-clause-least c = least_law

pub returns-clause-paired : goal.returns-clause-paired
returns-clause-paired c = paired_law

pub returns-clause-partner : goal.returns-clause-partner
returns-clause-partner c = partner_law
