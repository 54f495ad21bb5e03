use Rattle.cqp_short.proofs.Short.{paying, short}
use Rattle.cqp_short.proofs.Room.{room}
use Rattle.cqp_short.proofs.Pars.{parts_within}
use Rattle.cqp_short.proofs.FrontBounds.{advances}
use Rattle.cqp_short.proofs.laws.short_laws.Goals as goal

pub returns-clause-paid : goal.returns-clause-paid
returns-clause-paid c = paying

pub returns-clause-short : goal.returns-clause-short
returns-clause-short c = short

pub returns-clause-room : goal.returns-clause-room
returns-clause-room c = room

pub returns-clause-parts : goal.returns-clause-parts
returns-clause-parts c = parts_within

pub returns-clause-counts : goal.returns-clause-counts
returns-clause-counts c = advances
