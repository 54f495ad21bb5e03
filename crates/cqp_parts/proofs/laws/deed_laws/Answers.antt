use Rattle.std.proofs.Common.{[]}
use Rattle.cqp_parts.proofs.DeedLemmas.{own_deed, sender_deed, receiver_deed}
use Rattle.cqp_parts.proofs.TreeLemmas.{parts_stand}
use Rattle.cqp_parts.proofs.laws.deed_laws.Goals as goal

pub returns-clause-opening : goal.returns-clause-opening
returns-clause-opening c l is = parts_stand l is [] 0

pub returns-clause-own : goal.returns-clause-own
returns-clause-own c = own_deed

pub returns-clause-sender : goal.returns-clause-sender
returns-clause-sender c = sender_deed

pub returns-clause-receiver : goal.returns-clause-receiver
returns-clause-receiver c = receiver_deed
