use Rattle.cqp_fresh.proofs.Groups.{stands_apart}
use Rattle.cqp_fresh.proofs.NewLaw.{factored_lawful}
use Rattle.cqp_fresh.proofs.laws.machine_laws.Goals as goal

pub returns-clause-lawful : goal.returns-clause-lawful
returns-clause-lawful c = factored_lawful

pub returns-clause-apart : goal.returns-clause-apart
returns-clause-apart c = stands_apart
