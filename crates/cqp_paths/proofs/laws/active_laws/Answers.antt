use Rattle.cqp_paths.proofs.Plain.{least_is_active, least_active}
use Rattle.cqp_paths.proofs.laws.active_laws.Goals as goal

pub returns-clause-active : goal.returns-clause-active
returns-clause-active c = least_is_active

pub returns-clause-least : goal.returns-clause-least
returns-clause-least c = least_active
