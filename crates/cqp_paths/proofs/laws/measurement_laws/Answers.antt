use Rattle.cqp_paths.proofs.Outcomes.{outcome_exists}
use Rattle.cqp_paths.proofs.Reached.{state_after_entries}
use Rattle.cqp_paths.proofs.Totals.{distribution_total}
use Rattle.cqp_paths.proofs.laws.measurement_laws.Goals as goal

pub returns-clause-outcome : goal.returns-clause-outcome
returns-clause-outcome c = outcome_exists

pub returns-clause-total : goal.returns-clause-total
returns-clause-total c = distribution_total

pub returns-clause-state : goal.returns-clause-state
returns-clause-state c = state_after_entries
