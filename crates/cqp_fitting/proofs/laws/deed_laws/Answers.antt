use Rattle.cqp_fitting.proofs.Entries.{entry_law, fits_law, no_entry_law}
use Rattle.cqp_fitting.proofs.RightOperands.{operands_law}
use Rattle.cqp_fitting.proofs.laws.deed_laws.Goals as goal

pub returns-clause-fits : goal.returns-clause-fits
returns-clause-fits c = fits_law c.turn_laws.ensures.moves

pub returns-clause-entries : goal.returns-clause-entries
returns-clause-entries c = entry_law c.turn_laws.ensures.moves

pub returns-clause-none : goal.returns-clause-none
returns-clause-none c = no_entry_law c.turn_laws.ensures.moves

pub returns-clause-operands : goal.returns-clause-operands
returns-clause-operands c = operands_law
