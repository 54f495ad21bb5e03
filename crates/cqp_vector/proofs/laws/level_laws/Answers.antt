use Rattle.cqp_vector.proofs.GroupLemmas.{joined_level}
use Rattle.cqp_vector.proofs.PieceLevels.{pieces_level}
use Rattle.cqp_vector.proofs.laws.level_laws.Goals as goal

pub returns-clause-joins : goal.returns-clause-joins
returns-clause-joins c = joined_level

pub returns-clause-splits : goal.returns-clause-splits
returns-clause-splits c = λ g ps m i p some e. pieces_level ps m g i p some e
