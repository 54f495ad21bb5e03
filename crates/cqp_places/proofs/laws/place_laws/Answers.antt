use Rattle.cqp_places.proofs.PlaceLemmas.{outcome_small, bit_at_index, zero_at_index, one_of_index}
use Rattle.cqp_places.proofs.laws.place_laws.Goals as goal

pub returns-clause-within : goal.returns-clause-within
returns-clause-within c = outcome_small

pub returns-clause-bit : goal.returns-clause-bit
returns-clause-bit c = bit_at_index

pub returns-clause-zero : goal.returns-clause-zero
returns-clause-zero c = zero_at_index

pub returns-clause-one : goal.returns-clause-one
returns-clause-one c = one_of_index
