-- What it is that a split of a group is that of the group as a factor.
use Rattle.std.specs.Prelude.{◌≡◌, ℕ, ◌<◌, List, length}
use Rattle.cqp_vector.specs.Places.{ArePlaces}
use Rattle.cqp_vector.specs.Pieces.{IsProjectedOn, pieces_of}
use Rattle.cqp_machine.specs.Factors.{Held, factor_of, places_in, outcome_in, split_pieces}

-- a factor's split at the places of these qubits, with the outcome that they have, gives the pieces
pub record SplitsRightly (qs : List ℕ) (G : Held) : Type 0 where
  pub places : ArePlaces (length G.qubits) (places_in G.qubits qs)
  pub some : 0 < length (places_in G.qubits qs)
  pub projected : IsProjectedOn (places_in G.qubits qs) (outcome_in qs G) (factor_of G)
  pub pieces :
      pieces_of (places_in G.qubits qs) (outcome_in qs G) (factor_of G) ≡ split_pieces qs G
