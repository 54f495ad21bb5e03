-- H doubles the norm of a state, and the other gates keep it.
use Rattle.std.proofs.Common.{◌≡◌, ℕ, List, length, true}
use Rattle.cqp_ring.specs.Root.{root_product}
use Rattle.cqp_ring.specs.Weight.{power_root}
use Rattle.cqp_syntax.specs.declared.op.Op.{Op}
use Rattle.cqp_syntax.specs.Gates.{places_of}
use Rattle.cqp_syntax.specs.Lists.{are_below, is_distinct}
use Rattle.cqp_trace.specs.declared.deed.Deed.TheVariants as deed
use Rattle.cqp_vector.specs.State.{State, HasEachPlace, norm_of_state}
use Rattle.cqp_vector.specs.Gate.{gate_of}
use Rattle.cqp_vector.specs.Places.{ArePlaces}
use Rattle.cqp_vector.proofs.StateNorms as vector
use Rattle.cqp_cells.specs.Path.{h_count}
use Rattle.cqp_cells.specs.Moves.{are_operands}
use Rattle.cqp_cells.proofs.Options.{both_true}

-- operands are distinct places
are_places : (n : ℕ) (qs : List ℕ) → are_operands n qs ≡ true → ArePlaces n qs
are_places n qs h = let tests = both_true (is_distinct qs) (are_below n qs) h in record { distinct = tests.0; below = tests.1 }

-- what a gate's entry does to the norm
pub gate_norm : (o : Op) (qs : List ℕ) (s : State) → HasEachPlace s → length qs ≡ places_of o → are_operands s.qubits qs ≡ true
    → norm_of_state (gate_of o qs s) ≡ root_product (power_root (h_count (deed.Gate o qs))) (norm_of_state s)
gate_norm o qs s whole places operands = vector.gate_norm o qs s whole places (are_places s.qubits qs operands)
