-- States that aren't 0, and what is said of the weight of a path.
use Rattle.std.specs.Prelude.{◌≢◌, List}
use Rattle.cqp_ring.specs.declared.weight.Weight.{Weight}
use Rattle.cqp_ring.specs.Root.{zero_root}
use Rattle.cqp_trace.specs.declared.entry.Entry.{Entry}
use Rattle.cqp_vector.specs.State.{State, HasEachPlace, norm_of_state}
use Rattle.cqp_cells.specs.Config.{Config}
use Rattle.cqp_cells.specs.Path.{h_total}

-- the state has all its numerators, and isn't 0
pub record IsState (s : State) : Type 0 where
  pub whole : HasEachPlace s
  pub nonzero : norm_of_state s ≢ zero_root

-- the norm of the last state over 2 to the number of H
abbrev pub weight_of_path : List Entry → Config → Weight
weight_of_path es c = record { top = norm_of_state c.state; below = h_total es }
