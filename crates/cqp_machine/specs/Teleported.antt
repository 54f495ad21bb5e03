-- Teleportation as a run of the machine: the events between the entries that they show.
use Rattle.std.specs.Prelude.{ℕ, List, [], ◌∷◌, ◌++◌, map}
use Rattle.cqp_syntax.specs.declared.op.Op.TheVariants as op
use Rattle.cqp_syntax.specs.declared.ty.Ty.TheVariants as ty
use Rattle.cqp_syntax.specs.Preorder.{process_nodes}
use Rattle.cqp_syntax.specs.Listing.{Listing}
use Rattle.cqp_trace.specs.declared.deed.Deed.{Deed}
use Rattle.cqp_trace.specs.declared.deed.Deed.TheVariants as deed
use Rattle.cqp_cells.specs.Examples.{by}
use Rattle.cqp_cells.specs.Teleportation.{teleportation}
use Rattle.cqp_machine.specs.declared.event.Event.{Event}
use Rattle.cqp_machine.specs.declared.event.Event.TheVariants as event

-- the lists of the process, with offsets that are all 0
abbrev pub teleportation_listing : Listing
teleportation_listing = record {
  nodes = process_nodes 0 teleportation;
  types = ty.Int ∷ ty.Qbit ∷ ty.Chan (0 ∷ []) ∷ [];
  ty_of = 1 ∷ 1 ∷ 1 ∷ 2 ∷ 0 ∷ [];
  at = map (λ x. 0) (process_nodes 0 teleportation);
}

-- a step that makes, ends and wakes no part
abbrev pub does : ℕ → Deed → ℕ → ℕ → Event
does i d group level = event.Step (by i d) group 0 0 0 level

-- Alice and Bob share a pair: its qubits are joined once one of them is entered by a gate
abbrev pub sharing : List Event
sharing =
    does 0 (deed.Qbit 0) 0 0
    ∷ does 0 (deed.Qbit 1) 0 0
    ∷ does 0 (deed.Qbit 2) 0 0
    ∷ does 0 (deed.New 0) 0 0
    ∷ does 0 (deed.Gate op.H (1 ∷ [])) 1 2
    ∷ does 0 deed.Act 0 2
    ∷ event.Join 1 2
    ∷ does 0 (deed.Gate op.CNot (1 ∷ 2 ∷ [])) 1 2
    ∷ []

-- Bob waits while Alice measures, and the measured qubits leave the group
abbrev pub measuring : List Event
measuring =
    event.Step (by 0 deed.Act) 0 1 0 0 2
    ∷ event.Park 1 0
    ∷ event.Join 0 1
    ∷ does 0 (deed.Gate op.CNot (0 ∷ 1 ∷ [])) 0 2
    ∷ does 0 deed.Act 0 2
    ∷ does 0 (deed.Gate op.H (0 ∷ [])) 0 4
    ∷ does 0 deed.Act 0 4
    ∷ does 0 (deed.Measure (0 ∷ 1 ∷ []) 3) 0 4
    ∷ event.Split 0 (0 ∷ 1 ∷ []) 2
    ∷ []

-- Alice tells both bits and ends, and Bob mends his qubit
abbrev pub mending : List Event
mending =
    event.Step (by 0 (deed.Com 1 0)) 0 0 1 1 4
    ∷ does 1 (deed.Pick op.Y) 0 4
    ∷ does 1 (deed.Gate op.Y (2 ∷ [])) 2 4
    ∷ event.Step (by 1 deed.Act) 0 0 1 0 4
    ∷ []

-- the whole run
abbrev pub teleportation_events : List Event
teleportation_events = sharing ++ measuring ++ mending
