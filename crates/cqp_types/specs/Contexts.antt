-- Contexts give types to slots: to names, and in a run to the qubits and channels that took their
-- places. A number, `unit` or a gate in a slot has a type of its own.
use Rattle.std.specs.Prelude.{◌≡◌, List, [], ◌∷◌, ◌++◌, map, filter, Bool, false, not, ◌||◌, ◌⊎◌}
use Rattle.std.specs.Prelude.{if◌then◌else◌, Option, Some, None}
use Rattle.cqp_syntax.specs.declared.val.Val.TheVariants as val
use Rattle.cqp_syntax.specs.Gates.{places_of}
use Rattle.cqp_syntax.specs.TypeTrees.{TypeTree, int_type, unit_type, qbit_type, op_type}
use Rattle.cqp_syntax.specs.Trees.{Slot, named, valued, Binder}
use Rattle.cqp_syntax.specs.Free.{same_slot, is_among}

-- a slot with its type
pub record Entry : Type 0 where
  pub slot : Slot
  pub ty : TypeTree

-- types of slots, of which the first for a slot counts
abbrev pub Context : Type 0
Context = List Entry

-- the type of the first entry for the slot
abbrev pub entry_type : Context → Slot → Option TypeTree
entry_type [] s = None
entry_type (e ∷ g) s = if same_slot e.slot s then Some e.ty else entry_type g s

-- the type of what stands in the slot
abbrev pub type_in : Context → Slot → Option TypeTree
type_in g (valued (val.Num v)) = Some int_type
type_in g (valued val.Unit) = Some unit_type
type_in g (valued (val.Gate o)) = Some (op_type (places_of o))
type_in g s = entry_type g s

-- what stands in the slot has the type
abbrev pub Has : Context → Slot → TypeTree → Type 0
Has g s t = type_in g s ≡ Some t

-- whole is divided between left and right: each entry is in one or both, there are no others, and
-- one of type Qbit is in at most one
pub record Splits (whole left right : Context) : Type 0 where
  pub covers : (s : Slot) (t : TypeTree) → Has whole s t → Has left s t ⊎ Has right s t
  pub left_in : (s : Slot) (t : TypeTree) → Has left s t → Has whole s t
  pub right_in : (s : Slot) (t : TypeTree) → Has right s t → Has whole s t
  pub once : (s : Slot) → Has left s qbit_type → Has right s qbit_type → ⊥

-- the context with the name of a binder, and with those of several
abbrev pub bound_entry : Binder → Entry
bound_entry b = record { slot = named b.name; ty = b.ty }

-- the context with several binders above it
abbrev pub binding : List Binder → Context → Context
binding bs g = map bound_entry bs ++ g

-- the context without these slots
abbrev pub leaving : List Slot → Context → Context
leaving taken g = filter (λ e. not (is_among e.slot taken)) g

-- a slot stands there twice
abbrev pub is_twice : List Slot → Bool
is_twice [] = false
is_twice (s ∷ ss) = is_among s ss || is_twice ss
