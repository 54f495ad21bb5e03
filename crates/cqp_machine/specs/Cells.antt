-- The cells of the factored machine: parts by number, channels, and groups by their least qubits.
use Rattle.std.specs.Prelude.{ℕ, ◌/◌, ◌%◌, List, Bool, ◌==◌, Option, Some, None, if◌then◌else◌}
use Rattle.cqp_book.specs.Keys.{has, Store}
use Rattle.cqp_parts.specs.declared.part.Part.{Part}
use Rattle.cqp_machine.specs.declared.cell.Cell.{Cell}
use Rattle.cqp_machine.specs.declared.cell.Cell.TheVariants as cell
use Rattle.cqp_machine.specs.Keys.{part_key, chan_key, group_key}
use Rattle.cqp_machine.specs.Factors.{Held, factor_of, with_due}

-- a channel: the parts that wait stand at outputs exactly where `outward` is true
pub record Channel : Type 0 where
  pub outward : Bool
  pub waiting : List ℕ

-- what stands at each number
pub record Cells : Type 0 where
  pub parts : ℕ → Option Part
  pub chans : ℕ → Option Channel
  pub groups : ℕ → Option Held

-- the part, the channel or the group in a cell
abbrev pub as_part : Option Cell → Option Part
as_part (Some (cell.Part p)) = Some p
as_part x = None

abbrev pub as_chan : Option Cell → Option Channel
as_chan (Some (cell.Chan outward waiting)) = Some (record { outward = outward; waiting = waiting })
as_chan x = None

abbrev pub as_group : Option Cell → Option Held
as_group (Some (cell.Group factor due)) = Some (with_due due factor)
as_group x = None

-- what a store has
abbrev pub cells_in : Store Cell → Cells
cells_in s = record {
  parts = λ i. as_part (s (part_key i));
  chans = λ c. as_chan (s (chan_key c));
  groups = λ g. as_group (s (group_key g));
}

-- cell of a part
abbrev pub part_cell : Option Part → Option Cell
part_cell None = None
part_cell (Some p) = Some (cell.Part p)

abbrev pub chan_cell : Option Channel → Option Cell
chan_cell None = None
chan_cell (Some c) = Some (cell.Chan c.outward c.waiting)

abbrev pub group_cell : Option Held → Option Cell
group_cell None = None
group_cell (Some g) = Some (cell.Group (factor_of g) g.due)

-- the cell at each key
abbrev pub store_of : Cells → Store Cell
store_of c k =
    if k % 3 == 0 then part_cell (c.parts (k / 3))
    else (if k % 3 == 1 then chan_cell (c.chans (k / 3)) else group_cell (c.groups (k / 3)))

-- a map with something else at one number
abbrev pub with_at : {X : Type 0} → ℕ → Option X → (ℕ → Option X) → ℕ → Option X
with_at n x f m = if m == n then x else f m

-- a store's cells at these keys alone
abbrev pub only : {X : Type 0} → List ℕ → Store X → Store X
only ks s k = if has k ks then s k else None
