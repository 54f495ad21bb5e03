-- What a list of events shows and leaves.
use Rattle.std.specs.Prelude.{List, [], ◌∷◌, flat_map, Option, Some, None}
use Rattle.cqp_syntax.specs.Trees.{Process}
use Rattle.cqp_syntax.specs.Listing.{Listing}
use Rattle.cqp_trace.specs.declared.entry.Entry.{Entry}
use Rattle.cqp_parts.specs.declared.part.Part.{Part}
use Rattle.cqp_machine.specs.declared.front.Front.{Front}
use Rattle.cqp_machine.specs.declared.event.Event.{Event}
use Rattle.cqp_machine.specs.declared.event.Event.TheVariants as event
use Rattle.cqp_parts.specs.Parts.{process_of_part}
use Rattle.cqp_machine.specs.Cells.{Cells, cells_in}
use Rattle.cqp_book.specs.Run.{front_after, cell_after}
use Rattle.cqp_machine.specs.Machine.{factored}

-- the entry of a step; no other event shows
abbrev pub shown_by : Event → List Entry
shown_by (event.Step e group made gone woke level) = e ∷ []
shown_by e = []

-- the entries that events show
abbrev pub shown : List Event → List Entry
shown es = flat_map shown_by es

-- the process of a part that is there
abbrev pub process_in : Listing → Option Part → Option Process
process_in l None = None
process_in l (Some p) = Some (process_of_part l p)

-- the front after a run
abbrev pub front_of : Listing → List Event → Front
front_of l es = front_after factored l es

-- the cells after a run
abbrev pub cells_of : Listing → List Event → Cells
cells_of l es = cells_in (cell_after factored l es)
