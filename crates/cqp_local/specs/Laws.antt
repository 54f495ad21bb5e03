-- What an event does to all cells of a store, though it sees few.
use Rattle.std.specs.Prelude.{◌≡◌}
use Rattle.cqp_book.specs.Keys.{Store}
use Rattle.cqp_syntax.specs.Listing.{Listing}
use Rattle.cqp_machine.specs.declared.cell.Cell.{Cell}
use Rattle.cqp_machine.specs.declared.event.Event.{Event}
use Rattle.cqp_machine.specs.declared.front.Front.{Front}
use Rattle.cqp_machine.specs.After.{cells_after}
use Rattle.cqp_machine.specs.Cells.{cells_in}
use Rattle.cqp_machine.specs.Enabled.{IsEnabled}
use Rattle.cqp_machine.specs.Machine.{factored, seen_by}

-- the event is enabled on all cells of the store, and leaves what it makes of them
pub record ActsOnAll (l : Listing) (f : Front) (s : Store Cell) (e : Event) : Type 0 where
  pub enabled : IsEnabled l f (cells_in s) e
  pub leaves : cells_in (factored.after l f s e) ≡ cells_after l f (cells_in s) e

-- so it is where it is enabled on the cells that it sees
abbrev pub WholeLaw : Type 0
WholeLaw =
    (l : Listing) (f : Front) (s : Store Cell) (e : Event) → IsEnabled l f (seen_by e s) e
    → ActsOnAll l f s e
