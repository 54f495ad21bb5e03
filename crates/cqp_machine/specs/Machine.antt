-- The factored machine as a book's machine. An event sees the cells at the keys that it needs, and
-- changes those at the keys that it touches.
use Rattle.std.specs.Prelude.{ℕ, ◌+◌, ◌++◌, List, [], ◌∷◌, if◌then◌else◌}
use Rattle.cqp_book.specs.Keys.{has, Store}
use Rattle.cqp_book.specs.Meaning.{Meaning}
use Rattle.cqp_syntax.specs.Listing.{Listing}
use Rattle.cqp_parts.specs.declared.part.Part.{Part}
use Rattle.cqp_machine.specs.declared.front.Front.{Front}
use Rattle.cqp_machine.specs.declared.event.Event.{Event}
use Rattle.cqp_machine.specs.declared.cell.Cell.{Cell}
use Rattle.cqp_machine.specs.declared.cell.Cell.TheVariants as cell
use Rattle.cqp_machine.specs.Keys.{part_key}
use Rattle.cqp_parts.specs.Parts.{opening_parts}
use Rattle.cqp_machine.specs.Cells.{Cells, cells_in, store_of, only}
use Rattle.cqp_machine.specs.Touched.{needs_of, makes_of}
use Rattle.cqp_machine.specs.Fronts.{opening_front, front_after}
use Rattle.cqp_machine.specs.Enabled.{IsEnabled}
use Rattle.cqp_machine.specs.After.{cells_after}

-- parts with their keys, from number n on
abbrev pub part_pairs : ℕ → List Part → List (ℕ × Cell)
part_pairs n [] = []
part_pairs n (p ∷ ps) = (part_key n, cell.Part p) ∷ part_pairs (n + 1) ps

-- the cells that an event sees
abbrev pub seen_by : Event → Store Cell → Cells
seen_by e s = cells_in (only (needs_of e) s)

abbrev pub factored : Meaning Listing Front Cell Event
factored = record {
  front = opening_front;
  cells = λ l. part_pairs 0 (opening_parts l);
  needs = λ l f e. needs_of e;
  makes = λ l f e. makes_of f e;
  Enabled = λ l f s e. IsEnabled l f (seen_by e s) e;
  next = front_after;
  after = λ l f s e k.
      if has k (needs_of e ++ makes_of f e)
      then store_of (cells_after l f (seen_by e s) e) k
      else s k;
}
