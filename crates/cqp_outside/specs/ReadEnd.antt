-- How a read of a whole source ends.
use Rattle.std.specs.Prelude.{ℕ, ◌+◌, ◌≤◌, List, length, Option, Result, Ok, Err}
use Rattle.cqp_outside.specs.Taken.{TakesAll, TakesAtMost, TakesCount}
use Rattle.cqp_outside.specs.declared.reading.ReadEnd.{ReadEnd}
use Rattle.cqp_outside.specs.declared.reading.ReadEnd.TheVariants.{Fault, TooLong, NoMemory}

-- All that was left is within the limit, or a byte past it was taken, or the call ended before.
abbrev pub IsRead : ℕ → Option (List ℕ) → Option (List ℕ) → Result (List ℕ) ReadEnd → Type 0
IsRead limit old new (Ok bytes) = TakesAll old new bytes × (length bytes ≤ limit)
IsRead limit old new (Err Fault) = TakesAtMost old new limit
IsRead limit old new (Err TooLong) = TakesCount old new (limit + 1)
IsRead limit old new (Err NoMemory) = TakesAtMost old new limit
