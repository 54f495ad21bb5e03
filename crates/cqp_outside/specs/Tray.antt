-- A sink in memory, as contracts see it.
use Rattle.std.specs.Prelude.{◌≡◌, ◌⊎◌, ℕ, ◌-◌, Contains, List, [], ◌++◌, take, length, min, Result}
use Rattle.std.specs.Prelude.{Ok, Err}
use Rattle.cqp_outside.specs.Calls.{Calls, no_calls, after_call, after_fault}
use Rattle.cqp_outside.specs.declared.failed.Failed.{Failed}

-- The bytes written so far, how many it can hold, the most that one call takes, and the calls.
pub record Tray : Type 0 where
  pub bytes : List ℕ
  pub room : ℕ
  pub step : ℕ
  pub calls : Calls

-- A tray with nothing in it, before its first call.
abbrev pub empty_tray : ℕ → ℕ → List ℕ → Tray
empty_tray room step fails = record { bytes = []; room = room; step = step; calls = no_calls fails }

-- The next call is told to fail, or the room is full.
abbrev pub IsFailing : Tray → Type 0
IsFailing tray = Contains tray.calls.fails tray.calls.next ⊎ (length tray.bytes ≡ tray.room)

-- How many bytes a call takes of a piece of so many.
abbrev pub taken_count : Tray → ℕ → ℕ
taken_count tray len = min tray.step (min len (tray.room - length tray.bytes))

-- The bytes were appended.
abbrev pub after_taken : Tray → List ℕ → Tray
after_taken tray bytes = record tray { bytes = tray.bytes ++ bytes; calls = after_call tray.calls }

-- A call takes what it can of the piece, and a failed call only counts.
abbrev pub IsTaken : List ℕ → Tray → Tray → Result ℕ Failed → Type 0
IsTaken piece old new (Ok n) =
    (n ≡ taken_count old (length piece)) × (new ≡ after_taken old (take n piece))
IsTaken piece old new (Err e) = new ≡ record old { calls = after_fault old.calls }
