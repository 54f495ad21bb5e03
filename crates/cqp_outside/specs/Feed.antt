-- A source in memory, as contracts see it.
use Rattle.std.specs.Prelude.{◌≡◌, ℕ, List, drop, length, min, Result, Ok, Err}
use Rattle.cqp_outside.specs.Calls.{Calls, no_calls, after_call, after_fault}
use Rattle.cqp_outside.specs.declared.failed.Failed.{Failed}

-- The bytes not yet given, the most that one call gives, and the calls.
pub record Feed : Type 0 where
  pub left : List ℕ
  pub step : ℕ
  pub calls : Calls

-- A feed of these bytes, before its first call.
abbrev pub feed_of : List ℕ → ℕ → List ℕ → Feed
feed_of bytes step fails = record { left = bytes; step = step; calls = no_calls fails }

-- How many bytes a call gives into so much room.
abbrev pub given_count : Feed → ℕ → ℕ
given_count feed room = min feed.step (min room (length feed.left))

-- So many bytes were given.
abbrev pub after_given : Feed → ℕ → Feed
after_given feed n = record feed { left = drop n feed.left; calls = after_call feed.calls }

-- A call gives what it can, and a failed call only counts.
abbrev pub IsGiven : ℕ → Feed → Feed → Result ℕ Failed → Type 0
IsGiven room old new (Ok n) = (n ≡ given_count old room) × (new ≡ after_given old n)
IsGiven room old new (Err e) = new ≡ record old { calls = after_fault old.calls }
