-- Something is upcoming of the least part.
use Rattle.std.proofs.Common.{◌≡◌, ◌⊎◌, ℕ, Bool, true, false, refl, inl, inr}
use Rattle.cqp_cells.specs.Config.{Config}
use Rattle.cqp_cells.specs.Waiting.{CanGoOn, MeetsSome, is_waiting}
use Rattle.cqp_engine.specs.declared.engine.Upcoming.{Upcoming}
use Rattle.cqp_engine.specs.Upcoming.{IsLeastPart, IsUpcoming}
use Rattle.cqp_engine.proofs.MeetingUpcoming.{meeting_upcoming}
use Rattle.cqp_engine.proofs.OwnUpcoming.{own_upcoming}

-- by whether the part waits
pub upcoming_exists : (c : Config) (i : ℕ) → CanGoOn c → IsLeastPart c i → (it : Upcoming) × IsUpcoming c i it
upcoming_exists c i goes is = by_wait (is_waiting is.active.process) refl is.active.goes
  where
    alone : is_waiting is.active.process ≡ false → (it : Upcoming) × IsUpcoming c i it
    alone moves =
        let some = goes.alone i is.active.process is.active.there moves in
        own_upcoming c i is.active.process some.0 is.active.there moves some.1

    by_wait : (b : Bool) → is_waiting is.active.process ≡ b → (is_waiting is.active.process ≡ false) ⊎ MeetsSome c is.active.process
        → (it : Upcoming) × IsUpcoming c i it
    by_wait b waits (inl moves) = alone moves
    by_wait false waits (inr meets) = alone waits
    by_wait true waits (inr meets) = meeting_upcoming c i is.active.process goes is is.active.there waits meets
