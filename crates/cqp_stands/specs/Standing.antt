-- The law of parts along runs: each stands.
use Rattle.std.specs.Prelude.{◌≡◌, ℕ, List, Some}
use Rattle.cqp_book.specs.Run.{IsRun}
use Rattle.cqp_syntax.specs.Listing.{Listing, IsProc}
use Rattle.cqp_parts.specs.declared.part.Part.{Part}
use Rattle.cqp_machine.specs.declared.event.Event.{Event}
use Rattle.cqp_machine.specs.Machine.{factored}
use Rattle.cqp_machine.specs.Shown.{cells_of}
use Rattle.cqp_standing.specs.Stands.{Stands}

-- each part that is there after a run stands at a prefix, with all its names bound
abbrev pub StandingLaw : Type 0
StandingLaw =
    (l : Listing) (es : List Event) → IsProc l → IsRun factored l es → (i : ℕ) (part : Part)
    → (cells_of l es).parts i ≡ Some part → Stands l part
