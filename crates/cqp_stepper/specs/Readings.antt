-- What the cells of a run tell of what comes next.
use Rattle.std.specs.Prelude.{◌≡◌, ◌⊎◌, ℕ, Option, Some}
use Rattle.std.specs.Option.{option_and_then, option_map}
use Rattle.cqp_syntax.specs.Listing.{Listing}
use Rattle.cqp_trace.specs.declared.entry.Entry.{Entry}
use Rattle.cqp_cells.specs.Examples.{by}
use Rattle.cqp_cells.specs.Moves.{Counts as Made}
use Rattle.cqp_engine.specs.declared.engine.Upcoming.{Upcoming}
use Rattle.cqp_engine.specs.declared.engine.Upcoming.TheVariants as upcoming
use Rattle.cqp_meeting.specs.Meetings.{communication}
use Rattle.cqp_order.specs.declared.stand.Stand.{Stand}
use Rattle.cqp_order.specs.declared.stand.Stand.TheVariants.{Alone}
use Rattle.cqp_order.specs.declared.stand.Turn.{Turn as LeastTurn}
use Rattle.cqp_order.specs.Stands.{IsLeastTurn, stand_at}
use Rattle.cqp_turns.specs.declared.turn.Turn.{Turn}
use Rattle.cqp_turns.specs.declared.turn.Turn.TheVariants as turn
use Rattle.cqp_stepper.specs.declared.cells.Cells.{Cells}
use Rattle.cqp_stepper.specs.Own.{StandsBy, deed_by}
use Rattle.cqp_stepper.specs.Steps.{made_in}

-- what part i does next by its turn; one that waits does nothing of its own
abbrev pub upcoming_by : Made → ℕ → Turn → Option Upcoming
upcoming_by n i (turn.Measure qs) = Some (upcoming.Measurement qs)
upcoming_by n i t = option_map (λ d. upcoming.Entry (by i d)) (deed_by n 0 t)

-- the communication of a turn, by how its part stands
abbrev pub entry_of : (ℕ → Option Stand) → LeastTurn → Option Entry
entry_of at turn =
    option_and_then (λ j. option_and_then (communication turn.part j) (at turn.part)) turn.partner

-- the communication of the least turn, if there is one
abbrev pub IsLeastEntry : (ℕ → Option Stand) → Option Entry → Type 0
IsLeastEntry at e =
    (least : Option LeastTurn) × IsLeastTurn at least × (e ≡ option_and_then (entry_of at) least)

-- the part of the least turn, if there is one
abbrev pub IsLeastPartBy : (ℕ → Option Stand) → Option ℕ → Type 0
IsLeastPartBy at part =
    (least : Option LeastTurn) × IsLeastTurn at least
    × (part ≡ option_map (λ turn. turn.part) least)

-- part n stands alone, and goes on by its turn
pub record GoesAlone (l : Listing) (s : Cells) (n : ℕ) (next : Option Upcoming) : Type 0 where
  pub turn : Turn
  pub stands : StandsBy l s n turn
  pub is : next ≡ upcoming_by (made_in s) n turn

-- it doesn't, and the least turn is to communicate
pub record GoesWith (s : Cells) (n : ℕ) (next : Option Upcoming) : Type 0 where
  pub waits : stand_at s.order.0 n ≡ Some Alone → ⊥
  pub entry : Option Entry
  pub least : IsLeastEntry (stand_at s.order.0) entry
  pub is : next ≡ option_map (λ e. upcoming.Entry e) entry

-- one of both
abbrev pub IsNextOf : Listing → Cells → ℕ → Option Upcoming → Type 0
IsNextOf l s n next = GoesAlone l s n next ⊎ GoesWith s n next
