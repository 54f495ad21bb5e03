-- Walks along the first of some parts: what each step asks, and where it leads. A step is a deed of
-- the part, or, where it is none, the receipt of some values.
use Rattle.std.specs.Prelude.{List, [], ◌∷◌, Bool, true, false, ◌&&◌, Option, Some, None, is_some}
use Rattle.cqp_syntax.specs.declared.val.Val.{Val}
use Rattle.cqp_syntax.specs.Trees.{Process}
use Rattle.cqp_syntax.specs.Listing.{Listing}
use Rattle.cqp_trace.specs.declared.deed.Deed.{Deed}
use Rattle.cqp_parts.specs.declared.part.Part.{Part}
use Rattle.cqp_parts.specs.Parts.{process_of_part, parts_after, parts_after_input}
use Rattle.cqp_standing.specs.Suits.{suits, takes}
use Rattle.cqp_turns.specs.Turns.{turn_in}

-- the process is ready for the step
abbrev pub is_ready : List Val → Process → Option Deed → Bool
is_ready vs p None = takes p vs
is_ready vs p (Some d) = suits p d

-- the parts in the place of one after the step
abbrev pub parts_led : Listing → List Val → Part → Option Deed → List Part
parts_led l vs part None = parts_after_input l part vs
parts_led l vs part (Some d) = parts_after l part d

-- the first part has a turn and is ready for the step
abbrev pub has_step : Listing → List Val → List Part → Option Deed → Bool
has_step l vs [] s = false
has_step l vs (p ∷ ps) s =
    is_some (turn_in (process_of_part l p)) && is_ready vs (process_of_part l p) s

-- the parts in the place of the first
abbrev pub next_parts : Listing → List Val → List Part → Option Deed → List Part
next_parts l vs [] s = []
next_parts l vs (p ∷ ps) s = parts_led l vs p s

-- each step in turn is one that the first part has
abbrev pub has_steps : Listing → List Val → List Part → List (Option Deed) → Bool
has_steps l vs ps [] = true
has_steps l vs ps (s ∷ ss) = has_step l vs ps s && has_steps l vs (next_parts l vs ps s) ss
