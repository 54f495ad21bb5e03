-- Laws of parts that stand: from the opening, after deeds that suit, and which deeds do.
use Rattle.std.specs.Prelude.{◌≡◌, ℕ, List, true, Some, IsSome}
use Rattle.cqp_syntax.specs.declared.val.Val.{Val}
use Rattle.cqp_syntax.specs.Trees.{Process}
use Rattle.cqp_syntax.specs.Listing.{Listing, IsProc}
use Rattle.cqp_trace.specs.declared.deed.Deed.{Deed}
use Rattle.cqp_trace.specs.declared.deed.Deed.TheVariants as deed
use Rattle.cqp_parts.specs.declared.part.Part.{Part}
use Rattle.cqp_cells.specs.Moves.{Counts, moved, Sending, sends_on, receives_on}
use Rattle.cqp_parts.specs.Parts.{process_of_part, opening_parts, parts_after, parts_after_input}
use Rattle.cqp_standing.specs.Stands.{Stands}
use Rattle.cqp_standing.specs.Suits.{suits, takes}
use Rattle.std.specs.List.{AllByRecursion}

-- the parts of the opening stand
abbrev pub OpeningStands : Type 0
OpeningStands = (l : Listing) → IsProc l → AllByRecursion (Stands l) (opening_parts l)

-- so do the parts after a deed that suits
abbrev pub DeedsStand : Type 0
DeedsStand =
    (l : Listing) → IsProc l → (part : Part) → Stands l part → (d : Deed)
    → suits (process_of_part l part) d ≡ true → AllByRecursion (Stands l) (parts_after l part d)

-- and those behind an input, where it takes the values
abbrev pub ReceiversStand : Type 0
ReceiversStand =
    (l : Listing) → IsProc l → (part : Part) → Stands l part → (vs : List Val)
    → takes (process_of_part l part) vs ≡ true
    → AllByRecursion (Stands l) (parts_after_input l part vs)

-- a deed that moves a process suits it
abbrev pub SuitsLaw : Type 0
SuitsLaw = (n : Counts) (p : Process) (d : Deed) → IsSome (moved n p d) → suits p d ≡ true

-- so does a communication the sender, and the receiver takes its values
abbrev pub SendsLaw : Type 0
SendsLaw =
    (to chan : ℕ) (p : Process) (s : Sending) → sends_on chan p ≡ Some s
    → suits p (deed.Com to chan) ≡ true

abbrev pub TakesLaw : Type 0
TakesLaw =
    (chan : ℕ) (vs : List Val) (p : Process) → IsSome (receives_on chan vs p)
    → takes p vs ≡ true
