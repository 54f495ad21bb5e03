-- Laws of parts: what the parts in the place of one stand for.
use Rattle.std.specs.Prelude.{◌≡◌, ℕ, List, map, Some}
use Rattle.cqp_syntax.specs.declared.val.Val.{Val}
use Rattle.cqp_syntax.specs.Trees.{Process}
use Rattle.cqp_syntax.specs.Listing.{Listing, IsProc, root}
use Rattle.cqp_trace.specs.declared.deed.Deed.{Deed}
use Rattle.cqp_trace.specs.declared.deed.Deed.TheVariants as deed
use Rattle.cqp_cells.specs.Config.{flattened}
use Rattle.cqp_cells.specs.Moves.{Counts, moved, Sending, sends_on, receives_on}
use Rattle.cqp_parts.specs.declared.part.Part.{Part}
use Rattle.cqp_parts.specs.Parts.{process_of_part, opening_parts, parts_after, parts_after_input}

-- the parts stand for these processes, one by one
abbrev pub StandFor : Listing → List Part → List Process → Type 0
StandFor l parts ps = map (process_of_part l) parts ≡ ps

-- the opening's parts stand for the processes side by side
abbrev pub OpeningLaw : Type 0
OpeningLaw = (l : Listing) → IsProc l → StandFor l (opening_parts l) (flattened (root l))

-- after a deed of a part's own, the parts in its place stand for what its process becomes
abbrev pub OwnDeedLaw : Type 0
OwnDeedLaw =
    (l : Listing) → IsProc l → (part : Part) (n : Counts) (d : Deed) (p : Process)
    → moved n (process_of_part l part) d ≡ Some p → StandFor l (parts_after l part d) (flattened p)

-- so do those of a sender for its continuation
abbrev pub SenderLaw : Type 0
SenderLaw =
    (l : Listing) → IsProc l → (part : Part) (to chan : ℕ) (s : Sending)
    → sends_on chan (process_of_part l part) ≡ Some s
    → StandFor l (parts_after l part (deed.Com to chan)) (flattened s.rest)

-- and those of a receiver for its continuation with the values put in
abbrev pub ReceiverLaw : Type 0
ReceiverLaw =
    (l : Listing) → IsProc l → (part : Part) (chan : ℕ) (vs : List Val) (p : Process)
    → receives_on chan vs (process_of_part l part) ≡ Some p
    → StandFor l (parts_after_input l part vs) (flattened p)
