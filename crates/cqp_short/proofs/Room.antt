-- Where an event is enabled, a book that was started with room for as many as a run has at most has some.
use Rattle.std.proofs.Common.{[], ◌∷◌, ◌++◌, arith, length-append}
use Rattle.cqp_book.specs.Keys.{find}
use Rattle.cqp_book.specs.Run.{cell_after}
use Rattle.cqp_parts.specs.Parts.{opening_parts}
use Rattle.cqp_machine.specs.Fronts.{opening_front}
use Rattle.cqp_machine.specs.Machine.{factored, part_pairs}
use Rattle.cqp_machine.specs.Shown.{front_of}
use Rattle.cqp_short.specs.Spent.{RoomLaw}
use Rattle.cqp_local.proofs.WholeFits.{whole_enabled}
use Rattle.cqp_short.proofs.FrontBounds.{run_more}
use Rattle.cqp_short.proofs.Short.{short}

-- the law of room
pub room : RoomLaw
room l es e few run on =
    let sound = (whole_enabled l (front_of l es) (cell_after factored l es) e on).process in
    let more = run_more l (opening_front l) (find (part_pairs 0 (opening_parts l))) es e run on in
    let all = short l (es ++ e ∷ []) sound few more in
    let size = length-append es (e ∷ []) in
    omega arith
