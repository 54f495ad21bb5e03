-- Where a run of the machine stands: the configuration to which its entries lead, and its parts.
use Rattle.std.specs.Prelude.{◌≡◌, ◌<◌, ◌≤◌, ℕ, List, [], ◌∷◌, ◌++◌, false, length, IsSome, Some}
use Rattle.cqp_book.specs.Run.{IsRun}
use Rattle.cqp_syntax.specs.Listing.{Listing, IsProc}
use Rattle.cqp_cells.specs.Config.{Config, part_at}
use Rattle.cqp_syntax.specs.declared.val.Val.{Val}
use Rattle.cqp_syntax.specs.Trees.{Process}
use Rattle.cqp_cells.specs.Moves.{receives_on}
use Rattle.cqp_cells.specs.Path.{IsLonger, IsPath}
use Rattle.cqp_trace.specs.declared.entry.Entry.{Entry}
use Rattle.cqp_cells.specs.Operands.{is_wrong}
use Rattle.cqp_paths.specs.Safe.{IsSafe}
use Rattle.cqp_types.specs.Checked.{IsChecked}
use Rattle.cqp_parts.specs.declared.part.Part.{Part}
use Rattle.cqp_parts.specs.Parts.{process_of_part}
use Rattle.cqp_standing.specs.Stands.{Stands}
use Rattle.cqp_turns.specs.Turns.{turn_in}
use Rattle.cqp_machine.specs.declared.event.Event.{Event}
use Rattle.cqp_machine.specs.Machine.{factored}
use Rattle.cqp_machine.specs.Shown.{cells_of, front_of}
use Rattle.cqp_factored.specs.FactoredPath.{ShowsPath}

-- a part of the run is one of the configuration, stands at a prefix, and has a turn
pub record IsPartHere (l : Listing) (last : Config) (n : ℕ) (part : Part) : Type 0 where
  pub stands : Stands l part
  pub there : part_at n last.parts ≡ Some (process_of_part l part)
  pub right : is_wrong last.state.qubits (process_of_part l part) ≡ false
  pub takes : IsSome (turn_in (process_of_part l part))

-- the run leads to the configuration, which is safe, and these are its parts
pub record IsHere (l : Listing) (es : List Event) (last : Config) : Type 0 where
  pub shows : ShowsPath l es last
  pub safe : IsSafe last
  pub parts : (n : ℕ) (part : Part) → (cells_of l es).parts n ≡ Some part
      → IsPartHere l last n part

-- each run of a checked process leads somewhere
abbrev pub HereLaw : Type 0
HereLaw =
    (l : Listing) (es : List Event) → IsProc l → IsChecked l → IsRun factored l es
    → (last : Config) × IsHere l es last

-- a run makes no more parts than the process has nodes
abbrev pub RoomLaw : Type 0
RoomLaw =
    (l : Listing) (es : List Event) → IsProc l → IsRun factored l es
    → (front_of l es).parts ≤ length l.nodes

-- a channel on which a part of a safe configuration receives was made
abbrev pub ChanLaw : Type 0
ChanLaw =
    (c : Config) (n chan : ℕ) (vs : List Val) (q r : Process) → IsSafe c
    → part_at n c.parts ≡ Some q → receives_on chan vs q ≡ Some r → chan < c.chans

-- a path with one entry more is a path before it, from which the entry goes on
abbrev pub BackLaw : Type 0
BackLaw =
    (p : Process) (es : List Entry) (e : Entry) (d : Config) → IsPath p (es ++ e ∷ []) d
    → IsLonger p es e d
