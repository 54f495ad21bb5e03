-- Laws of the groups of runs: what they stand for, and that an event which is enabled meets what
-- the call for it asks.
use Rattle.std.specs.Prelude.{◌≡◌, ◌≢◌, ℕ, ◌+◌, ◌/◌, ◌<◌, ◌≤◌, List, [], ◌∷◌, ◌++◌, length, Option}
use Rattle.cqp_syntax.specs.declared.op.Op.{Op}
use Rattle.cqp_ring.specs.Root.{zero_root}
use Rattle.cqp_syntax.specs.Listing.{Listing, IsProc, root}
use Rattle.cqp_vector.specs.State.{State, norm_of_state}
use Rattle.cqp_cells.specs.Config.{Config}
use Rattle.cqp_cells.specs.Exponent.{exponent_of}
use Rattle.cqp_cells.specs.Path.{IsPath, h_total}
use Rattle.cqp_cells.specs.Probability.{IsProbability}
use Rattle.cqp_trace.specs.declared.deed.Deed.TheVariants as deed
use Rattle.cqp_book.specs.Run.{IsRun, cell_after}
use Rattle.cqp_machine.specs.declared.event.Event.{Event}
use Rattle.cqp_machine.specs.Factors.{Held}
use Rattle.cqp_machine.specs.Enabled.{FitsStep, IsEnabled, MayJoin, MaySplit}
use Rattle.cqp_machine.specs.After.{cells_after, split_in}
use Rattle.cqp_machine.specs.Fronts.{front_after}
use Rattle.cqp_machine.specs.Machine.{factored, seen_by}
use Rattle.cqp_machine.specs.Sums.{exponents, levels, norms, weight_of_groups}
use Rattle.cqp_groups.specs.States.{AreState, IsAlone}
use Rattle.cqp_machine.specs.Shown.{shown, front_of, cells_of}
use Rattle.cqp_groups.specs.Groups.{CanMeasure, CanPair, CanSplit, CanGate, as_cells, groups_in}
use Rattle.cqp_groups.specs.Groups.{IsSmall, NormsFit, groups_split}

-- the groups are those of the cells after a run, with a place for each qubit that was made
pub record AreAfter (l : Listing) (es : List Event) (slots : List (Option Held)) : Type 0 where
  pub sound : IsProc l
  pub run : IsRun factored l es
  pub groups : groups_in slots ≡ (cells_of l es).groups
  pub places : length slots ≡ (front_of l es).qubits

-- a new qubit is the next
abbrev pub GrowLaw : Type 0
GrowLaw =
    (l : Listing) (es : List Event) (slots : List (Option Held)) (i group made gone woke level : ℕ)
    (q : ℕ) → AreAfter l es slots
    → FitsStep l (front_of l es) (cells_of l es) i (deed.Qbit q) group made gone woke level
    → q ≡ length slots

-- a gate
abbrev pub GateLaw : Type 0
GateLaw =
    (l : Listing) (es : List Event) (slots : List (Option Held)) (i group made gone woke level : ℕ)
    (o : Op) (qs : List ℕ) → AreAfter l es slots
    → FitsStep l (front_of l es) (cells_of l es) i (deed.Gate o qs) group made gone woke level
    → CanGate slots group o qs

-- a measurement
abbrev pub MeasureLaw : Type 0
MeasureLaw =
    (l : Listing) (es : List Event) (slots : List (Option Held)) (i group made gone woke level : ℕ)
    (qs : List ℕ) (m : ℕ) → AreAfter l es slots
    → FitsStep l (front_of l es) (cells_of l es) i (deed.Measure qs m) group made gone woke level
    → CanMeasure slots group qs m

-- a join, where at most 12 qubits were made
abbrev pub PairLaw : Type 0
PairLaw =
    (l : Listing) (es : List Event) (slots : List (Option Held)) (left right : ℕ)
    → AreAfter l es slots → length slots ≤ 12 → MayJoin (cells_of l es) left right
    → CanPair slots left right

-- a split, which does what the event does
abbrev pub DueLaw : Type 0
DueLaw =
    (l : Listing) (es : List Event) (slots : List (Option Held)) (group rest : ℕ) (qs : List ℕ)
    → AreAfter l es slots → MaySplit (cells_of l es) group qs rest
    → CanSplit slots group
    × (groups_split (as_cells slots) group
    ≡ split_in group qs rest ((cells_of l es).groups group) (cells_of l es).groups)

-- the sum of the levels is the front's, and at most 180
abbrev pub SumLaw : Type 0
SumLaw =
    (l : Listing) (es : List Event) (slots : List (Option Held)) → AreAfter l es slots
    → (levels (length slots) (as_cells slots) ≡ (front_of l es).level)
    × ((front_of l es).level ≤ 180)

-- where at most 12 qubits were made, the products of the norms fit
abbrev pub NormLaw : Type 0
NormLaw =
    (l : Listing) (es : List Event) (slots : List (Option Held)) → AreAfter l es slots
    → length slots ≤ 12 → NormsFit slots

-- the product of all is within 2 to the sum of the exponents
abbrev pub SmallLaw : Type 0
SmallLaw =
    (l : Listing) (es : List Event) (slots : List (Option Held)) → AreAfter l es slots
    → IsSmall (exponents (length slots) (as_cells slots)) (norms (length slots) (as_cells slots))

-- at the opening there is no group
abbrev pub OpenLaw : Type 0
OpenLaw = (l : Listing) → IsProc l → AreAfter l [] []

-- an event more, where the list has the groups that the event leaves
abbrev pub NextLaw : Type 0
NextLaw =
    (l : Listing) (es : List Event) (slots more : List (Option Held)) (e : Event)
    → AreAfter l es slots
    → IsEnabled l (front_of l es) (seen_by e (cell_after factored l es)) e
    → groups_in more ≡ (cells_after l (front_of l es) (cells_of l es) e).groups
    → length more ≡ (front_after (front_of l es) e).qubits → AreAfter l (es ++ e ∷ []) more

-- so many of them, and the sum of their exponents is at most 96
abbrev pub ExponentLaw : Type 0
ExponentLaw =
    (l : Listing) (es : List Event) (slots : List (Option Held)) → AreAfter l es slots
    → length slots ≤ 12 → exponents (length slots) (as_cells slots) ≤ 96

-- the groups stand for the state of a configuration, which isn't zero; the sum of their levels
-- tells its exponent, and their norms and exponents the probability of the entries shown
pub record TellRun (l : Listing) (es : List Event) (slots : List (Option Held)) (last : Config)
    : Type 0 where
  pub state : AreState slots (h_total (shown es)) last.state
  pub some : norm_of_state last.state ≢ zero_root
  pub exponent : exponent_of (h_total (shown es)) last.state
      ≡ (levels (length slots) (as_cells slots) + 1) / 2
  pub probability :
      IsProbability (root l) (shown es) (weight_of_groups (length slots) (as_cells slots))

-- the groups after a run tell the end of the path that it shows
abbrev pub StateLaw : Type 0
StateLaw =
    (l : Listing) (es : List Event) (slots : List (Option Held)) (last : Config)
    → AreAfter l es slots → IsPath (root l) (shown es) last → TellRun l es slots last

-- where the groups stand for a state, each qubit that was made is in exactly one of them
abbrev pub HeldLaw : Type 0
HeldLaw =
    (slots : List (Option Held)) (h : ℕ) (s : State) (q : ℕ) → AreState slots h s
    → q < length slots → IsAlone slots q
