-- The law of factored paths: the path that a run shows.
use Rattle.std.specs.Prelude.{◌≡◌, ◌+◌, ◌*◌, ◌≤◌, List, length}
use Rattle.cqp_syntax.specs.Trees.{Process}
use Rattle.cqp_syntax.specs.Listing.{Listing, root, IsProc}
use Rattle.cqp_trace.specs.declared.entry.Entry.{Entry}
use Rattle.cqp_cells.specs.Config.{Config}
use Rattle.cqp_cells.specs.Path.{IsPath}
use Rattle.cqp_cells.specs.Probability.{IsProbability}
use Rattle.cqp_types.specs.Derivations.{IsDerivable}
use Rattle.cqp_book.specs.Run.{IsRun}
use Rattle.cqp_machine.specs.declared.event.Event.{Event}
use Rattle.cqp_machine.specs.Machine.{factored}
use Rattle.cqp_syntax.specs.Measures.{size, need}
use Rattle.cqp_machine.specs.Shown.{shown, front_of, cells_of}
use Rattle.cqp_machine.specs.Sums.{weight_of_groups}
use Rattle.cqp_machine.specs.StandsFor.{StandsFor}

-- The events stand for the path of the entries that they show: its last configuration is the one
-- that the front and the cells stand for, and its probability is the product of the groups' norms
-- over 2 to the sum of their exponents.
pub record ShowsPath (l : Listing) (es : List Event) (last : Config) : Type 0 where
  pub path : IsPath (root l) (shown es) last
  pub stands : StandsFor l (front_of l es) (cells_of l es) (shown es) last
  pub probability :
      IsProbability (root l) (shown es) (weight_of_groups (front_of l es).qubits (cells_of l es))

-- the same in so few events
pub record IsFactoredPath (l : Listing) (es : List Event) (last : Config) : Type 0 where
  pub shows : ShowsPath l es last
  pub short : length es ≤ 13 * size (root l) + 1

-- no other configuration is led to
abbrev pub IsOnlyEnd : Process → List Entry → Config → Type 0
IsOnlyEnd p es last = (c : Config) → IsPath p es c → c ≡ last

-- the law: each run from a process shows exactly one path
abbrev pub ShownPathLaw : Type 0
ShownPathLaw =
    (l : Listing) (es : List Event) → IsProc l → IsRun factored l es
    → (last : Config) × ShowsPath l es last × IsOnlyEnd (root l) (shown es) last

-- the law: each factored path of a derivable process that needs at most 12 qubits stands for
-- exactly one path
abbrev pub FactoredPathLaw : Type 0
FactoredPathLaw =
    (l : Listing) (es : List Event) → IsProc l → IsDerivable (root l) → need (root l) ≤ 12
    → IsRun factored l es
    → (last : Config) × IsFactoredPath l es last × IsOnlyEnd (root l) (shown es) last
