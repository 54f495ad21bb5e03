-- Where the entries of a run lead, and what is said of a run there.
use Rattle.std.specs.Prelude.{◌≡◌, List, Option, None, Some, IsSome, false}
use Rattle.cqp_syntax.specs.Listing.{Listing, root}
use Rattle.cqp_syntax.specs.Trees.{Process}
use Rattle.cqp_trace.specs.declared.entry.Entry.{Entry}
use Rattle.cqp_cells.specs.Config.{Config, start_of}
use Rattle.cqp_cells.specs.Path.{after, h_total, is_below_limit}
use Rattle.cqp_cells.specs.Step.{next}
use Rattle.cqp_engine.specs.declared.engine.Fit.{Fit}
use Rattle.cqp_engine.specs.declared.engine.Fit.TheVariants.{Made, NoStep, AtLimit}
use Rattle.cqp_stepper.specs.declared.cells.Cells.{Cells}
use Rattle.cqp_stepper.specs.Kept.{IsKept, Keeps}
use Rattle.cqp_stepper.specs.Steps.{GoesOnTo}

-- the configuration, or the first where there is none
abbrev pub or_first : Config → Option Config → Config
or_first c None = c
or_first c (Some d) = d

-- the configuration to which entries of p lead
abbrev pub last_of : Process → List Entry → Config
last_of p es = or_first (start_of p) (after (start_of p) es)

-- what holds of the entries that the cells are of, and of the configuration to which they lead
abbrev pub OfRun : Listing → Cells → (List Entry → Config → Type 0) → Type 0
OfRun l s P = (entries : List Entry) → IsKept l entries s → P entries (last_of (root l) entries)

-- the entry is a reduction of the configuration to which the entries lead that the cells are of
pub record IsReduction (l : Listing) (s : Cells) (e : Entry) : Type 0 where
  pub entries : List Entry
  pub kept : IsKept l entries s
  pub fits : IsSome (next (last_of (root l) entries) e)

-- no reduction is the entry
abbrev pub NoneFits : Entry → List Entry → Config → Type 0
NoneFits e es last = next last e ≡ None

-- the entry is an H that finds the exponent at its limit
abbrev pub FindsLimit : Entry → List Entry → Config → Type 0
FindsLimit e es last =
    IsSome (next last e) × (is_below_limit (h_total es) last.state e.deed ≡ false)

-- what an entry that is tried makes of the cells: they go on by it, or are still of the same
-- entries, since no reduction is the entry or since it is at the limit
abbrev pub IsTriedBy : Listing → Cells → Entry → Fit → Cells → Type 0
IsTriedBy l s e Made t = GoesOnTo l s t e
IsTriedBy l s e NoStep t = Keeps l s t × OfRun l s (NoneFits e)
IsTriedBy l s e AtLimit t = Keeps l s t × OfRun l s (FindsLimit e)
