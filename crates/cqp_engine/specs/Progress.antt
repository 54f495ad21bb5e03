-- How far a run in one place has come: the entries that were made of its process, and where they
-- lead.
use Rattle.std.specs.Prelude.{◌≡◌, List, [], ◌∷◌, ◌++◌, None, IsSome, false}
use Rattle.cqp_syntax.specs.Binders.{HasDistinctBinders}
use Rattle.cqp_syntax.specs.Trees.{Process}
use Rattle.cqp_trace.specs.declared.entry.Entry.{Entry}
use Rattle.cqp_types.specs.Derivations.{IsDerivable}
use Rattle.cqp_cells.specs.Config.{Config, start_of}
use Rattle.cqp_cells.specs.Path.{IsPath, GoesOn, h_total, is_below_limit}
use Rattle.cqp_cells.specs.Step.{next}
use Rattle.cqp_engine.specs.declared.engine.Fit.{Fit}
use Rattle.cqp_engine.specs.declared.engine.Fit.TheVariants.{Made, NoStep, AtLimit}

-- the process, the entries that were made of it, and where they lead
pub record Progress : Type 0 where
  pub opening : Process
  pub entries : List Entry
  pub last : Config

-- nothing was done yet
abbrev pub fresh : Process → Progress
fresh p = record { opening = p; entries = []; last = start_of p }

-- one entry more, which leads to d
abbrev pub longer : Progress → Entry → Config → Progress
longer s e d = record { opening = s.opening; entries = s.entries ++ e ∷ []; last = d }

-- the entries are a path from the start to the last configuration
abbrev pub HasPath : Progress → Type 0
HasPath s = IsPath s.opening s.entries s.last

-- what was made are these entries of p, and they are a path
pub record HasMade (p : Process) (es : List Entry) (s : Progress) : Type 0 where
  pub path : HasPath s
  pub opening : s.opening ≡ p
  pub entries : s.entries ≡ es

-- a process of which each configuration that entries lead to is safe
pub record IsSound (p : Process) : Type 0 where
  pub derivable : IsDerivable p
  pub binders : HasDistinctBinders p

-- what an entry that is tried makes of the progress: it goes on, no reduction fits, or an H finds
-- the exponent at its limit
abbrev pub IsTried : Progress → Entry → Fit → Progress → Type 0
IsTried s e Made t = GoesOn s.entries s.last e t.last × (t ≡ longer s e t.last)
IsTried s e NoStep t = (next s.last e ≡ None) × (t ≡ s)
IsTried s e AtLimit t =
    IsSome (next s.last e)
    × (is_below_limit (h_total s.entries) s.last.state e.deed ≡ false)
    × (t ≡ s)
