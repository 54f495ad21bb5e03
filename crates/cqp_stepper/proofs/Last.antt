-- The configuration to which the entries of a run lead.
use Rattle.std.proofs.Common.{◌≡◌, ℕ, List, Some, sym, ap, subst, ◌∙◌}
use Rattle.cqp_syntax.specs.Listing.{Listing, root}
use Rattle.cqp_syntax.specs.Trees.{Process}
use Rattle.cqp_trace.specs.declared.entry.Entry.{Entry}
use Rattle.cqp_cells.specs.Config.{Config, start_of}
use Rattle.cqp_cells.specs.Path.{IsPath}
use Rattle.cqp_meeting.specs.Tables.{IsTable}
use Rattle.cqp_order.specs.Stands.{stand_at}
use Rattle.cqp_parts.specs.declared.part.Part.{Part}
use Rattle.cqp_stepper.specs.declared.cells.Cells.{Cells}
use Rattle.cqp_stepper.specs.Here.{HereLaw, IsHere, IsPartHere}
use Rattle.cqp_stepper.specs.Kept.{IsAllSeen, IsKept}
use Rattle.cqp_stepper.specs.Last.{last_of, or_first}
use Rattle.cqp_stepper.specs.Slots.{part_in}
use Rattle.cqp_stepper.proofs.Noted.{noted_table}

-- a path leads there
pub path_last : (p : Process) (es : List Entry) (c : Config) → IsPath p es c → last_of p es ≡ c
path_last p es c path = ap (or_first (start_of p)) path.leads

module _ (l : Listing) (here_law : HereLaw) (entries : List Entry) (s : Cells) (k : IsKept l entries s) where
  -- the configuration
  abbrev pub last : Config
  last = last_of (root l) entries

  -- the run stands there
  pub here : IsHere l k.events last
  here =
      let told = here_law l k.events k.settled.process k.checked k.settled.run in
      let path : IsPath (root l) entries told.0 = subst (λ es. IsPath (root l) es told.0) k.shows told.1.shows.path in
      subst (λ c. IsHere l k.events c) (sym (path_last (root l) entries told.0 path)) told.1

  -- its entries are a path there
  pub path_here : IsPath (root l) entries last
  path_here = subst (λ es. IsPath (root l) es last) k.shows here.shows.path

  -- a part that is kept is one of its parts
  pub kept_part : (n : ℕ) (part : Part) → part_in s.slots n ≡ Some part → IsPartHere l last n part
  kept_part n part there = here.parts n part (sym (k.parts n) ∙ there)

  -- notes are its table
  pub table_here : IsAllSeen s → IsTable (stand_at s.order.0) last
  table_here seen = noted_table l entries s k last here seen
