-- Lawful traces: a path, its end and its weight.
use Rattle.std.specs.Prelude.{◌≡◌, ℕ, length, None, Some, Option, List}
use Rattle.cqp_ring.specs.Weight.{IsLeast}
use Rattle.cqp_syntax.specs.declared.val.Val.TheVariants as val
use Rattle.cqp_syntax.specs.Trees.{Process, slot, valued}
use Rattle.cqp_trace.specs.declared.end.End.{End}
use Rattle.cqp_trace.specs.declared.end.End.TheVariants.{Done, Stopped}
use Rattle.cqp_trace.specs.declared.entry.Entry.{Entry}
use Rattle.cqp_trace.specs.declared.trace.Trace.{Trace}
use Rattle.cqp_vector.specs.Group.{factors_left_out}
use Rattle.cqp_cells.specs.Config.{Config, part_at}
use Rattle.cqp_cells.specs.Redex.{Redex, gate, redex_of}
use Rattle.cqp_cells.specs.Step.{ReductionIsLeft}
use Rattle.cqp_cells.specs.Probability.{IsProbability}
use Rattle.cqp_cells.specs.Exponent.{exponent_of}
use Rattle.cqp_cells.specs.Path.{IsPath, h_total}

-- the redex applies H
abbrev pub AppliesH : Option Redex → Type 0
AppliesH (Some (gate qs (slot (valued (val.Gate o))))) = factors_left_out o ≡ 1
AppliesH r = ⊥

-- the part is there, and its next redex applies H
abbrev pub IsBeforeH : Option Process → Type 0
IsBeforeH None = ⊥
IsBeforeH (Some p) = AppliesH (redex_of p)

-- the end is right after entries of exponent h that lead to c: nothing is left but these parts, or
-- an H at the limit is next
abbrev pub IsRightEnd : Config → ℕ → End → Type 0
IsRightEnd c h (Done left) = (ReductionIsLeft c → ⊥) × (length c.parts ≡ left)
IsRightEnd c h (Stopped part) = (h ≡ 90) × IsBeforeH (part_at part c.parts)

-- the exponent of entries that lead to c
abbrev pub exponent_after : List Entry → Config → ℕ
exponent_after es c = exponent_of (h_total es) c.state

-- the trace is one of p: a path to the last configuration, its end, and its probability in least
-- form
pub record IsLawful (p : Process) (t : Trace) : Type 0 where
  pub last : Config
  pub path : IsPath p t.entries last
  pub end : IsRightEnd last (exponent_after t.entries last) t.end
  pub least : IsLeast t.weight
  pub weight : IsProbability p t.entries t.weight
