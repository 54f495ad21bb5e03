-- What `expand` answers.
use Rattle.std.specs.Prelude.{◌≡◌, ℕ, ◌<◌, ◌≤◌, []}
use Rattle.cqp_syntax.specs.Listing.{Listing, IsListing, node_count}
use Rattle.cqp_grammar.specs.Trees.{ProgramTree}
use Rattle.cqp_expand.specs.declared.fault.ScopeFault.{ScopeFault}
use Rattle.cqp_expand.specs.declared.fault.FaultKind.{FaultKind}
use Rattle.cqp_expand.specs.declared.fault.FaultKind.TheVariants as kind
use Rattle.cqp_expand.specs.declared.end.ExpandEnd.{ExpandEnd}
use Rattle.cqp_expand.specs.declared.end.ExpandEnd.TheVariants.{Unbound, UnknownDef, Arity, Twice}
use Rattle.cqp_expand.specs.declared.end.ExpandEnd.TheVariants.{ParamType, Large, NoMemory}
use Rattle.cqp_expand.specs.Expansion.{expansion, expansion_offsets}
use Rattle.cqp_expand.specs.Faults.{scope_faults}
use Rattle.cqp_expand.specs.Least.{IsLeast}
use Rattle.cqp_expand.specs.Counts.{count_of}

-- the answer for a fault of the kind at the offset
abbrev pub answer_at : FaultKind → ℕ → ExpandEnd
answer_at kind.Unbound n = Unbound n
answer_at kind.UnknownDef n = UnknownDef n
answer_at kind.Arity n = Arity n
answer_at kind.Twice n = Twice n
answer_at kind.ParamType n = ParamType n

-- the answer for a fault
abbrev pub answer_of : ScopeFault → ExpandEnd
answer_of f = answer_at f.kind f.at

-- the lists are those of the program's process, which is small enough
pub record IsExpanded (t : ProgramTree) (l : Listing) : Type 0 where
  pub faultless : scope_faults t ≡ []
  pub process : IsListing l (expansion t)
  pub offsets : l.at ≡ expansion_offsets t
  pub small : node_count l ≤ 20000

-- the process has no fault, and is too large
pub record IsLarge (t : ProgramTree) : Type 0 where
  pub faultless : scope_faults t ≡ []
  pub large : 20000 < count_of (expansion t)

-- the answer is that of the least fault
abbrev pub IsFault : ProgramTree → ExpandEnd → Type 0
IsFault t e = (f : ScopeFault) × IsLeast (scope_faults t) f × (e ≡ answer_of f)

-- an end is right for the program
abbrev pub Ends : ProgramTree → ExpandEnd → Type 0
Ends t Large = IsLarge t
Ends t NoMemory = Unit {0}
Ends t e = IsFault t e
