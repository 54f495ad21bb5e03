-- The fault that is answered: that of the least offset, and there that of the first kind.
use Rattle.std.specs.Prelude.{◌≡◌, ℕ, List, Bool, false, ◌&&◌, ◌||◌, nat_eq, nat_lt, Contains}
use Rattle.std.specs.List.{AllByRecursion}
use Rattle.cqp_expand.specs.declared.fault.ScopeFault.{ScopeFault}
use Rattle.cqp_expand.specs.declared.fault.FaultKind.{FaultKind}
use Rattle.cqp_expand.specs.declared.fault.FaultKind.TheVariants as kind

-- the kinds in their order
abbrev pub rank : FaultKind → ℕ
rank kind.Unbound = 0
rank kind.UnknownDef = 1
rank kind.Arity = 2
rank kind.Twice = 3
rank kind.ParamType = 4

-- whether a fault comes before another
abbrev pub precedes : ScopeFault → ScopeFault → Bool
precedes f g = nat_lt f.at g.at || (nat_eq f.at g.at && nat_lt (rank f.kind) (rank g.kind))

-- one of the faults, before which no other comes
pub record IsLeast (fs : List ScopeFault) (f : ScopeFault) : Type 0 where
  pub among : Contains fs f
  pub first : AllByRecursion (λ g. precedes g f ≡ false) fs
