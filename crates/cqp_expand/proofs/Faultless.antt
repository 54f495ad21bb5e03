-- The least fault is found by one pass, and is there exactly where some fault is.
use Rattle.std.proofs.Common.{◌≡◌, List, [], ◌∷◌, ◌++◌, Option, Some, None, refl}
use Rattle.cqp_expand.specs.declared.fault.ScopeFault.{ScopeFault}
use Rattle.cqp_expand.specs.Kept.{kept, least_of, least}

-- what was found of a first part is all that the second needs
pub least-append : (g : Option ScopeFault) (fs hs : List ScopeFault) → least_of g (fs ++ hs) ≡ least_of (least_of g fs) hs
least-append g [] hs = refl
least-append g (f ∷ fs) hs = least-append (Some (kept g f)) fs hs

-- some fault is not none
some_none : (f : ScopeFault) → Some f ≡ None → ⊥
some_none f e = cc

-- once a fault is found one is kept
found_once : (g : ScopeFault) (fs : List ScopeFault) → least_of (Some g) fs ≡ None → ⊥
found_once g [] e = some_none g e
found_once g (f ∷ fs) e = found_once (kept (Some g) f) fs e

-- where none is found there is none
pub none_is_faultless : (fs : List ScopeFault) → least fs ≡ None → fs ≡ []
none_is_faultless [] e = refl
none_is_faultless (f ∷ fs) e = absurd (found_once (kept None f) fs e)
