-- The first kind whose condition holds.
use Rattle.std.proofs.Common.{◌≡◌, List, ◌∷◌, Bool, true, false, refl, None}
use Rattle.cqp_types.specs.declared.kind.Kind.{Kind}
use Rattle.cqp_types.specs.Faults.{first_kind}

-- where no kind is found, the first condition fails, and none is found behind it
pub none_first : (b : Bool) (k : Kind) (cs : List (Bool × Kind)) → first_kind ((b, k) ∷ cs) ≡ None
    → (b ≡ false) × (first_kind cs ≡ None)
none_first true k cs h = absurd (cc h)
none_first false k cs h = (refl, h)

-- and back
pub first_none : (b : Bool) (k : Kind) (cs : List (Bool × Kind)) → b ≡ false → first_kind cs ≡ None
    → first_kind ((b, k) ∷ cs) ≡ None
first_none true k cs h n = absurd (cc h)
first_none false k cs h n = n
