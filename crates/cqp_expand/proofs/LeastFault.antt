-- The fault that is kept is the least, and there is one least fault.
use Rattle.std.proofs.Common.{◌≡◌, ℕ, suc, zero, ◌+◌, ◌*◌, ◌<◌, ◌≤◌, List, [], ◌∷◌, length, Bool, true, false, nat_eq, nat_lt, Option, Some, None}
use Rattle.std.proofs.Common.{refl, ap, ap₂, sym, ◌∙◌, subst, arith, inl, inr, ◌⊎◌}
use Rattle.std.proofs.lemmas.Bool.Decides.{leb_tells, not_from_Decides, Decides-like, Decides-and, Decides-or, Decides-ltb, Decides-eqb}
use Rattle.std.specs.Prelude.{◌&&◌, Contains, Decides, slice_index_or, if◌then◌else◌}
use Rattle.std.specs.List.{AllByRecursion}
use Rattle.cqp_expand.specs.declared.fault.ScopeFault.{ScopeFault}
use Rattle.cqp_expand.specs.declared.fault.FaultKind.{FaultKind}
use Rattle.cqp_expand.specs.declared.fault.FaultKind.TheVariants as kind
use Rattle.cqp_expand.specs.Least.{rank, precedes, IsLeast}
use Rattle.cqp_expand.specs.Kept.{kept, least_of, least}
use Rattle.cqp_expand.proofs.Faultless.{none_is_faultless}
use Rattle.cqp_expand.proofs.Small.{same_some, none_some, filled}

-- there are five kinds
rank_below : (k : FaultKind) → rank k < 5
rank_below kind.Unbound = omega arith
rank_below kind.UnknownDef = omega arith
rank_below kind.Arity = omega arith
rank_below kind.Twice = omega arith
rank_below kind.ParamType = omega arith

-- offset and kind as one number
abbrev weight : ScopeFault → ℕ
weight f = 5 * f.at + rank f.kind

-- a lesser offset, or one offset and an earlier kind
abbrev Before : (m n a b : ℕ) → Type 0
Before m n a b = (m < n) ⊎ ((m ≡ n) × (a < b))

-- what comes before has the lesser number
to_less : (m n a b : ℕ) → a < 5 → b < 5 → Before m n a b → 5 * m + a < 5 * n + b
to_less m n a b h k (inl less) = omega (arith, h, less)
to_less m n a b h k (inr same) = let at = same.0 in let less = same.1 in omega (arith, at, less)

-- and what has the lesser number comes before
from_less : (m n a b : ℕ) → a < 5 → b < 5 → 5 * m + a < 5 * n + b → Before m n a b
from_less m n a b h k less = elim (leb_tells n m) [
  | inl e ↦ let no_less = e.1 in inr (omega (arith, h, k, less, no_less), omega (arith, h, k, less, no_less))
  | inr e ↦ inl e.1
]

-- the test tells what comes before
precedes_tells : (f g : ScopeFault) → Decides (precedes f g) (Before f.at g.at (rank f.kind) (rank g.kind))
precedes_tells f g = Decides-or (nat_lt f.at g.at) (nat_eq f.at g.at && nat_lt (rank f.kind) (rank g.kind)) (Decides-ltb f.at g.at)
    (Decides-and (nat_eq f.at g.at) (nat_lt (rank f.kind) (rank g.kind)) (Decides-eqb f.at g.at) (Decides-ltb (rank f.kind) (rank g.kind)))

-- and so which number is less
weight_tells : (f g : ScopeFault) → Decides (precedes f g) (weight f < weight g)
weight_tells f g = Decides-like (precedes f g) (to_less f.at g.at (rank f.kind) (rank g.kind) (rank_below f.kind) (rank_below g.kind))
    (from_less f.at g.at (rank f.kind) (rank g.kind) (rank_below f.kind) (rank_below g.kind)) (precedes_tells f g)

-- what nothing comes before has no greater number
no_greater : (f g : ScopeFault) → precedes g f ≡ false → weight f ≤ weight g
no_greater f g e = elim (leb_tells (weight f) (weight g)) [
  | inl h ↦ h.1
  | inr h ↦ absurd (not_from_Decides (precedes g f) (weight_tells g f) e h.1)
]

-- and before what has no greater number nothing comes
none_before : (f g : ScopeFault) → weight f ≤ weight g → precedes g f ≡ false
none_before f g h = by (precedes g f) refl
  where
    by : (t : Bool) → precedes g f ≡ t → t ≡ false
    by true e = let less = (weight_tells g f).0 e in absurd (omega (arith, h, less))
    by false e = refl

-- where the fault that is kept does not come before another, neither of the two does
kept_first : (f g h : ScopeFault) → precedes (kept (Some g) h) f ≡ false → (precedes g f ≡ false) × (precedes h f ≡ false)
kept_first f g h e = by (precedes h g) refl e
  where
    by : (t : Bool) → precedes h g ≡ t → precedes (if t then h else g) f ≡ false → (precedes g f ≡ false) × (precedes h f ≡ false)
    by true less e =
        let first = no_greater f h e in
        let before = (weight_tells h g).0 less in
        (none_before f g (omega (arith, before, first)), e)
    by false less e =
        let first = no_greater f g e in
        let second = no_greater g h less in
        (e, none_before f h (omega (arith, first, second)))

-- the fault that is kept is one of two
kept_among : (g h : ScopeFault) → (kept (Some g) h ≡ g) ⊎ (kept (Some g) h ≡ h)
kept_among g h = by (precedes h g)
  where
    by : (t : Bool) → ((if t then h else g) ≡ g) ⊎ ((if t then h else g) ≡ h)
    by true = inr refl
    by false = inl refl

-- what is kept of a fault and a list comes behind none of them
found_first : (g f : ScopeFault) (fs : List ScopeFault) → least_of (Some g) fs ≡ Some f
    → (precedes g f ≡ false) × AllByRecursion (λ h. precedes h f ≡ false) fs
found_first g f [] e = (subst (λ z. precedes z f ≡ false) (sym (same_some g f e)) (none_before f f (omega arith)), tt)
found_first g f (h ∷ fs) e =
    let later = found_first (kept (Some g) h) f fs e in
    let two = kept_first f g h later.0 in
    (two.0, (two.1, later.1))

-- an element of a list is one of a longer list
behind : (x f : ScopeFault) (fs : List ScopeFault) → Contains fs f → Contains (x ∷ fs) f
behind x f fs c = let within = c.1 in (suc c.0, omega (arith, within), c.2)

-- so it is with one more behind the first
second_more : (g h f : ScopeFault) (fs : List ScopeFault) (k : ℕ) → k < length (g ∷ fs) → slice_index_or (g ∷ fs) k f ≡ f
    → Contains (g ∷ h ∷ fs) f
second_more g h f fs zero l e = (0, omega arith, e)
second_more g h f fs (suc k) l e = (suc (suc k), omega (arith, l), e)

-- what is kept of a fault and a list is one of them
found_among : (g f : ScopeFault) (fs : List ScopeFault) → least_of (Some g) fs ≡ Some f → Contains (g ∷ fs) f
found_among g f [] e = (0, omega arith, same_some g f e)
found_among g f (h ∷ fs) e =
    let later = found_among (kept (Some g) h) f fs e in
    elim (kept_among g h) [
      | inl is ↦ let c = subst (λ z. Contains (z ∷ fs) f) is later in second_more g h f fs c.0 c.1 c.2
      | inr is ↦ behind g f (h ∷ fs) (subst (λ z. Contains (z ∷ fs) f) is later)
    ]

-- the fault that is found is the least
pub found_least : (fs : List ScopeFault) (f : ScopeFault) → least fs ≡ Some f → IsLeast fs f
found_least [] f e = absurd (none_some f e)
found_least (g ∷ fs) f e = record { among = found_among g f fs e; first = found_first g f fs e }

-- what holds of all faults holds of one of them
of_one : (P : ScopeFault → Type 0) (fs : List ScopeFault) (f : ScopeFault) (k : ℕ) → k < length fs → slice_index_or fs k f ≡ f
    → AllByRecursion P fs → P f
of_one P [] f k l e a = absurd (omega (arith, l))
of_one P (g ∷ fs) f zero l e a = subst P e a.0
of_one P (g ∷ fs) f (suc k) l e a = of_one P fs f k (omega (arith, l)) e a.1

-- the kind with a rank
abbrev kind_at : ℕ → FaultKind
kind_at zero = kind.Unbound
kind_at (suc zero) = kind.UnknownDef
kind_at (suc (suc zero)) = kind.Arity
kind_at (suc (suc (suc zero))) = kind.Twice
kind_at (suc (suc (suc (suc n)))) = kind.ParamType

-- each kind is that with its rank
kind_at-rank : (k : FaultKind) → kind_at (rank k) ≡ k
kind_at-rank kind.Unbound = refl
kind_at-rank kind.UnknownDef = refl
kind_at-rank kind.Arity = refl
kind_at-rank kind.Twice = refl
kind_at-rank kind.ParamType = refl

-- a fault with its offset and its kind
abbrev made : ℕ → FaultKind → ScopeFault
made n k = record { at = n; kind = k }

-- there is one least fault
pub one_least : (fs : List ScopeFault) (f g : ScopeFault) → IsLeast fs f → IsLeast fs g → f ≡ g
one_least fs f g i j =
    let left = no_greater g f (of_one (λ h. precedes h g ≡ false) fs f i.among.0 i.among.1 i.among.2 j.first) in
    let right = no_greater f g (of_one (λ h. precedes h f ≡ false) fs g j.among.0 j.among.1 j.among.2 i.first) in
    let low = rank_below f.kind in
    let high = rank_below g.kind in
    let at : f.at ≡ g.at = omega (arith, left, right, low, high) in
    let ranks : rank f.kind ≡ rank g.kind = omega (arith, left, right, low, high) in
    let kinds : f.kind ≡ g.kind = sym (kind_at-rank f.kind) ∙ ap kind_at ranks ∙ kind_at-rank g.kind in
    ap₂ made at kinds

-- no fault is the least of none
pub none_least : (fs : List ScopeFault) (f : ScopeFault) → fs ≡ [] → IsLeast fs f → ⊥
none_least [] f e i = let within = i.among.1 in omega (arith, within)
none_least (g ∷ fs) f e i = filled g fs e

-- there are no faults, or one is the least
pub some_least : (fs : List ScopeFault) → (fs ≡ []) ⊎ ((f : ScopeFault) × IsLeast fs f)
some_least [] = inl refl
some_least (g ∷ fs) = by (least (g ∷ fs)) refl
  where
    by : (o : Option ScopeFault) → least (g ∷ fs) ≡ o → (g ∷ fs ≡ []) ⊎ ((f : ScopeFault) × IsLeast (g ∷ fs) f)
    by None e = inl (none_is_faultless (g ∷ fs) e)
    by (Some f) e = inr (f, found_least (g ∷ fs) f e)
