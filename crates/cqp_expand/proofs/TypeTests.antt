-- Types with one number pass the test of sameness, and types with two numbers don't.
use Rattle.std.proofs.Common.{◌≡◌, ◌≢◌, ℕ, ◌<◌, Bool, true, false, List, length, refl, sym, ◌∙◌, ap}
use Rattle.cqp_syntax.specs.declared.ty.Ty.{Ty}
use Rattle.cqp_syntax.specs.TypeTrees.{same_type, type_at}
use Rattle.cqp_syntax.proofs.TypeTests.{type_is, type_same}
use Rattle.cqp_expand.specs.Tables.{IsTable}

-- a test that does not hold fails
by_test : (b : Bool) → (b ≡ true → ⊥) → b ≡ false
by_test true f = absurd (f refl)
by_test false f = refl

-- with one number types are the same
pub alike : (types : List Ty) (m n : ℕ) → m ≡ n → same_type (type_at types m) (type_at types n) ≡ true
alike types m n e = ap (λ k. same_type (type_at types m) (type_at types k)) (sym e) ∙ type_same (type_at types m)

-- with two they differ
pub unlike : (types : List Ty) (m n : ℕ) → IsTable types → m < length types → n < length types → m ≢ n → same_type (type_at types m) (type_at types n) ≡ false
unlike types m n t h k e = by_test _ (λ same. e (t.one_number m n h k (type_is _ _ same)))
