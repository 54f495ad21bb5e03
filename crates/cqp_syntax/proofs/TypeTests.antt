-- The test of types tells which are the same.
use Rattle.std.proofs.Common.{◌≡◌, true, refl, ap, ap₂, subst}
use Rattle.cqp_syntax.specs.TypeTrees.{TypeTree, TypeTrees, int_type, unit_type, qbit_type, op_type, chan_type, no_types, type_and}
use Rattle.cqp_syntax.specs.TypeTrees.{same_type, same_types}
use Rattle.cqp_syntax.proofs.Bools.{same_number, number_same, fails, both}

mutual
  -- types that pass the test are equal
  pub type_is : (t u : TypeTree) → same_type t u ≡ true → t ≡ u
  type_is int_type int_type h = refl
  type_is unit_type unit_type h = refl
  type_is qbit_type qbit_type h = refl
  type_is (op_type m) (op_type n) h = ap op_type (same_number m n h)
  type_is (chan_type ts) (chan_type us) h = ap chan_type (types_are ts us h)
  type_is t u h = absurd (fails h)

  -- so are lists of types
  pub types_are : (ts us : TypeTrees) → same_types ts us ≡ true → ts ≡ us
  types_are no_types no_types h = refl
  types_are (type_and t ts) (type_and u us) h =
      let parts = both (same_type t u) (same_types ts us) h in ap₂ type_and (type_is t u parts.0) (types_are ts us parts.1)
  types_are ts us h = absurd (fails h)

mutual
  -- a type passes the test with itself
  pub type_same : (t : TypeTree) → same_type t t ≡ true
  type_same int_type = refl
  type_same unit_type = refl
  type_same qbit_type = refl
  type_same (op_type n) = number_same n
  type_same (chan_type ts) = types_same ts

  -- so does a list of types
  pub types_same : (ts : TypeTrees) → same_types ts ts ≡ true
  types_same no_types = refl
  types_same (type_and t ts) = rw (type_same t) (types_same ts)

-- the test holds of equal types
pub test_of_same : (t u : TypeTree) → t ≡ u → same_type t u ≡ true
test_of_same t u e = subst (λ v. same_type t v ≡ true) e (type_same t)
