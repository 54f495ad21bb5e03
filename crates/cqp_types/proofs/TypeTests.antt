-- The test for Qbit tells which type is Qbit.
use Rattle.std.proofs.Common.{◌≡◌, true, refl, sym, ◌∙◌, ap, Option, Some, None}
use Rattle.cqp_syntax.specs.TypeTrees.{TypeTree, int_type, unit_type, qbit_type, op_type, chan_type, same_type}
use Rattle.cqp_types.specs.Derivations.{is_qbit}
use Rattle.cqp_syntax.proofs.Bools.{fails}
use Rattle.cqp_syntax.proofs.TypeTests.{type_is}

-- the two tests for Qbit agree
pub qbit_test : (t : TypeTree) → is_qbit (Some t) ≡ same_type t qbit_type
qbit_test int_type = refl
qbit_test unit_type = refl
qbit_test qbit_type = refl
qbit_test (op_type n) = refl
qbit_test (chan_type ts) = refl

-- what passes the test for Qbit is Qbit
pub qbit_is : (o : Option TypeTree) → is_qbit o ≡ true → o ≡ Some qbit_type
qbit_is None h = absurd (fails h)
qbit_is (Some t) h = ap (λ u. Some u) (type_is t qbit_type (sym (qbit_test t) ∙ h))
