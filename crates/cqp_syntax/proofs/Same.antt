-- What the tests of sameness say: of gates, by their numbers, and of lists of numbers.
use Rattle.std.proofs.Common.{◌≡◌, ℕ, zero, suc, List, [], ◌∷◌, true, sym, refl, ap, ◌∙◌}
use Rattle.std.proofs.Common.{arith}
use Rattle.std.specs.Prelude.{◌==◌}
use Rattle.std.proofs.lemmas.Bool.Decides.{nat_tests}
use Rattle.cqp_syntax.specs.declared.op.Op.{Op}
use Rattle.cqp_syntax.specs.declared.op.Op.TheVariants as op
use Rattle.cqp_syntax.specs.Gates.{is_same_op, op_number}
use Rattle.cqp_syntax.specs.Lists.{is_same_list}
use Rattle.cqp_syntax.proofs.Bools.{fails, both}

-- numbers that pass the test of equality are equal
pub same_number : (x y : ℕ) → (x == y) ≡ true → x ≡ y
same_number x y h = grind (arith, nat_tests)

-- the gate with a number
op_of : ℕ → Op
op_of zero = op.I
op_of (suc zero) = op.X
op_of (suc (suc zero)) = op.Y
op_of (suc (suc (suc zero))) = op.Z
op_of (suc (suc (suc (suc zero)))) = op.H
op_of (suc (suc (suc (suc (suc zero))))) = op.S
op_of (suc (suc (suc (suc (suc (suc zero)))))) = op.T
op_of (suc (suc (suc (suc (suc (suc (suc zero))))))) = op.CNot
op_of (suc (suc (suc (suc (suc (suc (suc (suc zero)))))))) = op.CZ
op_of (suc (suc (suc (suc (suc (suc (suc (suc (suc zero))))))))) = op.Swap
op_of (suc (suc (suc (suc (suc (suc (suc (suc (suc (suc n)))))))))) = op.Toffoli

-- a gate's number gives it back
op_of-op_number : (o : Op) → op_of (op_number o) ≡ o
unfolding op_of
op_of-op_number op.I = refl
op_of-op_number op.X = refl
op_of-op_number op.Y = refl
op_of-op_number op.Z = refl
op_of-op_number op.H = refl
op_of-op_number op.S = refl
op_of-op_number op.T = refl
op_of-op_number op.CNot = refl
op_of-op_number op.CZ = refl
op_of-op_number op.Swap = refl
op_of-op_number op.Toffoli = refl

-- gates that pass the test of equality are equal
pub same_op : (o u : Op) → is_same_op o u ≡ true → o ≡ u
same_op o u h =
    sym (op_of-op_number o) ∙ ap op_of (same_number (op_number o) (op_number u) h)
    ∙ op_of-op_number u

-- so are lists of numbers
pub same_list : (xs ys : List ℕ) → is_same_list xs ys ≡ true → xs ≡ ys
same_list [] [] h = refl
same_list (x ∷ xs) (y ∷ ys) h =
    let tests = both (x == y) (is_same_list xs ys) h in
    let first : x ≡ y = same_number x y tests.0 in
    let rest : xs ≡ ys = same_list xs ys tests.1 in
    cc
same_list [] (y ∷ ys) h = absurd (fails h)
same_list (x ∷ xs) [] h = absurd (fails h)
