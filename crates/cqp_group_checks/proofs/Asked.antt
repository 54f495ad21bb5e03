-- What a Bell pair is asked, and that its measured qubit may leave.
use Rattle.std.proofs.Common.{◌≡◌, ℕ, zero, suc, ◌<◌, ◌≤◌, List, [], ◌∷◌, length, refl, sym, arith, true, lit≤, subst}
use Rattle.std.proofs.lemmas.Int.{ints}
use Rattle.std.proofs.lemmas.Bool.Decides.{nat_tests}
use Rattle.std.specs.Prelude.{Option, Some, None, pos, ◌^◌}
use Rattle.cqp_ring.specs.Root.{RootFits}
use Rattle.cqp_machine.specs.Factors.{Held}
use Rattle.cqp_machine.specs.Sums.{exponents, levels}
use Rattle.cqp_book.specs.Keys.{has}
use Rattle.cqp_groups.specs.Groups.{CanSplit, NormsFit, as_cells}
use Rattle.cqp_pieces.specs.Splitting.{SplitsRightly}
use Rattle.cqp_group_checks.specs.Pairs.{AreTwo, bell, seen}

-- its level is small
pub level_small : (slots : List (Option Held)) → AreTwo slots (Some bell) None → levels (length slots) (as_cells slots) ≤ 180
level_small slots is = rw (is.made, is.first, is.second) (lit≤ tt)

-- and its exponent
pub exponent_small : (slots : List (Option Held)) → AreTwo slots (Some bell) None
    → exponents (length slots) (as_cells slots) ≤ 96
exponent_small slots is = rw (is.made, is.first, is.second) (lit≤ tt)

-- few qubits were made
pub few : (slots : List (Option Held)) (a b : Option Held) → AreTwo slots a b → length slots ≤ 12
few slots a b is = rw is.made (lit≤ tt)

-- the measured qubit splits off as a factor's does
seen_splits : SplitsRightly (0 ∷ []) seen
seen_splits = record {
  places = record { distinct = refl; below = refl };
  some = lit≤ tt;
  projected = refl;
  pieces = refl;
}

-- the qubits of the pair were made
below_two : (q : ℕ) → has q (0 ∷ 1 ∷ []) ≡ true → q < 2
below_two q e = grind (arith, nat_tests)

-- what is due is one of them
due_of_two : (q : ℕ) → has q (0 ∷ []) ≡ true → has q (0 ∷ 1 ∷ []) ≡ true
due_of_two q e = grind (arith, nat_tests)

-- the measured qubit may leave
pub may_split : (slots : List (Option Held)) → AreTwo slots (Some seen) None → CanSplit slots 0
may_split slots is = record {
  before = seen;
  there = is.first;
  rightly = seen_splits;
  made = λ q e. subst (λ n. q < n) (sym is.made) (below_two q e);
  due_in = due_of_two;
}

-- small whole norms fit
small_fits : (n : ℕ) → n ≤ 2 ^ 45 → RootFits (record { p = pos n; q = pos 0 })
small_fits n small = record { p_fits = omega (arith, ints); q_fits = omega (arith, ints) }

-- its norms fit
pub norms_small : (slots : List (Option Held)) → AreTwo slots (Some bell) None → NormsFit slots
norms_small slots is zero less = small_fits 1 (lit≤ tt)
norms_small slots is (suc zero) less = rw is.first (small_fits 2 (lit≤ tt))
norms_small slots is (suc (suc zero)) less = rw (is.first, is.second) (small_fits 2 (lit≤ tt))
norms_small slots is (suc (suc (suc n))) less = absurd (omega (arith, less, is.made))
