-- The factors of a run share out the qubits that were made, are few, and their levels have room.
use Rattle.std.proofs.Common.{◌≡◌, ℕ, zero, suc, ◌+◌, ◌≤◌, Bool, true, false, List, [], ◌∷◌, length, Option, Some, None, refl, sym, ap, arith, ◌∙◌}
use Rattle.cqp_book.specs.Keys.{has}
use Rattle.cqp_machine.specs.Factors.{Held, level_of}
use Rattle.cqp_machine.specs.Sums.{level_in, levels, sum_below}
use Rattle.cqp_groups.specs.Groups.{as_cells, factors_in, groups_in, holds}
use Rattle.cqp_groups.specs.States.{IsAlone}
use Rattle.cqp_stepper.specs.Factors.{factors_with, levels_of}

-- a sum with its first number in front
first_sum : (n : ℕ) (f : ℕ → ℕ) → sum_below (suc n) f ≡ f 0 + sum_below n (λ g. f (suc g))
first_sum zero f = omega arith
first_sum (suc n) f = let less = first_sum n f in omega arith

-- nothing more
none_more : (n : ℕ) → 0 + n ≡ n
none_more n = omega arith

-- the sum of the levels over the places is that over the factors
pub levels_are : (slots : List (Option Held)) → levels (length slots) (as_cells slots) ≡ levels_of (factors_in slots)
levels_are [] = refl
levels_are (None ∷ slots) =
    first_sum (length slots) (λ g. level_in (groups_in (None ∷ slots) g))
    ∙ (none_more (sum_below (length slots) (λ g. level_in (groups_in slots g))) ∙ levels_are slots)
levels_are (Some G ∷ slots) =
    first_sum (length slots) (λ g. level_in (groups_in (Some G ∷ slots) g)) ∙ ap (λ z. level_of G + z) (levels_are slots)

-- there are no more factors than places
pub few_factors : (slots : List (Option Held)) → length (factors_in slots) ≤ length slots
few_factors [] = omega arith
few_factors (None ∷ slots) = let less = few_factors slots in omega arith
few_factors (Some G ∷ slots) = let less = few_factors slots in omega arith

-- where no group has the qubit, no factor has
none_with : (slots : List (Option Held)) (q : ℕ) → ((n : ℕ) → holds q (groups_in slots n) ≡ false) → factors_with q (factors_in slots) ≡ 0
none_with [] q none = refl
none_with (None ∷ slots) q none = none_with slots q (λ n. none (suc n))
none_with (Some G ∷ slots) q none = let first : has q G.qubits ≡ false = none 0 in rw first (none_with slots q (λ n. none (suc n)))

-- where exactly one group has it, and the first place hasn't, exactly one of the others has
others_alone : (x : Option Held) (slots : List (Option Held)) (q m : ℕ) → holds q (groups_in (x ∷ slots) m) ≡ true
    → ((n : ℕ) → holds q (groups_in (x ∷ slots) n) ≡ true → n ≡ m) → holds q x ≡ false → IsAlone slots q
others_alone x slots q zero there only lacks = let never : false ≡ true = sym lacks ∙ there in cc
others_alone x slots q (suc m) there only lacks =
    record { group = m; there = there; only = λ n h. let same : suc n ≡ suc m = only (suc n) h in omega arith }

-- where the first place has it, no other has
others_without : (x : Option Held) (slots : List (Option Held)) (q : ℕ) → IsAlone (x ∷ slots) q → holds q x ≡ true → (n : ℕ)
    → holds q (groups_in slots n) ≡ false
others_without x slots q a yes_ n = by_cases (holds q (groups_in slots n)) refl
  where
    by_cases : (b : Bool) → holds q (groups_in slots n) ≡ b → b ≡ false
    by_cases false is = refl
    by_cases true is =
        let first : 0 ≡ a.group = a.only 0 yes_ in
        let other : suc n ≡ a.group = a.only (suc n) is in
        absurd (omega arith)

-- where exactly one group has the qubit, exactly one factor has
pub one_with : (slots : List (Option Held)) (q : ℕ) → IsAlone slots q → factors_with q (factors_in slots) ≡ 1
one_with [] q a = let never : false ≡ true = a.there in cc
one_with (None ∷ slots) q a = one_with slots q (others_alone None slots q a.group a.there a.only refl)
one_with (Some G ∷ slots) q a = by_cases (has q G.qubits) refl (λ b. one_with slots q b)
  where
    by_cases : (b : Bool) → has q G.qubits ≡ b → (IsAlone slots q → factors_with q (factors_in slots) ≡ 1)
        → factors_with q (factors_in (Some G ∷ slots)) ≡ 1
    by_cases false is go = rw is (go (others_alone (Some G) slots q a.group a.there a.only is))
    by_cases true is go = rw is (ap (λ z. z + 1) (none_with slots q (others_without (Some G) slots q a is)))
