-- Outcomes are compared bit by bit, from the last place on.
use Rattle.std.proofs.Common.{◌≡◌, ◌≤◌, ◌<◌, ◌+◌, ◌-◌, ◌*◌, ◌/◌, ◌%◌, ℕ, List, [], ◌∷◌, ◌++◌, Bool, false, length, take, get_or, refl, ap, ◌∙◌, ◌==◌, arith}
use Rattle.std.proofs.lemmas.Bool.Decides.{nat_tests}
use Rattle.std.proofs.lemmas.List.{take_more}
use Rattle.cqp_vector.specs.Measurement.{outcome_after, outcome_at}
use Rattle.cqp_vector.specs.State.{qubit_bit}

-- a place more is a bit more
outcome_more : (o n : ℕ) (qs : List ℕ) (q k : ℕ) → outcome_after o n (qs ++ q ∷ []) k ≡ 2 * outcome_after o n qs k + qubit_bit n q k
outcome_more o n [] q k = refl
outcome_more o n (p ∷ qs) q k = outcome_more (2 * o + qubit_bit n p k) n qs q k

-- so of the first places
pub outcome_step : (n i k : ℕ) (qs : List ℕ) → i < length qs
    → outcome_at n (take (i + 1) qs) k ≡ 2 * outcome_at n (take i qs) k + qubit_bit n (get_or qs i 0) k
outcome_step n i k qs h = ap (λ z. outcome_after 0 n z k) (take_more qs i 0 h) ∙ outcome_more 0 n (take i qs) (get_or qs i 0) k

-- where the last bit is the number's, the others are compared with half of it
pub same_halves : (x b m : ℕ) → b < 2 → m % 2 ≡ b → (2 * x + b == m) ≡ (x == m / 2)
same_halves x b m small same = grind (arith, nat_tests)

-- where it is another, they differ
pub other_bit : (x b m : ℕ) → b < 2 → (m % 2 ≡ b → ⊥) → (2 * x + b == m) ≡ false
other_bit x b m small other = grind (arith, nat_tests)

module _ (n i k left : ℕ) (places : List ℕ) (all : Bool) (some : 0 < i) (within : i ≤ length places)
    (same : all ≡ (outcome_at n (take i places) k == left)) where
  -- the bit of the last place that is left
  abbrev bit : ℕ
  bit = qubit_bit n (get_or places (i - 1) 0) k

  -- it is the last of what the places give
  last_bit : outcome_at n (take i places) k ≡ 2 * outcome_at n (take (i - 1) places) k + bit
  last_bit =
      let whole : i ≡ i - 1 + 1 = omega arith in
      ap (λ j. outcome_at n (take j places) k) whole ∙ outcome_step n (i - 1) k places (omega arith)

  -- another bit tells that the outcome is another
  pub bits_differ : (left % 2 ≡ bit → ⊥) → all ≡ false
  bits_differ apart =
      let small : bit < 2 = omega arith in
      same ∙ (ap (λ z. z == left) last_bit ∙ other_bit (outcome_at n (take (i - 1) places) k) bit left small apart)

  -- and the same leaves the places before it
  pub bits_agree : left % 2 ≡ bit → all ≡ (outcome_at n (take (i - 1) places) k == left / 2)
  bits_agree is =
      let small : bit < 2 = omega arith in
      same ∙ (ap (λ z. z == left) last_bit ∙ same_halves (outcome_at n (take (i - 1) places) k) bit left small is)
