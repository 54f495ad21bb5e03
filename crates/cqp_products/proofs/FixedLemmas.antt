-- What a measurement fixed: a group's numerators are 0 where the bits of the due qubits are others.
use Rattle.std.proofs.Common.{◌≡◌, ◌≢◌, ℕ, zero, suc, true, false, List, [], ◌∷◌, ◌==◌, ◌+◌, ◌^◌, ◌<◌, ◌&&◌, if◌then◌else◌, length, map, nat_lt, refl, sym, ap}
use Rattle.std.proofs.Common.{subst, arith, ◌∙◌, ⊎_elim}
use Rattle.std.proofs.lemmas.Bool.{cases_Bool, and_parts, eqb-true, both_ways}
use Rattle.std.specs.List.{list_all}
use Rattle.std.specs.Prelude.{ℤ, pos, negsuc}
use Rattle.cqp_ring.specs.declared.amp.Amp.{Amp}
use Rattle.cqp_ring.specs.Amp.{zero_amp}
use Rattle.cqp_ring.proofs.Integers.{same_amp}
use Rattle.cqp_vector.specs.State.{amp_at}
use Rattle.cqp_vector.specs.Measurement.{outcome_at, is_zero_int, is_zero_amp}
use Rattle.cqp_ring.specs.Parity.{is_root2_times, over_root2}
use Rattle.cqp_vector.specs.Least.{least_over}
use Rattle.cqp_machine.specs.Factors.{Held, places_in, first_place, measured, projection}
use Rattle.cqp_products.proofs.GateEvent.{state_at}
use Rattle.cqp_products.specs.Reads.{IsFixed}

-- where nothing is due, nothing is asked
pub nothing_fixed : (G : Held) → G.due ≡ [] → IsFixed G
nothing_fixed G h j small n = rw h refl

-- a numerator that is 0, as a test
zero_int : (z : ℤ) → is_zero_int z ≡ true → z ≡ pos 0
zero_int (pos zero) h = refl
zero_int (pos (suc n)) h = cc
zero_int (negsuc n) h = cc

-- a numerator that passes the test of 0 is 0
pub zero_numerator : (x : Amp) → is_zero_amp x ≡ true → x ≡ zero_amp
zero_numerator x h =
    let three = and_parts (is_zero_int x.a && is_zero_int x.b && is_zero_int x.c) (is_zero_int x.d) h in
    let two = and_parts (is_zero_int x.a && is_zero_int x.b) (is_zero_int x.c) three.0 in
    let one = and_parts (is_zero_int x.a) (is_zero_int x.b) two.0 in
    same_amp (zero_int x.a one.0) (zero_int x.b one.1) (zero_int x.c two.1) (zero_int x.d three.1)

-- the first place isn't 0, where some isn't
behind_zero : (x : Amp) (xs : List Amp) (j : ℕ) → amp_at (x ∷ xs) j ≢ zero_amp → x ≡ zero_amp → (i : ℕ) × (amp_at xs i ≢ zero_amp)
behind_zero x xs zero h e = absurd (h e)
behind_zero x xs (suc j) h e = (j, h)

-- the first numerator that isn't 0 isn't
pub first_some : (xs : List Amp) (j : ℕ) → amp_at xs j ≢ zero_amp → amp_at xs (first_place xs) ≢ zero_amp
first_some [] j h = absurd (h refl)
first_some (x ∷ xs) j h = ⊎_elim
    (λ (t : is_zero_amp x ≡ true).
    let up : first_place xs + 1 ≡ suc (first_place xs) = omega arith in
    let later = behind_zero x xs j h (zero_numerator x t) in
    rw (t, up) (first_some xs later.0 later.1))
    (λ (t : is_zero_amp x ≡ false). rw t (λ e. both_ways (is_zero_amp x) t (ap is_zero_amp e)))
    (cases_Bool (is_zero_amp x))

-- its place is within the list
pub first_within : (xs : List Amp) (j : ℕ) → amp_at xs j ≢ zero_amp → first_place xs < length xs
first_within [] j h = absurd (h refl)
first_within (x ∷ xs) j h = ⊎_elim
    (λ (t : is_zero_amp x ≡ true).
    let later = behind_zero x xs j h (zero_numerator x t) in
    rw t (let within = first_within xs later.0 later.1 in omega arith))
    (λ (t : is_zero_amp x ≡ false). rw t (omega arith))
    (cases_Bool (is_zero_amp x))

-- a numerator that is 0 stays 0 when they are made least
quotients_at : (xs : List Amp) (j : ℕ) → amp_at (map over_root2 xs) j ≡ over_root2 (amp_at xs j)
quotients_at [] j = refl
quotients_at (x ∷ xs) zero = refl
quotients_at (x ∷ xs) (suc j) = quotients_at xs j

-- a numerator that is 0 stays 0 where the list is made least
least_keeps_zero : (xs : List Amp) (h j : ℕ) → amp_at xs j ≡ zero_amp → amp_at (least_over xs h).nums j ≡ zero_amp
least_keeps_zero xs zero j e = e
least_keeps_zero xs (suc h) j e = ⊎_elim
    (λ (t : list_all is_root2_times xs ≡ true). rw t (least_keeps_zero (map over_root2 xs) h j (quotients_at xs j ∙ ap over_root2 e)))
    (λ (t : list_all is_root2_times xs ≡ false). rw t e)
    (cases_Bool (list_all is_root2_times xs))

module _ (qs : List ℕ) (m : ℕ) (G : Held) where
  -- a numerator after a measurement that isn't 0 has its outcome
  has_outcome : (j : ℕ) → j < 2 ^ length G.qubits → amp_at (measured qs m G).nums j ≢ zero_amp → outcome_at (length G.qubits) (places_in G.qubits qs) j ≡ m
  has_outcome j small n = ⊎_elim
      (λ (t : (outcome_at (length G.qubits) (places_in G.qubits qs) j == m) ≡ true). eqb-true _ m t)
      (λ (t : (outcome_at (length G.qubits) (places_in G.qubits qs) j == m) ≡ false).
      let none : amp_at (projection qs m G).nums j ≡ zero_amp =
      state_at (length G.qubits) j (λ k. if outcome_at (length G.qubits) (places_in G.qubits qs) k == m then amp_at G.nums k else zero_amp) small
      ∙ rw t refl in
      absurd (n (least_keeps_zero (projection qs m G).nums G.h j none)))
      (cases_Bool (outcome_at (length G.qubits) (places_in G.qubits qs) j == m))

  -- after a measurement the measured bits are those of the outcome
  pub measured_fixed : length (measured qs m G).nums ≡ 2 ^ length G.qubits → IsFixed (measured qs m G)
  measured_fixed whole j small n = ⊎_elim
      (λ (t : nat_lt 1 (length G.qubits) ≡ true).
      let first = first_some (measured qs m G).nums j n in
      let within = first_within (measured qs m G).nums j n in
      let here = has_outcome j small n in
      let there = has_outcome (first_place (measured qs m G).nums) (subst (λ k. first_place (measured qs m G).nums < k) whole within) first in
      rw t (here ∙ sym there))
      (λ (t : nat_lt 1 (length G.qubits) ≡ false). rw t refl)
      (cases_Bool (nat_lt 1 (length G.qubits)))
