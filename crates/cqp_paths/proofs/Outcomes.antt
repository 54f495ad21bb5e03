-- A measurement of a state that isn't 0 has an outcome.
use Rattle.std.proofs.Common.{◌≡◌, ℕ, zero, suc, ◌+◌, ◌*◌, ◌^◌, ◌<◌, ◌≤◌, List, [], ◌∷◌, length, map, Bool, true, false, not, refl, sym, ap, ◌∙◌, subst}
use Rattle.std.proofs.Common.{arith, pow-add}
use Rattle.std.specs.Prelude.{◌&&◌, ◌==◌, if◌then◌else◌, ℤ, pos, negsuc}
use Rattle.std.specs.List.{range_with_len, list_all}
use Rattle.std.proofs.lemmas.Bool.Decides.{nat_tests}
use Rattle.cqp_ring.specs.declared.amp.Amp.{Amp}
use Rattle.cqp_ring.specs.Amp.{zero_amp}
use Rattle.cqp_ring.specs.Root.{norm_of, norm_sum, root_sum, zero_root}
use Rattle.cqp_ring.proofs.Integers.{same_amp}
use Rattle.cqp_ring.proofs.OrderSums.{zero-sum}
use Rattle.cqp_vector.specs.State.{State, amp_at, qubit_bit}
use Rattle.cqp_vector.specs.Measurement.{outcome_after, outcome_at, projected, is_outcome, is_zero_amp, is_zero_int}
use Rattle.cqp_cells.specs.Norms.{IsState}
use Rattle.cqp_cells.proofs.Options.{both_true, yes_is_no}

-- a whole number that passes the test for 0 is 0
zero_int : (z : ℤ) → is_zero_int z ≡ true → z ≡ pos 0
zero_int (pos zero) h = refl
zero_int (pos (suc n)) h = absurd (yes_is_no (sym h))
zero_int (negsuc n) h = absurd (yes_is_no (sym h))

-- a numerator that passes the test for 0 is 0
zero_amp_of : (x : Amp) → is_zero_amp x ≡ true → x ≡ zero_amp
zero_amp_of x h =
    let three = both_true (is_zero_int x.a && is_zero_int x.b && is_zero_int x.c) (is_zero_int x.d) h in
    let two = both_true (is_zero_int x.a && is_zero_int x.b) (is_zero_int x.c) three.0 in
    let one = both_true (is_zero_int x.a) (is_zero_int x.b) two.0 in
    same_amp (zero_int x.a one.0) (zero_int x.b one.1) (zero_int x.c two.1) (zero_int x.d three.1)

-- numerators that are all 0 have the norm 0
pub zeros_norm : (xs : List Amp) → list_all is_zero_amp xs ≡ true → norm_sum xs ≡ zero_root
zeros_norm [] h = refl
zeros_norm (x ∷ xs) h =
    let both = both_true (is_zero_amp x) (list_all is_zero_amp xs) h in
    ap (λ y. root_sum (norm_of y) (norm_sum xs)) (zero_amp_of x both.0) ∙ zero-sum (norm_sum xs) ∙ zeros_norm xs both.1

-- where not all numerators pass a test, it fails at some place
failing_place : (test : Amp → Bool) (xs : List Amp) → list_all test xs ≡ false → (k : ℕ) × (k < length xs) × (test (amp_at xs k) ≡ false)
failing_place test [] h = absurd (yes_is_no h)
failing_place test (x ∷ xs) h = by_test (test x) refl h (failing_place test xs)
  where
    by_test : (b : Bool) → test x ≡ b → (b && list_all test xs) ≡ false → (list_all test xs ≡ false → (k : ℕ) × (k < length xs) × (test (amp_at xs k) ≡ false))
        → (k : ℕ) × (k < length (x ∷ xs)) × (test (amp_at (x ∷ xs) k) ≡ false)
    by_test true e g more = let (k, less, fails) = more g in let low : suc k < suc (length xs) = omega arith in (suc k, low, fails)
    by_test false e g more = let low : 0 < suc (length xs) = omega arith in (0, low, e)

-- what all values of a function pass at numbers in a row, it passes at each of these
all_in_range : (test : Amp → Bool) (f : ℕ → Amp) (m a : ℕ) → list_all test (map f (range_with_len a m)) ≡ true → (k : ℕ) → a ≤ k → k < a + m → test (f k) ≡ true
all_in_range test f zero a h k low high = absurd (never low high)
  where
    never : a ≤ k → k < a + 0 → ⊥
    never p q = omega arith
all_in_range test f (suc m) a h k low high =
    let both = both_true (test (f a)) (list_all test (map f (range_with_len (a + 1) m))) h in
    by_order (a == k) refl both.0 (λ above below. all_in_range test f m (a + 1) both.1 k above below)
  where
    by_order : (b : Bool) → (a == k) ≡ b → test (f a) ≡ true → (a + 1 ≤ k → k < a + 1 + m → test (f k) ≡ true) → test (f k) ≡ true
    by_order true e first more = let same : a ≡ k = grind (arith, nat_tests) in subst (λ j. test (f j) ≡ true) same first
    by_order false e first more =
        let above : a + 1 ≤ k = grind (arith, nat_tests) in
        let below : k < a + 1 + m = omega arith in
        more above below

-- a number with one bit more stays below twice the bound
room : (m b n : ℕ) → b < 2 → (2 * m + b + 1) * n ≤ (2 * m + 2) * n
room m zero n h = omega arith
room m (suc zero) n h = omega arith
room m (suc (suc b)) n h = absurd (never h)
  where
    never : suc (suc b) < 2 → ⊥
    never g = omega arith

-- an outcome is a number of as many bits as there are qubits
pub outcome_below : (m n : ℕ) (qs : List ℕ) (k : ℕ) → outcome_after m n qs k < (m + 1) * 2 ^ length qs
outcome_below m n [] k = omega arith
outcome_below m n (q ∷ qs) k =
    let bit : qubit_bit n q k < 2 = omega arith in
    let more = outcome_below (2 * m + qubit_bit n q k) n qs k in
    let power : 2 ^ suc (length qs) ≡ 2 * 2 ^ length qs = omega (arith, pow-add 2 (length qs) 1) in
    let all : (m + 1) * 2 ^ suc (length qs) ≡ (2 * m + 2) * 2 ^ length qs = rw power (doubled m (2 ^ length qs)) in
    omega (arith, more, room m (qubit_bit n q k) (2 ^ length qs) bit, all)
  where
    doubled : (m n : ℕ) → (m + 1) * (2 * n) ≡ (2 * m + 2) * n
    doubled m n = omega arith

-- a measurement of a state that isn't 0 has an outcome
pub outcome_exists : (qs : List ℕ) (s : State) → IsState s → (m : ℕ) × (m < 2 ^ length qs) × (is_outcome qs s m ≡ true)
outcome_exists qs s is = of_place (failing_place is_zero_amp s.nums (some_left (list_all is_zero_amp s.nums) refl))
  where
    some_left : (b : Bool) → list_all is_zero_amp s.nums ≡ b → list_all is_zero_amp s.nums ≡ false
    some_left true e = absurd (is.nonzero (zeros_norm s.nums e))
    some_left false e = e

    of_place : (k : ℕ) × (k < length s.nums) × (is_zero_amp (amp_at s.nums k) ≡ false) → (m : ℕ) × (m < 2 ^ length qs) × (is_outcome qs s m ≡ true)
    of_place (k, less, fails) = (outcome_at s.qubits qs k, low, has (list_all is_zero_amp (projected qs (outcome_at s.qubits qs k) s).nums) refl)
      where
        low : outcome_at s.qubits qs k < 2 ^ length qs
        low = omega (arith, outcome_below 0 s.qubits qs k)

        place : ℕ → Amp
        place j = if outcome_at s.qubits qs j == outcome_at s.qubits qs k then amp_at s.nums j else zero_amp

        here : place k ≡ amp_at s.nums k
        here = let same : (outcome_at s.qubits qs k == outcome_at s.qubits qs k) ≡ true = grind (arith, nat_tests) in rw same refl

        within : k < 0 + 2 ^ s.qubits
        within = omega (arith, less, is.whole)

        from : 0 ≤ k
        from = omega arith

        has : (b : Bool) → list_all is_zero_amp (projected qs (outcome_at s.qubits qs k) s).nums ≡ b → not b ≡ true
        has true e = absurd (yes_is_no (sym (all_in_range is_zero_amp place (2 ^ s.qubits) 0 e k from within) ∙ ap is_zero_amp here ∙ fails))
        has false e = refl
