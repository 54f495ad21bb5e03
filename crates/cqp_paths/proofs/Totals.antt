-- The norms of a distribution sum to the norm of the state.
use Rattle.std.proofs.Common.{◌≡◌, ℕ, zero, suc, ◌+◌, ◌^◌, ◌<◌, ◌≤◌, List, [], ◌∷◌, map, filter, length, Bool, true, false, cond, refl, sym, ap}
use Rattle.std.proofs.Common.{◌∙◌, arith}
use Rattle.std.specs.Prelude.{◌==◌, if◌then◌else◌}
use Rattle.std.specs.List.{range_with_len, list_all}
use Rattle.std.proofs.lemmas.Bool.Decides.{nat_tests}
use Rattle.std.proofs.lemmas.Int.{ints}
use Rattle.cqp_ring.specs.declared.amp.Amp.{Amp}
use Rattle.cqp_ring.specs.declared.root.Root.{Root}
use Rattle.cqp_ring.specs.Amp.{zero_amp}
use Rattle.cqp_ring.specs.Root.{norm_of, norm_sum, root_sum, root_total, zero_root}
use Rattle.cqp_ring.proofs.Integers.{same_root}
use Rattle.cqp_vector.specs.State.{State, amp_at, norm_of_state}
use Rattle.cqp_vector.specs.Measurement.{outcome_at, projected, is_outcome, is_zero_amp, likelihood_of}
use Rattle.cqp_vector.proofs.Sums.{norm_by_place, norm_as_sum, sum_from}
use Rattle.cqp_paths.specs.Follows.{norms_of}
use Rattle.cqp_vector.specs.State.{HasEachPlace}
use Rattle.cqp_paths.proofs.Outcomes.{outcome_below, zeros_norm}
use Rattle.cqp_syntax.proofs.Bools.{not_false}

-- a norm with 0 added is the norm
sum_zero : (x : Root) → root_sum x zero_root ≡ x
sum_zero x = same_root (omega (arith, ints)) (omega (arith, ints))

-- 0 with a norm added is the norm
zero_sum : (x : Root) → root_sum zero_root x ≡ x
zero_sum x = same_root (omega (arith, ints)) (omega (arith, ints))

-- the norm of the numerator 0 is 0
norm_zero : norm_of zero_amp ≡ zero_root
norm_zero = same_root (omega (arith, ints)) (omega (arith, ints))

-- in a sum of four norms the two in the middle may be exchanged
four : (a b c d : Root) → root_sum (root_sum a b) (root_sum c d) ≡ root_sum (root_sum a c) (root_sum b d)
four a b c d = same_root (omega (arith, ints)) (omega (arith, ints))

-- the sum over numbers in a row
abbrev over : (ℕ → Root) → ℕ → ℕ → Root
over f a m = root_total (map f (range_with_len a m))

-- the sum of two functions over numbers in a row is the sum of their sums
over_sums : (f g : ℕ → Root) (m a : ℕ) → over (λ i. root_sum (f i) (g i)) a m ≡ root_sum (over f a m) (over g a m)
over_sums f g zero a = sym (sum_zero zero_root)
over_sums f g (suc m) a = ap (λ r. root_sum (root_sum (f a) (g a)) r) (over_sums f g m (a + 1)) ∙ four (f a) (g a) (over f (a + 1) m) (over g (a + 1) m)

-- the sum of zeros over numbers in a row is 0
over_zero : (m a : ℕ) → over (λ i. zero_root) a m ≡ zero_root
over_zero zero a = refl
over_zero (suc m) a = ap (λ r. root_sum zero_root r) (over_zero m (a + 1)) ∙ sum_zero zero_root

-- a numerator at one number of the row, and 0 at the others
abbrev at_one : ℕ → Amp → ℕ → Root
at_one o x i = norm_of (if o == i then x else zero_amp)

-- a numerator whose number stands before the row adds nothing
before_row : (o : ℕ) (x : Amp) (m a : ℕ) → o < a → over (at_one o x) a m ≡ zero_root
before_row o x zero a less = refl
before_row o x (suc m) a less =
    let other : (o == a) ≡ false = grind (arith, nat_tests) in
    let later : o < a + 1 = omega arith in
    let here : at_one o x a ≡ zero_root = ap (λ b. norm_of (if b then x else zero_amp)) other ∙ norm_zero in
    ap (λ r. root_sum r (over (at_one o x) (a + 1) m)) here ∙ zero_sum (over (at_one o x) (a + 1) m) ∙ before_row o x m (a + 1) later

-- a numerator whose number is in the row adds its norm
in_row : (o : ℕ) (x : Amp) (m a : ℕ) → a ≤ o → o < a + m → over (at_one o x) a m ≡ norm_of x
in_row o x zero a low high = absurd (never low high)
  where
    never : a ≤ o → o < a + 0 → ⊥
    never p q = omega arith
in_row o x (suc m) a low high = by_test (o == a) refl (λ l h. in_row o x m (a + 1) l h)
  where
    by_test : (b : Bool) → (o == a) ≡ b → (a + 1 ≤ o → o < a + 1 + m → over (at_one o x) (a + 1) m ≡ norm_of x)
        → root_sum (norm_of (if o == a then x else zero_amp)) (over (at_one o x) (a + 1) m) ≡ norm_of x
    by_test true e more =
        let less : o < a + 1 = grind (arith, nat_tests) in
        ap (λ b. root_sum (norm_of (if b then x else zero_amp)) (over (at_one o x) (a + 1) m)) e
        ∙ ap (λ r. root_sum (norm_of x) r) (before_row o x m (a + 1) less) ∙ sum_zero (norm_of x)
    by_test false e more =
        let above : a + 1 ≤ o = grind (arith, nat_tests) in
        let below : o < a + 1 + m = omega arith in
        ap (λ b. root_sum (norm_of (if b then x else zero_amp)) (over (at_one o x) (a + 1) m)) e
        ∙ ap (λ r. root_sum r (over (at_one o x) (a + 1) m)) norm_zero ∙ zero_sum (over (at_one o x) (a + 1) m) ∙ more above below

-- numerators that are divided by a number of each place keep the sum of their norms
parted : (o : ℕ → ℕ) (x : ℕ → Amp) (m : ℕ) → ((k : ℕ) → o k < m) → (ks : List ℕ)
    → over (λ i. norm_sum (map (λ k. if o k == i then x k else zero_amp) ks)) 0 m ≡ norm_sum (map x ks)
parted o x m each [] = over_zero m 0
parted o x m each (k ∷ ks) =
    let low : 0 ≤ o k = omega arith in
    let high : o k < 0 + m = omega (arith, each k) in
    over_sums (at_one (o k) (x k)) (λ i. norm_sum (map (λ j. if o j == i then x j else zero_amp) ks)) m 0
    ∙ ap (λ r. root_sum r (over (λ i. norm_sum (map (λ j. if o j == i then x j else zero_amp) ks)) 0 m)) (in_row (o k) (x k) m 0 low high)
    ∙ ap (λ r. root_sum (norm_of (x k)) r) (parted o x m each ks)

-- the numerators at all places are those of the list
all_places : (s : State) → HasEachPlace s → norm_sum (map (amp_at s.nums) (range_with_len 0 (2 ^ s.qubits))) ≡ norm_sum s.nums
all_places s whole =
    norm_by_place 0 (2 ^ s.qubits) (amp_at s.nums) ∙ ap (λ m. sum_from 0 m (λ k. norm_of (amp_at s.nums k))) (sym whole) ∙ sym (norm_as_sum s.nums)

-- the norms of all projections sum to the norm of the state
pub projections_total : (qs : List ℕ) (s : State) → HasEachPlace s → over (λ m. norm_of_state (projected qs m s)) 0 (2 ^ length qs) ≡ norm_of_state s
projections_total qs s whole =
    parted (outcome_at s.qubits qs) (amp_at s.nums) (2 ^ length qs) (λ k. below k) (range_with_len 0 (2 ^ s.qubits)) ∙ all_places s whole
  where
    below : (k : ℕ) → outcome_at s.qubits qs k < 2 ^ length qs
    below k = omega (arith, outcome_below 0 s.qubits qs k)

-- what is no outcome has the norm 0
filtered : (qs : List ℕ) (s : State) (ms : List ℕ)
    → root_total (map (λ l. l.norm) (map (likelihood_of qs s) (filter (is_outcome qs s) ms))) ≡ root_total (map (λ m. norm_of_state (projected qs m s)) ms)
filtered qs s [] = refl
filtered qs s (m ∷ ms) = by_test (is_outcome qs s m) refl (filtered qs s ms)
  where
    zero_norm : is_outcome qs s m ≡ false → norm_of_state (projected qs m s) ≡ zero_root
    zero_norm e = zeros_norm (projected qs m s).nums (not_false (list_all is_zero_amp (projected qs m s).nums) e)

    by_test : (b : Bool) → is_outcome qs s m ≡ b
        → root_total (map (λ l. l.norm) (map (likelihood_of qs s) (filter (is_outcome qs s) ms))) ≡ root_total (map (λ n. norm_of_state (projected qs n s)) ms)
        → root_total (map (λ l. l.norm) (map (likelihood_of qs s) (cond b (m ∷ filter (is_outcome qs s) ms) (filter (is_outcome qs s) ms))))
        ≡ root_sum (norm_of_state (projected qs m s)) (root_total (map (λ n. norm_of_state (projected qs n s)) ms))
    by_test true e more = ap (λ r. root_sum (norm_of_state (projected qs m s)) r) more
    by_test false e more = more ∙ sym (zero_sum _) ∙ ap (λ r. root_sum r (root_total (map (λ n. norm_of_state (projected qs n s)) ms))) (sym (zero_norm e))

-- the norms of the outcomes of a measurement sum to the norm of the state
pub distribution_total : (qs : List ℕ) (s : State) → HasEachPlace s → root_total (norms_of qs s) ≡ norm_of_state s
distribution_total qs s whole = filtered qs s (range_with_len 0 (2 ^ length qs)) ∙ projections_total qs s whole
