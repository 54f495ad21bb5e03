-- How many places have an outcome.
use Rattle.std.proofs.Common.{◌≡◌, ◌≢◌, ℕ, zero, suc, ◌+◌, ◌-◌, ◌*◌, ◌^◌, ◌<◌, ◌≤◌, List, [], ◌∷◌, length}
use Rattle.std.proofs.Common.{refl, sym, ap, ◌∙◌, arith, subst, true, false, inl, inr, ◌⊎◌, pow-add}
use Rattle.std.specs.Prelude.{◌==◌, ◌&&◌, if◌then◌else◌, Bool, filter, cond, pos, ◌+ℤ◌, nat_lt, not}
use Rattle.std.specs.List.{range_with_len}
use Rattle.std.proofs.lemmas.Int.{ints}
use Rattle.std.proofs.lemmas.Bool.{cases_lt, and_parts, or_parts, eq-eqb, ne_eqb, ltb-true, eqb-false, not-true}
use Rattle.cqp_ring.specs.declared.root.Root.{Root}
use Rattle.cqp_ring.specs.Root.{one_root, root_sum, whole_root, zero_root}
use Rattle.cqp_vector.specs.State.{qubit_bit, weight_of}
use Rattle.cqp_vector.specs.Measurement.{outcome_after}
use Rattle.cqp_syntax.specs.Lists.{are_below, is_distinct, stands_in}
use Rattle.cqp_vector.proofs.Bits.{bit_cases, other_bit}
use Rattle.cqp_vector.proofs.Norms.{doubled, double_keeps_sums, partners_at}
use Rattle.cqp_vector.proofs.Pairs.{whole}
use Rattle.cqp_vector.proofs.Partners.{ArePartners}
use Rattle.cqp_ring.proofs.Integers.{same_root}
use Rattle.cqp_vector.proofs.Sums.{sum_from, blocks}

-- ---- counts as sums
-- 1 where the test passes, and else 0
abbrev one_if : Bool → Root
one_if b = if b then one_root else zero_root

-- how many places pass
abbrev pub count : (ℕ → Bool) → ℕ → ℕ
count f n = length (filter f (range_with_len 0 (2 ^ n)))

-- one more place counts where it passes
count_one : (b : Bool) (a : ℕ) (xs : List ℕ) → root_sum (one_if b) (whole_root (pos (length xs))) ≡ whole_root (pos (length (cond b (a ∷ xs) xs)))
count_one true a xs = same_root (omega (arith, ints)) (omega (arith, ints))
count_one false a xs = same_root (omega (arith, ints)) (omega (arith, ints))

-- the places that pass are as many as the sum of ones there
count_sum : (f : ℕ → Bool) (m a : ℕ) → sum_from a m (λ k. one_if (f k)) ≡ whole_root (pos (length (filter f (range_with_len a m))))
count_sum f zero a = refl
count_sum f (suc m) a = ap (root_sum (one_if (f a))) (count_sum f m (a + 1)) ∙ count_one (f a) a (filter f (range_with_len (a + 1) m))

-- ---- half of the places have a given bit
-- the other one of two that pass together counts half
half_zero : (x : Bool) → root_sum (one_if x) (one_if x) ≡ doubled (root_sum (one_if x) zero_root)
half_zero true = same_root (omega (arith, ints)) (omega (arith, ints))
half_zero false = same_root (omega (arith, ints)) (omega (arith, ints))

-- one of two that pass together counts half
half_one : (x : Bool) → root_sum (one_if x) (one_if x) ≡ doubled (root_sum zero_root (one_if x))
half_one true = same_root (omega (arith, ints)) (omega (arith, ints))
half_one false = same_root (omega (arith, ints)) (omega (arith, ints))

-- a place with the bit counts as the test says
with_bit : (b c : ℕ) (x : Bool) → b ≡ c → one_if ((b == c) && x) ≡ one_if x
with_bit b c x e = ap (λ t. one_if (t && x)) (eq-eqb b c e)

-- a place without it doesn't count
without_bit : (b c : ℕ) (x : Bool) → b ≢ c → one_if ((b == c) && x) ≡ zero_root
without_bit b c x e = ap (λ t. one_if (t && x)) (ne_eqb b c e)

-- equal norms have equal sums
both_roots : {x y z t : Root} → x ≡ z → y ≡ t → root_sum x y ≡ root_sum z t
both_roots {y = y} {z = z} e f = ap (λ u. root_sum u y) e ∙ ap (root_sum z) f

-- of a pair that passes alike, the one with the bit counts half
pair_half : (n q low high c : ℕ) (g : ℕ → Bool) → ArePartners n q low high → g high ≡ g low → (c ≡ 0) ⊎ (c ≡ 1)
    → root_sum (one_if (g low)) (one_if (g high))
    ≡ doubled (root_sum (one_if ((qubit_bit n q low == c) && g low)) (one_if ((qubit_bit n q high == c) && g high)))
pair_half n q low high c g p same (inl e) =
    let not_high : qubit_bit n q high ≢ c = λ f. let h = p.high_is in absurd (omega arith) in
    ap (λ t. root_sum (one_if (g low)) (one_if t)) same ∙ half_zero (g low)
    ∙ ap doubled (sym (both_roots (with_bit (qubit_bit n q low) c (g low) (p.low_is ∙ sym e)) (without_bit (qubit_bit n q high) c (g high) not_high)))
pair_half n q low high c g p same (inr e) =
    let not_low : qubit_bit n q low ≢ c = λ f. let h = p.low_is in absurd (omega arith) in
    ap (λ t. root_sum (one_if (g low)) (one_if t)) same ∙ half_one (g low)
    ∙ ap doubled (sym (both_roots (without_bit (qubit_bit n q low) c (g low) not_low) (with_bit (qubit_bit n q high) c (g high) (p.high_is ∙ sym e)
    ∙ ap one_if same)))

-- so do, of all places, those with the bit
half_sums : (n q c : ℕ) (g : ℕ → Bool) → q < n → ((k : ℕ) → qubit_bit n q k ≡ 0 → g (k + weight_of n q) ≡ g k) → (c ≡ 0) ⊎ (c ≡ 1)
    → sum_from 0 (2 ^ n) (λ k. one_if (g k)) ≡ doubled (sum_from 0 (2 ^ n) (λ k. one_if ((qubit_bit n q k == c) && g k)))
half_sums n q c g below same bit =
    let size : 2 ^ n ≡ 2 ^ q * (weight_of n q + weight_of n q) = omega (arith, whole n q below) in
    subst (λ m. sum_from 0 m (λ k. one_if (g k)) ≡ doubled (sum_from 0 m (λ k. one_if ((qubit_bit n q k == c) && g k)))) (sym size)
    (blocks doubled double_keeps_sums (2 ^ q) (weight_of n q) 0 (λ k. one_if (g k)) (λ k. one_if ((qubit_bit n q k == c) && g k))
    (λ j i hj hi. let p = partners_at n q j i hi in pair_half n q _ _ c g p (ap g p.apart ∙ same _ p.low_is) bit))

-- where a whole norm doubles another, the number is twice the other
whole_parts : (m k : ℕ) → whole_root (pos m) ≡ doubled (whole_root (pos k)) → m ≡ 2 * k
whole_parts m k e = let f : pos m ≡ pos k +ℤ pos k = ap (λ (t : Root). t.p) e in omega (arith, ints, f)

-- a test that a bit doesn't matter to passes at half of its places with that bit
pub half_count : (n q c : ℕ) (g : ℕ → Bool) → q < n → ((k : ℕ) → qubit_bit n q k ≡ 0 → g (k + weight_of n q) ≡ g k) → (c ≡ 0) ⊎ (c ≡ 1)
    → count g n ≡ 2 * count (λ k. (qubit_bit n q k == c) && g k) n
half_count n q c g below same bit = whole_parts (count g n) (count (λ k. (qubit_bit n q k == c) && g k) n)
    (sym (count_sum g (2 ^ n) 0) ∙ half_sums n q c g below same bit ∙ ap doubled (count_sum (λ k. (qubit_bit n q k == c) && g k) (2 ^ n) 0))

-- ---- where an outcome lies
-- one more power of two is twice it
pub twice_power : (r : ℕ) → 2 ^ suc r ≡ 2 * 2 ^ r
twice_power r = let e : suc r ≡ 1 + r = omega arith in ap (λ t. 2 ^ t) e ∙ pow-add 2 1 r

-- a bit times p is at most p
small_times : (b p : ℕ) → (b ≡ 0) ⊎ (b ≡ 1) → b * p ≤ p
small_times b p (inl e) = rw e (omega arith)
small_times b p (inr e) = rw e (omega arith)

-- the outcome of a place has as many bits behind the start as there are qubits
pub outcome_range : (n : ℕ) (qs : List ℕ) (o k : ℕ) → (o * 2 ^ length qs ≤ outcome_after o n qs k) × (outcome_after o n qs k < (o + 1) * 2 ^ length qs)
outcome_range n [] o k = (omega arith, omega arith)
outcome_range n (q ∷ qs) o k =
    let h = outcome_range n qs (2 * o + qubit_bit n q k) k in
    let size : 2 ^ suc (length qs) ≡ 2 * 2 ^ length qs = twice_power (length qs) in
    let low = h.0 in
    let high = h.1 in
    let few = small_times (qubit_bit n q k) (2 ^ length qs) (bit_cases n q k) in
    rw size (omega arith, omega arith)

-- a bit of another qubit changes no outcome
outcome_same : (n q : ℕ) (qs : List ℕ) (o k : ℕ) → q < n → are_below n qs ≡ true → stands_in qs q ≡ false → qubit_bit n q k ≡ 0
    → outcome_after o n qs (k + weight_of n q) ≡ outcome_after o n qs k
outcome_same n q [] o k made below apart even = refl
outcome_same n q (x ∷ qs) o k made below apart even =
    let t = and_parts _ _ below in
    let u = or_parts _ _ apart in
    let less : x < n = ltb-true x n t.0 in
    let other : x ≢ q = λ e. eqb-false q x u.0 (sym e) in
    let shifts : (n - 1 - x) ≢ (n - 1 - q) = λ e. other (omega arith) in
    ap (λ b. outcome_after (2 * o + b) n qs (k + weight_of n q)) (other_bit (n - 1 - x) (n - 1 - q) k shifts even)
    ∙ outcome_same n q qs (2 * o + qubit_bit n x k) k made t.1 u.1 even

-- equal tests keep the same places
pub same_tests : (f g : ℕ → Bool) (xs : List ℕ) → ((k : ℕ) → f k ≡ g k) → filter f xs ≡ filter g xs
same_tests f g [] e = refl
same_tests f g (x ∷ xs) e = ap (λ b. cond b (x ∷ filter f xs) (filter f xs)) (e x) ∙ ap (λ t. cond (g x) (x ∷ t) t) (same_tests f g xs e)

-- where each place passes, all are kept
pub all_pass : (f : ℕ → Bool) (m a : ℕ) → ((k : ℕ) → f k ≡ true) → length (filter f (range_with_len a m)) ≡ m
all_pass f zero a e = refl
all_pass f (suc m) a e = ap (λ b. length (cond b (a ∷ filter f (range_with_len (a + 1) m)) (filter f (range_with_len (a + 1) m)))) (e a)
    ∙ ap suc (all_pass f m (a + 1) e)

-- one bit of an outcome more
split_test : (n q : ℕ) (qs : List ℕ) (o m c : ℕ) → (c ≡ 0) ⊎ (c ≡ 1) → (2 * o + c) * 2 ^ length qs ≤ m → m < (2 * o + c + 1) * 2 ^ length qs → (k : ℕ)
    → (outcome_after o n (q ∷ qs) k == m) ≡ ((qubit_bit n q k == c) && (outcome_after (2 * o + c) n qs k == m))
split_test n q qs o m c bit low high k = by_cases (bit_cases n q k) bit
  where
    r : ℕ
    r = length qs

    same : qubit_bit n q k ≡ c → (outcome_after o n (q ∷ qs) k == m) ≡ ((qubit_bit n q k == c) && (outcome_after (2 * o + c) n qs k == m))
    same e =
        ap (λ b. outcome_after (2 * o + b) n qs k == m) e
        ∙ ap (λ t. t && (outcome_after (2 * o + c) n qs k == m)) (sym (eq-eqb (qubit_bit n q k) c e))

    apart : qubit_bit n q k ≢ c → outcome_after (2 * o + qubit_bit n q k) n qs k ≢ m
        → (outcome_after o n (q ∷ qs) k == m) ≡ ((qubit_bit n q k == c) && (outcome_after (2 * o + c) n qs k == m))
    apart e f =
        ne_eqb (outcome_after (2 * o + qubit_bit n q k) n qs k) m f
        ∙ ap (λ t. t && (outcome_after (2 * o + c) n qs k == m)) (sym (ne_eqb (qubit_bit n q k) c e))

    by_cases : (qubit_bit n q k ≡ 0) ⊎ (qubit_bit n q k ≡ 1) → (c ≡ 0) ⊎ (c ≡ 1)
        → (outcome_after o n (q ∷ qs) k == m) ≡ ((qubit_bit n q k == c) && (outcome_after (2 * o + c) n qs k == m))
    by_cases (inl e) (inl f) = same (e ∙ sym f)
    by_cases (inr e) (inr f) = same (e ∙ sym f)
    by_cases (inl e) (inr f) =
        let h = outcome_range n qs (2 * o + qubit_bit n q k) k in
        let above = subst (λ b. outcome_after (2 * o + qubit_bit n q k) n qs k < (2 * o + b + 1) * 2 ^ length qs) e h.1 in
        let begin = subst (λ b. (2 * o + b) * 2 ^ length qs ≤ m) f low in
        apart (λ g. absurd (omega arith)) (λ g. absurd (omega arith))
    by_cases (inr e) (inl f) =
        let h = outcome_range n qs (2 * o + qubit_bit n q k) k in
        let below = subst (λ b. (2 * o + b) * 2 ^ length qs ≤ outcome_after (2 * o + qubit_bit n q k) n qs k) e h.0 in
        let end = subst (λ b. m < (2 * o + b + 1) * 2 ^ length qs) f high in
        apart (λ g. absurd (omega arith)) (λ g. absurd (omega arith))

-- each outcome has as many places
pub outcome_count : (n : ℕ) (qs : List ℕ) (o m : ℕ) → are_below n qs ≡ true → is_distinct qs ≡ true → o * 2 ^ length qs ≤ m → m < (o + 1) * 2 ^ length qs
    → count (λ k. outcome_after o n qs k == m) n * 2 ^ length qs ≡ 2 ^ n
outcome_count n [] o m below distinct low high =
    let e : o ≡ m = omega arith in
    let f = all_pass (λ k. o == m) (2 ^ n) 0 (λ k. eq-eqb o m e) in
    omega (arith, f)
outcome_count n (q ∷ qs) o m below distinct low high =
    by_bit (λ c bit l h. outcome_count n qs (2 * o + c) m t.1 u.1 l h) (cases_lt m ((2 * o + 1) * 2 ^ length qs))
  where
    t : (nat_lt q n ≡ true) × (are_below n qs ≡ true)
    t = and_parts _ _ below

    u : (not (stands_in qs q) ≡ true) × (is_distinct qs ≡ true)
    u = and_parts _ _ distinct

    size : 2 ^ suc (length qs) ≡ 2 * 2 ^ length qs
    size = twice_power (length qs)

    step : (c : ℕ) → (c ≡ 0) ⊎ (c ≡ 1) → (2 * o + c) * 2 ^ length qs ≤ m → m < (2 * o + c + 1) * 2 ^ length qs
        → count (λ k. outcome_after (2 * o + c) n qs k == m) n * 2 ^ length qs ≡ 2 ^ n
        → count (λ k. outcome_after o n (q ∷ qs) k == m) n * 2 ^ suc (length qs) ≡ 2 ^ n
    step c bit l h e =
        let made : q < n = ltb-true q n t.0 in
        let halves = half_count n q c (λ k. outcome_after (2 * o + c) n qs k == m) made
        (λ k even. ap (λ x. x == m) (outcome_same n q qs (2 * o + c) k made t.1 (not-true _ u.0) even)) bit in
        let same = ap length (same_tests (λ k. outcome_after o n (q ∷ qs) k == m)
        (λ k. (qubit_bit n q k == c) && (outcome_after (2 * o + c) n qs k == m)) (range_with_len 0 (2 ^ n)) (split_test n q qs o m c bit l h)) in
        ap (λ x. x * 2 ^ suc (length qs)) same ∙ ap (λ x. count (λ k. (qubit_bit n q k == c) && (outcome_after (2 * o + c) n qs k == m)) n * x) size
        ∙ twice_in _ _ _ halves ∙ e
      where
        twice_in : (x y p : ℕ) → x ≡ 2 * y → y * (2 * p) ≡ x * p
        twice_in x y p e = rw e (omega arith)

    by_bit : ((c : ℕ) → (c ≡ 0) ⊎ (c ≡ 1) → (2 * o + c) * 2 ^ length qs ≤ m → m < (2 * o + c + 1) * 2 ^ length qs
        → count (λ k. outcome_after (2 * o + c) n qs k == m) n * 2 ^ length qs ≡ 2 ^ n)
        → (m < (2 * o + 1) * 2 ^ length qs) ⊎ ((2 * o + 1) * 2 ^ length qs ≤ m) → count (λ k. outcome_after o n (q ∷ qs) k == m) n * 2 ^ suc (length qs) ≡ 2 ^ n
    by_bit h (inl less) =
        let a : (2 * o + 0) * 2 ^ length qs ≤ m = let s = size in let l = subst (λ x. o * x ≤ m) s low in omega arith in
        let b : m < (2 * o + 0 + 1) * 2 ^ length qs = omega arith in
        step 0 (inl refl) a b (h 0 (inl refl) a b)
    by_bit h (inr more) =
        let a : (2 * o + 1) * 2 ^ length qs ≤ m = more in
        let b : m < (2 * o + 1 + 1) * 2 ^ length qs = let l = subst (λ x. m < (o + 1) * x) size high in omega arith in
        step 1 (inr refl) a b (h 1 (inr refl) a b)
