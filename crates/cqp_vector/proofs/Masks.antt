-- Numerators at some places, and 0 at the others: their norm is at most that of all.
use Rattle.std.proofs.Common.{◌≡◌, ◌≢◌, ℕ, zero, suc, ◌+◌, ◌*◌, ◌^◌, List, [], ◌∷◌, length, map, refl, sym}
use Rattle.std.proofs.Common.{ap, ◌∙◌, arith, subst, true, false, inl}
use Rattle.std.specs.Prelude.{◌==◌, not, if◌then◌else◌, Bool, ℤ, pos, negsuc, ◌-ℤ◌, nat_abs}
use Rattle.std.specs.List.{range_with_len, list_all}
use Rattle.std.proofs.lemmas.Int.{ints}
use Rattle.std.proofs.lemmas.Bool.{and_from, not-true, true≢false}
use Rattle.std.proofs.lemmas.List.FromFn.{length-map-range_with_len}
use Rattle.cqp_ring.specs.declared.amp.Amp.{Amp}
use Rattle.cqp_ring.specs.declared.root.Root.{Root}
use Rattle.cqp_ring.specs.Amp.{zero_amp}
use Rattle.cqp_ring.specs.Root.{IsAtLeastZero, IsAtMost, norm_of, norm_sum, root_sum, root_conjugate, zero_root}
use Rattle.cqp_ring.specs.Weight.{power_root}
use Rattle.cqp_ring.proofs.NormOrder.{norm_at_least_zero, norm_conjugate_at_least_zero}
use Rattle.cqp_ring.proofs.OrderSums.{at_least_sum, at_most_along}
use Rattle.cqp_vector.specs.State.{State, amp_at}
use Rattle.cqp_vector.specs.Group.{IsWithin}
use Rattle.cqp_vector.specs.Measurement.{is_zero_amp, is_zero_int, is_outcome, outcome_at, projected}
use Rattle.cqp_vector.proofs.Bounds.{squares_of, all_squares, norm_sum_is_squares}
use Rattle.cqp_vector.proofs.LeastLemmas.{IsSound}
use Rattle.cqp_ring.proofs.Integers.{same_root}
use Rattle.cqp_ring.proofs.OrderSums.{sum-zero, zero-sum}
use Rattle.cqp_vector.proofs.Sums.{sum_from, norm_by_place, norm_as_sum, middle_four}

-- the numerators at the places that pass
abbrev pub masked : (ℕ → Bool) → List Amp → ℕ → Amp
masked p nums k = if p k then amp_at nums k else zero_amp

-- ---- sums of norms aren't negative
-- 0 is at least zero
zero_at_least : IsAtLeastZero zero_root
zero_at_least = inl (omega (arith, ints), omega (arith, ints))

-- a sum of norms of numerators is at least zero
sums_at_least : (m a : ℕ) (f : ℕ → Amp) → IsAtLeastZero (sum_from a m (λ k. norm_of (f k)))
sums_at_least zero a f = zero_at_least
sums_at_least (suc m) a f = at_least_sum (norm_of (f a)) (sum_from (a + 1) m (λ k. norm_of (f k))) (norm_at_least_zero (f a)) (sums_at_least m (a + 1) f)

-- the other sign of root 2 goes along sums
conjugate_sum : (x y : Root) → root_conjugate (root_sum x y) ≡ root_sum (root_conjugate x) (root_conjugate y)
conjugate_sum x y = same_root (omega (arith, ints)) (omega (arith, ints))

-- and keeps 0
conjugate_zero : root_conjugate zero_root ≡ zero_root
conjugate_zero = same_root (omega (arith, ints)) (omega (arith, ints))

-- a sum of norms is at least zero under the other sign too
sums_other_at_least : (m a : ℕ) (f : ℕ → Amp) → IsAtLeastZero (root_conjugate (sum_from a m (λ k. norm_of (f k))))
sums_other_at_least zero a f = subst IsAtLeastZero (sym conjugate_zero) zero_at_least
sums_other_at_least (suc m) a f =
    subst IsAtLeastZero (sym (conjugate_sum (norm_of (f a)) (sum_from (a + 1) m (λ k. norm_of (f k)))))
    (at_least_sum _ _ (norm_conjugate_at_least_zero (f a)) (sums_other_at_least m (a + 1) f))

-- ---- a part and the rest
-- a norm is that where the test passes and that where it fails
split_one : (b : Bool) (x : Amp) → root_sum (norm_of (if b then x else zero_amp)) (norm_of (if not b then x else zero_amp)) ≡ norm_of x
split_one true x = sum-zero (norm_of x)
split_one false x = zero-sum (norm_of x)

-- the norms of the places that pass and of those that don't sum to all
split_sums : (p : ℕ → Bool) (nums : List Amp) (m a : ℕ)
    → root_sum (sum_from a m (λ k. norm_of (masked p nums k))) (sum_from a m (λ k. norm_of (masked (λ j. not (p j)) nums k)))
    ≡ sum_from a m (λ k. norm_of (amp_at nums k))
split_sums p nums zero a = sum-zero zero_root
split_sums p nums (suc m) a =
    middle_four (norm_of (masked p nums a)) (sum_from (a + 1) m (λ k. norm_of (masked p nums k)))
    (norm_of (masked (λ j. not (p j)) nums a)) (sum_from (a + 1) m (λ k. norm_of (masked (λ j. not (p j)) nums k)))
    ∙ ap (λ t. root_sum t (root_sum (sum_from (a + 1) m (λ k. norm_of (masked p nums k))) (sum_from (a + 1) m (λ k. norm_of (masked (λ j. not (p j)) nums k)))))
    (split_one (p a) (amp_at nums a))
    ∙ ap (root_sum (norm_of (amp_at nums a))) (split_sums p nums m (a + 1))

-- x is at most x + y, for y at least 0
less_rest : (x y : Root) → let d : Root = record { p = (root_sum x y).p -ℤ x.p; q = (root_sum x y).q -ℤ x.q } in d ≡ y
less_rest x y = same_root (omega (arith, ints)) (omega (arith, ints))

-- a norm is at most its sum with one at least zero
at_most_sum : (x y : Root) → IsAtLeastZero y → IsAtMost x (root_sum x y)
at_most_sum x y h = subst IsAtLeastZero (sym (less_rest x y)) h

-- 0 put at the places that don't pass keeps the norm within its bound
pub mask_within : (p : ℕ → Bool) (n h : ℕ) (nums : List Amp) → length nums ≡ n → IsWithin (norm_sum nums) h
    → IsWithin (norm_sum (map (masked p nums) (range_with_len 0 n))) h
mask_within p n h nums whole w =
    let part : norm_sum (map (masked p nums) (range_with_len 0 n)) ≡ sum_from 0 n (λ k. norm_of (masked p nums k)) = norm_by_place 0 n (masked p nums) in
    let all : norm_sum nums ≡ root_sum (sum_from 0 n (λ k. norm_of (masked p nums k))) (sum_from 0 n (λ k. norm_of (masked (λ j. not (p j)) nums k))) =
    norm_as_sum nums ∙ ap (λ m. sum_from 0 m (λ k. norm_of (amp_at nums k))) whole ∙ sym (split_sums p nums n 0) in
    subst (λ t. IsWithin t h) (sym part) (record {
      at_least = sums_at_least n 0 (masked p nums);
      at_most = at_most_along (sum_from 0 n (λ k. norm_of (masked p nums k))) (norm_sum nums) (power_root h)
          (subst (IsAtMost (sum_from 0 n (λ k. norm_of (masked p nums k)))) (sym all) (at_most_sum (sum_from 0 n (λ k. norm_of (masked p nums k)))
          (sum_from 0 n (λ k. norm_of (masked (λ j. not (p j)) nums k))) (sums_at_least n 0 (masked (λ j. not (p j)) nums)))) w.at_most;
      other_at_least = sums_other_at_least n 0 (masked p nums);
      other_at_most = at_most_along (root_conjugate (sum_from 0 n (λ k. norm_of (masked p nums k)))) (root_conjugate (norm_sum nums)) (power_root h)
          (subst (IsAtMost (root_conjugate (sum_from 0 n (λ k. norm_of (masked p nums k))))) (sym (ap root_conjugate all
          ∙ conjugate_sum (sum_from 0 n (λ k. norm_of (masked p nums k))) (sum_from 0 n (λ k. norm_of (masked (λ j. not (p j)) nums k)))))
          (at_most_sum (root_conjugate (sum_from 0 n (λ k. norm_of (masked p nums k))))
          (root_conjugate (sum_from 0 n (λ k. norm_of (masked (λ j. not (p j)) nums k))))
          (sums_other_at_least n 0 (masked (λ j. not (p j)) nums)))) w.other_at_most;
    })

-- ---- a norm of 0
-- only 0 has the absolute value 0
zero_parts : (z : ℤ) → nat_abs z ≡ 0 → is_zero_int z ≡ true
zero_parts (pos zero) e = refl
zero_parts (pos (suc n)) e = absurd (omega (arith, ints))
zero_parts (negsuc n) e = absurd (omega (arith, ints))

-- only 0 has the square 0
square_none : (n : ℕ) → n * n ≡ 0 → n ≡ 0
square_none zero e = refl
square_none (suc n) e = absurd (omega arith)

-- only 0 has four squares that sum to 0
none_at : (x : Amp) → squares_of x ≡ 0 → is_zero_amp x ≡ true
none_at x e =
    and_from _ _ (and_from _ _ (and_from _ _ (zero_parts x.a (square_none _ (omega arith))) (zero_parts x.b (square_none _ (omega arith))))
    (zero_parts x.c (square_none _ (omega arith))))
    (zero_parts x.d (square_none _ (omega arith)))

-- numerators whose squares sum to 0 are all 0
all_none : (xs : List Amp) → all_squares xs ≡ 0 → list_all is_zero_amp xs ≡ true
unfolding all_squares
all_none [] e = refl
all_none (x ∷ xs) e = and_from _ _ (none_at x (omega arith)) (all_none xs (omega arith))

-- numerators of norm 0 are all 0
pub none_by_norm : (xs : List Amp) → norm_sum xs ≡ zero_root → list_all is_zero_amp xs ≡ true
none_by_norm xs e =
    let f = norm_sum_is_squares xs in
    let g : (norm_sum xs).p ≡ pos 0 = ap (λ (t : Root). t.p) e in
    all_none xs (omega (arith, ints, f, g))

-- an outcome's projection isn't 0
pub outcome_norm : (ps : List ℕ) (s : State) (m : ℕ) → is_outcome ps s m ≡ true → norm_sum (projected ps m s).nums ≢ zero_root
outcome_norm ps s m e f = true≢false (sym (none_by_norm (projected ps m s).nums f) ∙ not-true _ e)

-- a projection on an outcome keeps numerators sound
pub sound_projected : (n h : ℕ) (ps : List ℕ) (m : ℕ) (nums : List Amp) → IsSound (2 ^ n) nums h
    → is_outcome ps (record { qubits = n; nums = nums }) m ≡ true
    → IsSound (2 ^ n) (projected ps m (record { qubits = n; nums = nums })).nums h
sound_projected n h ps m nums s e = record {
  whole = length-map-range_with_len (λ k. if outcome_at n ps k == m then amp_at nums k else zero_amp) 0 (2 ^ n);
  nonzero = outcome_norm ps (record { qubits = n; nums = nums }) m e;
  bound = mask_within (λ k. outcome_at n ps k == m) (2 ^ n) h nums s.whole s.bound;
}
