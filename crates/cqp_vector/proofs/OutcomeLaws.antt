-- The outcomes that a factor tells can be projected on, and what is projected can be split.
use Rattle.std.proofs.Common.{◌≡◌, ℕ, zero, suc, ◌^◌, ◌<◌, List, [], ◌∷◌, length, map, refl, sym, ap, ◌∙◌, arith, subst}
use Rattle.std.proofs.Common.{true, false, get_or}
use Rattle.std.specs.Prelude.{◌==◌, if◌then◌else◌, Bool, filter, cond, slice_index}
use Rattle.std.specs.List.{range_with_len}
use Rattle.std.proofs.lemmas.List.{length-map, get_or-map}
use Rattle.std.proofs.lemmas.List.FromFn.{fill_by_all, get_or-map-range_with_len, length-map-range_with_len}
use Rattle.cqp_ring.specs.declared.amp.Amp.{Amp}
use Rattle.cqp_ring.specs.Amp.{zero_amp}
use Rattle.cqp_ring.specs.Parity.{over_root2}
use Rattle.cqp_vector.specs.declared.odds.Odd.{Odd}
use Rattle.cqp_vector.specs.State.{State, amp_at}
use Rattle.cqp_vector.specs.Group.{Group, made_least, projection}
use Rattle.cqp_vector.specs.Least.{least_over}
use Rattle.cqp_vector.specs.Measurement.{is_outcome, likelihood_of, outcome_at, projected}
use Rattle.cqp_vector.specs.Odds.{odd_of, odds_of}
use Rattle.cqp_vector.specs.Pieces.{IsProjectedOn}
use Rattle.cqp_vector.proofs.LeastLemmas.{kept_least}
use Rattle.cqp_vector.proofs.TallyLemmas.{fused}
use Rattle.cqp_vector.proofs.Masks.{masked}

-- ---- outcomes
-- the identity changes no list
map_same : (xs : List ℕ) → map (λ x. x) xs ≡ xs
map_same [] = refl
map_same (x ∷ xs) = ap (λ t. x ∷ t) (map_same xs)

-- the outcomes of a list of odds
abbrev pub outcomes_of : List Odd → List ℕ
outcomes_of odds = map (λ o. o.outcome) odds

-- the outcomes that are told are those that pass
outcomes_pass : (ps : List ℕ) (s : State) → outcomes_of (odds_of ps s) ≡ filter (is_outcome ps s) (range_with_len 0 (2 ^ length ps))
outcomes_pass ps s =
    let xs = filter (is_outcome ps s) (range_with_len 0 (2 ^ length ps)) in
    ap outcomes_of (fused odd_of (likelihood_of ps s) (filter (is_outcome ps s) (range_with_len 0 (2 ^ length ps))))
    ∙ fused (λ (o : Odd). o.outcome) (λ m. odd_of (likelihood_of ps s m)) (filter (is_outcome ps s) (range_with_len 0 (2 ^ length ps)))
    ∙ map_same (filter (is_outcome ps s) (range_with_len 0 (2 ^ length ps)))

-- what is kept passes
passes : (p : ℕ → Bool) (xs : List ℕ) (i : ℕ) → i < length (filter p xs) → p (get_or (filter p xs) i 0) ≡ true
passes p [] i h = absurd (omega arith)
passes p (x ∷ xs) i h = by_test (p x) refl i h (passes p xs)
  where
    by_test : (b : Bool) → p x ≡ b → (i : ℕ) → i < length (cond b (x ∷ filter p xs) (filter p xs))
        → ((j : ℕ) → j < length (filter p xs) → p (get_or (filter p xs) j 0) ≡ true)
        → p (get_or (cond b (x ∷ filter p xs) (filter p xs)) i 0) ≡ true
    by_test true e zero g later = e
    by_test true e (suc j) g later = later j (omega arith)
    by_test false e j g later = later j g

-- each outcome that is told has a projection that isn't zero
pub each_outcome : (ps : List ℕ) (s : State) (i : ℕ) → i < length (odds_of ps s) → is_outcome ps s (slice_index (map (λ o. o.outcome) (odds_of ps s)) i) ≡ true
each_outcome ps s i h =
    let same = outcomes_pass ps s in
    let size = length-map (odds_of ps s) (λ (o : Odd). o.outcome) in
    let less : i < length (filter (is_outcome ps s) (range_with_len 0 (2 ^ length ps))) = subst (λ t. i < t) (sym size ∙ ap length same) h in
    ap (λ (t : List ℕ). is_outcome ps s (get_or t i 0)) same ∙ passes (is_outcome ps s) (range_with_len 0 (2 ^ length ps)) i less

-- ---- projections
-- numerators that are 0 where the test fails
IsMasked : (ℕ → Bool) → ℕ → List Amp → Type 0
IsMasked p n xs = map (masked p xs) (range_with_len 0 n) ≡ xs

-- 0 put twice is 0 put once
twice_masked : (b : Bool) (x : Amp) → (if b then (if b then x else zero_amp) else zero_amp) ≡ (if b then x else zero_amp)
twice_masked true x = refl
twice_masked false x = refl

-- a list with 0 put where a test fails keeps with it
mask_masked : (p : ℕ → Bool) (n : ℕ) (xs : List Amp) → IsMasked p n (map (masked p xs) (range_with_len 0 n))
unfolding IsMasked
mask_masked p n xs = sym (fill_by_all (masked p (map (masked p xs) (range_with_len 0 n))) (map (masked p xs) (range_with_len 0 n)) n zero_amp
    (length-map-range_with_len (masked p xs) 0 n)
    (λ k h. let at = get_or-map-range_with_len (masked p xs) 0 n k k zero_amp h (omega arith) in
    at ∙ sym (ap (λ t. if p k then t else zero_amp) at ∙ twice_masked (p k) (amp_at xs k))))

-- a quotient by root 2 goes along putting 0
divided_one : (b : Bool) (x : Amp) → over_root2 (if b then x else zero_amp) ≡ (if b then over_root2 x else zero_amp)
divided_one true x = refl
divided_one false x = refl

-- so for a list
divided_mask : (p : ℕ → Bool) (n : ℕ) (xs : List Amp) → length xs ≡ n → IsMasked p n xs → IsMasked p n (map over_root2 xs)
unfolding IsMasked
divided_mask p n xs size e = sym (fill_by_all (masked p (map over_root2 xs)) (map over_root2 xs) n zero_amp (length-map xs over_root2 ∙ size)
    (λ k h. let less : k < length xs = omega arith in
    let at = get_or-map over_root2 xs k zero_amp zero_amp less in
    let here : amp_at xs k ≡ masked p xs k = ap (λ t. amp_at t k) (sym e) ∙ get_or-map-range_with_len (masked p xs) 0 n k k zero_amp h (omega arith) in
    at ∙ ap over_root2 here ∙ divided_one (p k) (amp_at xs k) ∙ ap (λ t. if p k then t else zero_amp) (sym at)))

-- the list has n places, and 0 where the test fails
record KeepsMask (p : ℕ → Bool) (n : ℕ) (xs : List Amp) : Type 0 where
  size : length xs ≡ n
  mask : IsMasked p n xs

-- made least, such a list still has its 0s
least_mask : (p : ℕ → Bool) (n h : ℕ) (xs : List Amp) → KeepsMask p n xs → KeepsMask p n (least_over xs h).nums
least_mask p n h xs k = kept_least (λ ys j. KeepsMask p n ys) (λ ys j e f. record {
  size = length-map ys over_root2
      ∙ f.size;
  mask = divided_mask p n ys f.size f.mask;
}) h xs k

-- a projection that was made least is projected
pub projected_on : (ps : List ℕ) (m : ℕ) (g : Group) → IsProjectedOn ps m (made_least (projection ps m g))
unfolding IsMasked
projected_on ps m g =
    let p = λ (k : ℕ). outcome_at (length g.qubits) ps k == m in
    let k = least_mask (λ k. outcome_at (length g.qubits) ps k == m) (2 ^ length g.qubits) g.h
    (projected ps m (record { qubits = length g.qubits; nums = g.nums })).nums (record {
      size = length-map-range_with_len (masked (λ k. outcome_at (length g.qubits) ps k == m) g.nums) 0 (2 ^ length g.qubits);
      mask = mask_masked (λ k. outcome_at (length g.qubits) ps k == m) (2 ^ length g.qubits) g.nums;
    }) in
    ap (λ (t : List Amp). let x : Group = record { qubits = g.qubits; nums = t; h = (least_over (projection ps m g).nums g.h).h } in x) k.mask
