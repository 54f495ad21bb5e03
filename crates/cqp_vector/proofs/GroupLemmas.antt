-- What each `Factor` keeps, and what follows from it.
use Rattle.std.proofs.Common.{◌≡◌, ℕ, zero, suc, ◌+◌, ◌*◌, ◌^◌, ◌<◌, ◌≤◌, List, ◌++◌, length, refl, sym, ap, ◌∙◌, length-append}
use Rattle.std.proofs.Common.{arith, subst, true, false, inl, inr, ◌⊎◌}
use Rattle.std.specs.Prelude.{ℤ, pos, ◌≤ℤ◌}
use Rattle.std.specs.List.{list_all}
use Rattle.std.proofs.lemmas.Int.{ints}
use Rattle.std.proofs.Math.Pow.{pow_mono}
use Rattle.cqp_ring.specs.declared.amp.Amp.{Amp}
use Rattle.cqp_ring.specs.Parity.{has_even_sum}
use Rattle.cqp_ring.specs.Root.{norm_sum}
use Rattle.cqp_syntax.specs.declared.op.Op.{Op}
use Rattle.cqp_syntax.specs.declared.op.Op.TheVariants as op
use Rattle.cqp_syntax.specs.Gates.{places_of}
use Rattle.cqp_vector.specs.Gate.{gate_of}
use Rattle.cqp_vector.specs.Group.{Group, IsGroup, factors_left_out, gated, made_least, state_of, level_of}
use Rattle.cqp_vector.specs.Group.{CanJoin, joined, product_of, projection}
use Rattle.cqp_vector.proofs.Levels.{HasOdd, HasEven, level_over, levels_add, exponent_of_level}
use Rattle.cqp_vector.proofs.ProductLemmas.{products_are, sound_products}
use Rattle.std.proofs.lemmas.Bool.{cases_Bool}
use Rattle.cqp_ring.specs.Parity.{is_root2_times}
use Rattle.cqp_vector.specs.Least.{Over, least_over}
use Rattle.cqp_vector.specs.Places.{ArePlaces}
use Rattle.cqp_vector.proofs.GateLemmas.{sound_gate}
use Rattle.cqp_vector.proofs.LeastLemmas.{IsSound, sound_least, least_is_least, least_at_most}
use Rattle.cqp_vector.specs.Measurement.{projected, is_outcome}
use Rattle.cqp_vector.proofs.Masks.{sound_projected}
use Rattle.cqp_vector.proofs.SumBounds.{even_has_exponent}
use Rattle.cqp_vector.proofs.WithinLemmas.{whole_within}

-- a greater bound holds too
at_most_more : (z : ℤ) (m n : ℕ) → z ≤ℤ pos m → m ≤ n → z ≤ℤ pos n
at_most_more z m n h g = omega (arith, ints)

-- the norm is within the limit
pub norm_limit : (g : Group) → IsGroup g → (norm_sum g.nums).p ≤ℤ pos (2 ^ 90)
norm_limit g i = at_most_more _ (2 ^ g.h) (2 ^ 90) (whole_within (norm_sum g.nums) g.h i.bound) (pow_mono i.limit)

-- all sums are even only where there is an exponent
pub exponent_of_even : (g : Group) → IsGroup g → list_all has_even_sum g.nums ≡ true → 1 ≤ 2 * g.h
exponent_of_even g i e = by_exponent g.h refl
  where
    by_exponent : (h : ℕ) → g.h ≡ h → 1 ≤ 2 * g.h
    by_exponent zero f =
        absurd (even_has_exponent g.nums (subst (λ h. (norm_sum g.nums).p ≤ℤ pos (2 ^ h)) f (whole_within (norm_sum g.nums) g.h i.bound)) i.nonzero e)
    by_exponent (suc h) f = omega arith

-- the numerators of a group are sound
pub sound_group : (g : Group) → IsGroup g → IsSound (2 ^ length g.qubits) g.nums g.h
sound_group g i = record { whole = i.whole; nonzero = i.nonzero; bound = i.bound }

-- a group over which numerators were changed, made least
pub group_made_least : (g : Group) (nums : List Amp) (h : ℕ) → IsGroup g → IsSound (2 ^ length g.qubits) nums h → h ≤ 90
    → IsGroup (made_least (record { qubits = g.qubits; nums = nums; h = h }))
group_made_least g nums h i s limit =
    let t = sound_least (2 ^ length g.qubits) nums h s in
    record {
      some = i.some;
      few = i.few;
      distinct = i.distinct;
      whole = t.whole;
      limit = least_at_most 90 h nums limit;
      least = least_is_least h nums;
      nonzero = t.nonzero;
      bound = t.bound;
    }

-- H below 90, and the other gates, leave an exponent of at most 90
one_at_most : (o : Op) (h : ℕ) → h ≤ 90 → (o ≡ op.H → h < 90) → h + factors_left_out o ≤ 90
one_at_most op.I h l f = omega arith
one_at_most op.X h l f = omega arith
one_at_most op.Y h l f = omega arith
one_at_most op.Z h l f = omega arith
one_at_most op.H h l f = let g = f refl in omega arith
one_at_most op.S h l f = omega arith
one_at_most op.T h l f = omega arith
one_at_most op.CNot h l f = omega arith
one_at_most op.CZ h l f = omega arith
one_at_most op.Swap h l f = omega arith
one_at_most op.Toffoli h l f = omega arith

-- a gate, made least, keeps what each factor keeps
pub group_gated : (g : Group) (o : Op) (ps : List ℕ) → IsGroup g → ArePlaces (length g.qubits) ps → length ps ≡ places_of o → (o ≡ op.H → g.h < 90)
    → IsGroup (made_least (gated o ps g))
group_gated g o ps i p count room =
    group_made_least g (gate_of o ps (state_of g)).nums (g.h + factors_left_out o) i
    (sound_gate o ps (length g.qubits) g.h g.nums p count (sound_group g i)) (one_at_most o g.h i.limit room)

-- numerators over root 2 to the h, put in the place of a group's
pub group_with : (g : Group) (x : Over) (nums : List Amp) (h : ℕ) → IsGroup (record { qubits = g.qubits; nums = x.nums; h = x.h }) → nums ≡ x.nums → h ≡ x.h
    → IsGroup (record { qubits = g.qubits; nums = nums; h = h })
group_with g x nums h i e f =
    subst (λ t. IsGroup (record { qubits = g.qubits; nums = t; h = h })) (sym e)
    (subst (λ t. IsGroup (record { qubits = g.qubits; nums = x.nums; h = t })) (sym f) i)

-- the numerators after a gate, made least
after : Op → List ℕ → ℕ → List ℕ → List Amp → Over
after o ps h qs xs = least_over (gate_of o ps (record { qubits = length qs; nums = xs })).nums (h + factors_left_out o)

-- what a gate writes, where it reads these qubits and numerators
pub group_changed : (g : Group) (o : Op) (ps qs : List ℕ) (xs nums : List Amp) (h : ℕ) → IsGroup g → ArePlaces (length g.qubits) ps → length ps ≡ places_of o
    → (o ≡ op.H → g.h < 90) → qs ≡ g.qubits → xs ≡ g.nums
    → nums ≡ (least_over (gate_of o ps (record { qubits = length qs; nums = xs })).nums (g.h + factors_left_out o)).nums
    → h ≡ (least_over (gate_of o ps (record { qubits = length qs; nums = xs })).nums (g.h + factors_left_out o)).h
    → IsGroup (record { qubits = g.qubits; nums = nums; h = h })
unfolding after
group_changed g o ps qs xs nums h i p count room same_qubits same_nums e f =
    let same : after o ps g.h qs xs ≡ after o ps g.h g.qubits g.nums = ap (λ t. after o ps g.h t xs) same_qubits ∙ ap (after o ps g.h g.qubits) same_nums in
    group_with g (after o ps g.h g.qubits g.nums) nums h (group_gated g o ps i p count room)
    (e ∙ ap (λ (t : Over). t.nums) same) (f ∙ ap (λ (t : Over). t.h) same)

-- the numerators after a projection, made least
projected_over : ℕ → List ℕ → ℕ → List ℕ → List Amp → Over
projected_over m ps h qs xs = least_over (projected ps m (record { qubits = length qs; nums = xs })).nums h

-- what a projection writes, where it reads these qubits and numerators
pub group_projected : (g : Group) (ps qs : List ℕ) (m : ℕ) (xs nums : List Amp) (h : ℕ) → IsGroup g → is_outcome ps (state_of g) m ≡ true
    → qs ≡ g.qubits → xs ≡ g.nums
    → nums ≡ (least_over (projected ps m (record { qubits = length qs; nums = xs })).nums g.h).nums
    → h ≡ (least_over (projected ps m (record { qubits = length qs; nums = xs })).nums g.h).h
    → IsGroup (record { qubits = g.qubits; nums = nums; h = h })
unfolding projected_over
group_projected g ps qs m xs nums h i outcome same_qubits same_nums e f =
    let same : projected_over m ps g.h qs xs ≡ projected_over m ps g.h g.qubits g.nums = ap (λ t. projected_over m ps g.h t xs) same_qubits
    ∙ ap (projected_over m ps g.h g.qubits) same_nums in
    group_with g (projected_over m ps g.h g.qubits g.nums) nums h
    (group_made_least g (projected ps m (state_of g)).nums g.h i (sound_projected (length g.qubits) g.h ps m g.nums (sound_group g i) outcome) i.limit)
    (e ∙ ap (λ (t : Over). t.nums) same) (f ∙ ap (λ (t : Over). t.h) same)

-- ---- joins
-- some sum is odd, or all are even and there is an exponent
leveled : (g : Group) → IsGroup g → HasOdd g.nums ⊎ HasEven g.nums g.h
leveled g i = by_cases (cases_Bool (list_all has_even_sum g.nums))
  where
    undivided : 1 ≤ 2 * g.h → (g.h ≡ 0) ⊎ (list_all is_root2_times g.nums ≡ false) → list_all is_root2_times g.nums ≡ false
    undivided some (inl e) = absurd (omega arith)
    undivided some (inr e) = e

    by_cases : (list_all has_even_sum g.nums ≡ true) ⊎ (list_all has_even_sum g.nums ≡ false) → HasOdd g.nums ⊎ HasEven g.nums g.h
    by_cases (inl e) =
        let some = exponent_of_even g i e in
        inr (record { even = e; undivided = undivided some i.least; positive = omega arith })
    by_cases (inr e) = inl (record { odd = e })

-- the levels of groups that are joined add
pub joined_level : (g f : Group) → IsGroup g → IsGroup f → level_of (made_least (joined g f)) ≡ level_of g + level_of f
joined_level g f i j =
    subst (λ xs. level_over (least_over xs (g.h + f.h)).nums (least_over xs (g.h + f.h)).h ≡ level_over g.nums g.h + level_over f.nums f.h)
    (products_are g.nums f.nums)
    (levels_add g.nums f.nums g.h f.h (leveled g i) (leveled f j))

-- the product of two groups' numerators is sound
pub sound_joined : (g f : Group) → IsGroup g → IsGroup f → IsSound (2 ^ (length g.qubits + length f.qubits)) (product_of g.nums f.nums) (g.h + f.h)
sound_joined g f i j =
    subst (λ xs. IsSound (2 ^ (length g.qubits + length f.qubits)) xs (g.h + f.h)) (products_are g.nums f.nums)
    (sound_products (length g.qubits) (length f.qubits) g.nums f.nums g.h f.h (sound_group g i) (sound_group f j))

-- a join, made least, keeps what each factor keeps
pub group_joined : (g f : Group) → IsGroup g → IsGroup f → CanJoin g f → IsGroup (made_least (joined g f))
group_joined g f i j c =
    let s = sound_least (2 ^ (length g.qubits + length f.qubits)) (product_of g.nums f.nums) (g.h + f.h) (sound_joined g f i j) in
    let size : length (g.qubits ++ f.qubits) ≡ length g.qubits + length f.qubits = length-append g.qubits f.qubits in
    let level = joined_level g f i j in
    record {
      some = let a = i.some in omega arith;
      few = let b = c.few in omega arith;
      distinct = c.apart;
      whole = s.whole ∙ ap (λ n. 2 ^ n) (sym size);
      limit = exponent_of_level (made_least (joined g f)).nums (made_least (joined g f)).h (let d = c.levels in omega (arith, level, d));
      least = least_is_least (g.h + f.h) (product_of g.nums f.nums);
      nonzero = s.nonzero;
      bound = s.bound;
    }

-- the same with these numerators and this exponent
pub group_joined_with : (g f : Group) (qs : List ℕ) (xs nums : List Amp) (h : ℕ) → IsGroup g → IsGroup f → CanJoin g f
    → qs ≡ g.qubits ++ f.qubits → xs ≡ product_of g.nums f.nums → nums ≡ (least_over xs (g.h + f.h)).nums → h ≡ (least_over xs (g.h + f.h)).h
    → IsGroup (record { qubits = qs; nums = nums; h = h })
group_joined_with g f qs xs nums h i j c same_qubits same_nums d e =
    subst (λ t. IsGroup (record { qubits = t; nums = nums; h = h })) (sym same_qubits)
    (group_with (joined g f) (least_over (product_of g.nums f.nums) (g.h + f.h)) nums h (group_joined g f i j c)
    (d ∙ ap (λ t. (least_over t (g.h + f.h)).nums) same_nums) (e ∙ ap (λ t. (least_over t (g.h + f.h)).h) same_nums))

-- at most 4,096 numerators
pub few_places : (g : Group) → IsGroup g → length g.nums ≤ 4096
few_places g i = let most : 2 ^ length g.qubits ≤ 2 ^ 12 = pow_mono i.few in omega (arith, i.whole)

-- so does a projection on an outcome
pub group_projected_least : (g : Group) (ps : List ℕ) (m : ℕ) → IsGroup g → is_outcome ps (state_of g) m ≡ true → IsGroup (made_least (projection ps m g))
group_projected_least g ps m i outcome =
    group_made_least g (projected ps m (state_of g)).nums g.h i (sound_projected (length g.qubits) g.h ps m g.nums (sound_group g i) outcome) i.limit
