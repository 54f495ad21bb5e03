-- What the parities of two numerators tell of their product and of its quotient by root 2.
use Rattle.std.proofs.Common.{◌≡◌, ℕ, ◌%◌, Bool, true, false, refl, ◌∙◌, sym, ap, arith}
use Rattle.std.proofs.Common.{inl, inr, ◌⊎◌}
use Rattle.std.specs.Prelude.{◌==◌, ◌&&◌, not, ℤ, nat_abs, ◌+ℤ◌, ◌-ℤ◌, ◌*ℤ◌, ◌↔◌, IsTrue}
use mathlib.Core.Bool.{beq}
use Rattle.std.proofs.lemmas.Bool.{and_parts, eqb-true, eq-eqb, ne_eqb, and_from}
use Rattle.std.proofs.lemmas.Int.{ints}
use Rattle.cqp_ring.specs.declared.amp.Amp.{Amp}
use Rattle.cqp_ring.specs.Amp.{amp_product, root2_amp, HasParities, IsRoot2Times, IsSameParity}
use Rattle.cqp_ring.specs.Parity.{is_odd, has_odd_sum, is_root2_times, half_of, over_root2}
use Rattle.cqp_ring.proofs.Integers.{same_amp}
use Rattle.cqp_ring.proofs.HalfLemmas.{root2_times_halves, divided_parities}
use Rattle.cqp_ring.proofs.Parities.{odd_of_sum, odd_of_difference, odd_of_product, rest_cases}
use Rattle.cqp_ring.proofs.Patterns.{Pattern, differ, agree, product_pattern, odd_pattern}
use Rattle.cqp_ring.proofs.Patterns.{root2_pattern, quotient_pattern, sums_pattern, mixed_pattern}
use Rattle.cqp_ring.proofs.Patterns.{even_patterns, quotient_patterns, root2_even}

-- the pattern of a numerator
pub pattern_of : Amp → Pattern
pattern_of x = record { a = is_odd x.a; b = is_odd x.b; c = is_odd x.c; d = is_odd x.d }

-- patterns with equal parities are equal
same_pattern : {a b c d e f g h : Bool} → a ≡ e → b ≡ f → c ≡ g → d ≡ h
    → let x : Pattern = record { a = a; b = b; c = c; d = d } in let y : Pattern = record { a = e; b = f; c = g; d = h } in x ≡ y
same_pattern p q r s = cc

-- three differences, three sums
four_differences : (x y z t : ℤ) → is_odd (x -ℤ y -ℤ z -ℤ t) ≡ differ (differ (differ (is_odd x) (is_odd y)) (is_odd z)) (is_odd t)
four_differences x y z t =
    odd_of_difference (x -ℤ y -ℤ z) t
    ∙ ap (λ u. differ u (is_odd t)) (odd_of_difference (x -ℤ y) z ∙ ap (λ u. differ u (is_odd z)) (odd_of_difference x y))

-- the parity of two numbers less two others is that of all four
two_sums : (x y z t : ℤ) → is_odd (x +ℤ y -ℤ z -ℤ t) ≡ differ (differ (differ (is_odd x) (is_odd y)) (is_odd z)) (is_odd t)
two_sums x y z t =
    odd_of_difference (x +ℤ y -ℤ z) t
    ∙ ap (λ u. differ u (is_odd t)) (odd_of_difference (x +ℤ y) z ∙ ap (λ u. differ u (is_odd z)) (odd_of_sum x y))

-- so is that of three less one
three_sums : (x y z t : ℤ) → is_odd (x +ℤ y +ℤ z -ℤ t) ≡ differ (differ (differ (is_odd x) (is_odd y)) (is_odd z)) (is_odd t)
three_sums x y z t =
    odd_of_difference (x +ℤ y +ℤ z) t
    ∙ ap (λ u. differ u (is_odd t)) (odd_of_sum (x +ℤ y) z ∙ ap (λ u. differ u (is_odd z)) (odd_of_sum x y))

-- so is that of four summed
four_sums : (x y z t : ℤ) → is_odd (x +ℤ y +ℤ z +ℤ t) ≡ differ (differ (differ (is_odd x) (is_odd y)) (is_odd z)) (is_odd t)
four_sums x y z t =
    odd_of_sum (x +ℤ y +ℤ z) t
    ∙ ap (λ u. differ u (is_odd t)) (odd_of_sum (x +ℤ y) z ∙ ap (λ u. differ u (is_odd z)) (odd_of_sum x y))

-- equal parities, all four, differ alike
four_same : {p q r s a b c d : Bool} → p ≡ a → q ≡ b → r ≡ c → s ≡ d → differ (differ (differ p q) r) s ≡ differ (differ (differ a b) c) d
four_same {a = a} {b = b} {c = c} {d = d} e f g h = rw (e, f, g, h) refl

-- the pattern of a product is told by the patterns
pub pattern_of_product : (x y : Amp) → pattern_of (amp_product x y) ≡ product_pattern (pattern_of x) (pattern_of y)
unfolding pattern_of
pattern_of_product x y = same_pattern
    (four_differences (x.a *ℤ y.a) (x.b *ℤ y.d) (x.c *ℤ y.c) (x.d *ℤ y.b)
    ∙ four_same (odd_of_product x.a y.a) (odd_of_product x.b y.d) (odd_of_product x.c y.c) (odd_of_product x.d y.b))
    (two_sums (x.a *ℤ y.b) (x.b *ℤ y.a) (x.c *ℤ y.d) (x.d *ℤ y.c)
    ∙ four_same (odd_of_product x.a y.b) (odd_of_product x.b y.a) (odd_of_product x.c y.d) (odd_of_product x.d y.c))
    (three_sums (x.a *ℤ y.c) (x.b *ℤ y.b) (x.c *ℤ y.a) (x.d *ℤ y.d)
    ∙ four_same (odd_of_product x.a y.c) (odd_of_product x.b y.b) (odd_of_product x.c y.a) (odd_of_product x.d y.d))
    (four_sums (x.a *ℤ y.d) (x.b *ℤ y.c) (x.c *ℤ y.b) (x.d *ℤ y.a)
    ∙ four_same (odd_of_product x.a y.d) (odd_of_product x.b y.c) (odd_of_product x.c y.b) (odd_of_product x.d y.a))

-- what the pattern tells
pub sum_by_pattern : (x : Amp) → has_odd_sum x ≡ odd_pattern (pattern_of x)
unfolding pattern_of
sum_by_pattern x = four_sums x.a x.b x.c x.d

-- rests by 2 are equal exactly where the parities agree
rests_agree : (m n : ℕ) → (m % 2 == n % 2) ≡ agree (m % 2 == 1) (n % 2 == 1)
rests_agree m n = by_cases (rest_cases m) (rest_cases n)
  where
    by_cases : (m % 2 ≡ 1) ⊎ (m % 2 ≡ 0) → (n % 2 ≡ 1) ⊎ (n % 2 ≡ 0) → (m % 2 == n % 2) ≡ agree (m % 2 == 1) (n % 2 == 1)
    by_cases (inl e) (inl g) = rw (e, g) refl
    by_cases (inl e) (inr g) = rw (e, g) refl
    by_cases (inr e) (inl g) = rw (e, g) refl
    by_cases (inr e) (inr g) = rw (e, g) refl

-- equal tests pass together alike
both_same : {p q a b : Bool} → p ≡ a → q ≡ b → (p && q) ≡ (a && b)
both_same {a = a} {b = b} e f = rw (e, f) refl

-- whether root 2 divides is read off the pattern
pub root2_by_pattern : (x : Amp) → is_root2_times x ≡ root2_pattern (pattern_of x)
unfolding pattern_of
root2_by_pattern x = both_same (rests_agree (nat_abs x.a) (nat_abs x.c)) (rests_agree (nat_abs x.b) (nat_abs x.d))

-- ---- quotients by root 2
-- what passes the test has these parities
pub has_parities : (x : Amp) → is_root2_times x ≡ true → HasParities x
has_parities x e =
    let t = and_parts _ _ e in
    record { a_c = eqb-true _ _ t.0; b_d = eqb-true _ _ t.1 }

-- parities that agree pass the test of division
pub times_from_parities : (x : Amp) → HasParities x → is_root2_times x ≡ true
times_from_parities x h = and_from _ _ (eq-eqb _ _ h.a_c) (eq-eqb _ _ h.b_d)

-- twice half of a sum of one parity is the sum
sum_halves : (x y : ℤ) → IsSameParity x y → half_of (x +ℤ y) +ℤ half_of (x +ℤ y) ≡ x +ℤ y
sum_halves x y same = omega (arith, ints)

-- twice half of a difference of one parity is the difference
difference_halves : (x y : ℤ) → IsSameParity x y → half_of (x -ℤ y) +ℤ half_of (x -ℤ y) ≡ x -ℤ y
difference_halves x y same = omega (arith, ints)

-- root 2 times the quotient is the numerator, where it divides
pub root2_times_quotient : (x : Amp) → is_root2_times x ≡ true → amp_product root2_amp (over_root2 x) ≡ x
root2_times_quotient x e =
    let h = has_parities x e in
    let swapped : IsSameParity x.c x.a = omega (arith, h.a_c) in
    root2_times_halves x (over_root2 x) (record {
      a_is = difference_halves x.b x.d h.b_d;
      b_is = sum_halves x.a x.c h.a_c;
      c_is = sum_halves x.b x.d h.b_d;
      d_is = difference_halves x.c x.a swapped;
    })

-- the test passes exactly for multiples of root 2
pub divides_both_ways : (x : Amp) → (is_root2_times x ≡ true) ↔ IsRoot2Times x
divides_both_ways x = (λ e. (over_root2 x, root2_times_quotient x e), λ h. times_from_parities x (divided_parities x h))

-- products with root 2 are equal only where the factors are
pub root2_cancelled : (x y : Amp) → amp_product root2_amp x ≡ amp_product root2_amp y → x ≡ y
root2_cancelled x y e =
    let a = ap (λ (t : Amp). t.a) e in
    let b = ap (λ (t : Amp). t.b) e in
    let c = ap (λ (t : Amp). t.c) e in
    let d = ap (λ (t : Amp). t.d) e in
    same_amp (omega (arith, ints, a, b, c, d)) (omega (arith, ints, a, b, c, d)) (omega (arith, ints, a, b, c, d)) (omega (arith, ints, a, b, c, d))

-- the sum of the quotient's parts
quotient_sum : (x y : Amp) → amp_product root2_amp y ≡ x → y.a +ℤ y.b +ℤ y.c +ℤ y.d ≡ x.b +ℤ x.c
quotient_sum x y e =
    let a = ap (λ (t : Amp). t.a) e in
    let b = ap (λ (t : Amp). t.b) e in
    let c = ap (λ (t : Amp). t.c) e in
    let d = ap (λ (t : Amp). t.d) e in
    omega (arith, ints, a, b, c, d)

-- whether the quotient's sum is odd is read off the pattern
pub quotient_by_pattern : (x : Amp) → is_root2_times x ≡ true → has_odd_sum (over_root2 x) ≡ quotient_pattern (pattern_of x)
unfolding pattern_of
quotient_by_pattern x e = ap is_odd (quotient_sum x (over_root2 x) (root2_times_quotient x e)) ∙ odd_of_sum x.b x.c

-- ---- the three facts
-- the sum of a product is odd exactly where both sums are
pub odd_sum_of_product : (x y : Amp) → has_odd_sum (amp_product x y) ≡ (has_odd_sum x && has_odd_sum y)
odd_sum_of_product x y =
    sum_by_pattern (amp_product x y) ∙ ap odd_pattern (pattern_of_product x y) ∙ sums_pattern (pattern_of x) (pattern_of y)
    ∙ sym (both_same (sum_by_pattern x) (sum_by_pattern y))

-- root 2 divides an odd-summed times an even-summed numerator as it divides the second
pub root2_by_even_factor : (x y : Amp) → has_odd_sum x ≡ true → has_odd_sum y ≡ false → is_root2_times (amp_product x y) ≡ is_root2_times y
root2_by_even_factor x y e f =
    root2_by_pattern (amp_product x y) ∙ ap root2_pattern (pattern_of_product x y)
    ∙ mixed_pattern (pattern_of x) (pattern_of y) (sym (sum_by_pattern x) ∙ e) (sym (sum_by_pattern y) ∙ f)
    ∙ sym (root2_by_pattern y)

-- root 2 divides the product of two numerators with even sums
pub root2_of_even_factors : (x y : Amp) → has_odd_sum x ≡ false → has_odd_sum y ≡ false → is_root2_times (amp_product x y) ≡ true
root2_of_even_factors x y e f =
    root2_by_pattern (amp_product x y) ∙ ap root2_pattern (pattern_of_product x y)
    ∙ even_patterns (pattern_of x) (pattern_of y) (sym (sum_by_pattern x) ∙ e) (sym (sum_by_pattern y) ∙ f)

-- equal tests fail together alike
not_both : {p q a b : Bool} → p ≡ a → q ≡ b → (not p && not q) ≡ (not a && not b)
not_both {a = a} {b = b} e f = rw (e, f) refl

-- and the quotient's sum is odd exactly where root 2 divides neither
pub quotient_of_even_factors : (x y : Amp) → has_odd_sum x ≡ false → has_odd_sum y ≡ false
    → has_odd_sum (over_root2 (amp_product x y)) ≡ (not (is_root2_times x) && not (is_root2_times y))
quotient_of_even_factors x y e f =
    quotient_by_pattern (amp_product x y) (root2_of_even_factors x y e f) ∙ ap quotient_pattern (pattern_of_product x y)
    ∙ quotient_patterns (pattern_of x) (pattern_of y) (sym (sum_by_pattern x) ∙ e) (sym (sum_by_pattern y) ∙ f)
    ∙ sym (not_both (root2_by_pattern x) (root2_by_pattern y))

-- a multiple of root 2 has an even sum
pub root2_times_is_even : (x : Amp) → is_root2_times x ≡ true → has_odd_sum x ≡ false
root2_times_is_even x e = sum_by_pattern x ∙ root2_even (pattern_of x) (sym (root2_by_pattern x) ∙ e)

-- ---- the test of an odd sum
-- a test that tells equality is the test of equality
from_test : (s : Bool) (m n : ℕ) → (IsTrue s ↔ (m ≡ n)) → s ≡ (m == n)
from_test true m n h = sym (eq-eqb m n (h.0 refl))
from_test false m n h = sym (ne_eqb m n (λ e. let f : false ≡ true = h.1 e in cc))

-- the parity of four is odd where the two pairs don't agree alike
unlike : (a b c d : Bool) → not (beq (agree a b) (agree c d)) ≡ differ (differ (differ a b) c) d
unlike true true true true = refl
unlike true true true false = refl
unlike true true false true = refl
unlike true true false false = refl
unlike true false true true = refl
unlike true false true false = refl
unlike true false false true = refl
unlike true false false false = refl
unlike false true true true = refl
unlike false true true false = refl
unlike false true false true = refl
unlike false true false false = refl
unlike false false true true = refl
unlike false false true false = refl
unlike false false false true = refl
unlike false false false false = refl

-- the sum is odd exactly where one of the two pairs agrees and the other doesn't
pub odd_sum_test : (x : Amp) (s t : Bool) → (IsTrue s ↔ IsSameParity x.a x.b) → (IsTrue t ↔ IsSameParity x.c x.d) → not (beq s t) ≡ has_odd_sum x
odd_sum_test x s t h g =
    ap (λ u. not (beq u t)) (from_test s _ _ h ∙ rests_agree (nat_abs x.a) (nat_abs x.b))
    ∙ ap (λ u. not (beq (agree (is_odd x.a) (is_odd x.b)) u)) (from_test t _ _ g ∙ rests_agree (nat_abs x.c) (nat_abs x.d))
    ∙ unlike (is_odd x.a) (is_odd x.b) (is_odd x.c) (is_odd x.d)
    ∙ sym (four_sums x.a x.b x.c x.d)

-- the test whether root 2 divides
pub root2_test : (x : Amp) (s t : Bool) → (IsTrue s ↔ IsSameParity x.a x.c) → (IsTrue t ↔ IsSameParity x.b x.d) → (s && t) ≡ is_root2_times x
root2_test x s t h g = both_same (from_test s _ _ h) (from_test t _ _ g)

-- behind a test that passes the second decides
true_and : (s t : Bool) → s ≡ true → t ≡ (s && t)
true_and s t e = rw e refl

-- behind a test that fails the second doesn't matter
false_and : (s t : Bool) → s ≡ false → false ≡ (s && t)
false_and s t e = rw e refl

-- where the first pair agrees, the second decides whether root 2 divides
pub root2_test_then : (x : Amp) (s t : Bool) → s ≡ true → (IsTrue s ↔ IsSameParity x.a x.c) → (IsTrue t ↔ IsSameParity x.b x.d) → t ≡ is_root2_times x
root2_test_then x s t e h g = true_and s t e ∙ root2_test x s t h g

-- where the first pair doesn't agree, root 2 doesn't divide
pub root2_test_else : (x : Amp) (s : Bool) → s ≡ false → (IsTrue s ↔ IsSameParity x.a x.c) → false ≡ is_root2_times x
root2_test_else x s e h = false_and s _ e ∙ both_same (from_test s _ _ h) refl
