-- The sixteen patterns of the parities of four parts, and what the pattern of a product tells.
use Rattle.std.proofs.Common.{◌≡◌, Bool, true, false, refl, ap}
use Rattle.std.specs.Prelude.{◌&&◌, ◌||◌, not}
use Rattle.std.proofs.lemmas.Bool.{and_parts}

-- the parities of four parts, true where a part is odd
pub record Pattern : Type 0 where
  pub a : Bool
  pub b : Bool
  pub c : Bool
  pub d : Bool

-- exactly one of two is true
abbrev pub differ : Bool → Bool → Bool
differ true y = not y
differ false y = y

-- both are odd, or both are even
abbrev pub agree : Bool → Bool → Bool
agree x y = not (differ x y)

-- the pattern of a product
abbrev pub product_pattern : Pattern → Pattern → Pattern
product_pattern x y = record {
  a = differ (differ (differ (x.a && y.a) (x.b && y.d)) (x.c && y.c)) (x.d && y.b);
  b = differ (differ (differ (x.a && y.b) (x.b && y.a)) (x.c && y.d)) (x.d && y.c);
  c = differ (differ (differ (x.a && y.c) (x.b && y.b)) (x.c && y.a)) (x.d && y.d);
  d = differ (differ (differ (x.a && y.d) (x.b && y.c)) (x.c && y.b)) (x.d && y.a);
}

-- the sum of the parts is odd
abbrev pub odd_pattern : Pattern → Bool
odd_pattern x = differ (differ (differ x.a x.b) x.c) x.d

-- root 2 divides
abbrev pub root2_pattern : Pattern → Bool
root2_pattern x = agree x.a x.c && agree x.b x.d

-- the sum of the parts of the quotient by root 2 is odd
abbrev pub quotient_pattern : Pattern → Bool
quotient_pattern x = differ x.b x.c

-- ---- tests over all patterns
-- the test passes for both truth values
abbrev each_bool : (Bool → Bool) → Bool
each_bool f = f true && f false

-- the test passes for all sixteen patterns
abbrev each_pattern : (Pattern → Bool) → Bool
each_pattern f =
    each_bool (λ a. each_bool (λ b. each_bool (λ c. each_bool (λ d.
    f (record { a = a; b = b; c = c; d = d })))))

-- what passes for both truth values passes for each
at_bool : (f : Bool → Bool) → each_bool f ≡ true → (b : Bool) → f b ≡ true
at_bool f all true = (and_parts _ _ all).0
at_bool f all false = (and_parts _ _ all).1

-- what passes for all patterns passes for each
at_pattern : (f : Pattern → Bool) → each_pattern f ≡ true → (x : Pattern) → f x ≡ true
at_pattern f all x =
    at_bool (λ d. f (record { a = x.a; b = x.b; c = x.c; d = d }))
    (at_bool (λ c. each_bool (λ d. f (record { a = x.a; b = x.b; c = c; d = d })))
    (at_bool (λ b. each_bool (λ c. each_bool (λ d. f (record { a = x.a; b = b; c = c; d = d }))))
    (at_bool (λ a. each_bool (λ b. each_bool (λ c. each_bool (λ d. f (record { a = a; b = b; c = c; d = d })))))
    all x.a) x.b) x.c) x.d

-- what passes for all pairs of patterns passes for each pair
at_pair : (f : Pattern → Pattern → Bool) → each_pattern (λ x. each_pattern (f x)) ≡ true → (x y : Pattern) → f x y ≡ true
at_pair f all x y = at_pattern (f x) (at_pattern (λ t. each_pattern (f t)) all x) y

-- parities that agree are equal
agree_same : (x y : Bool) → agree x y ≡ true → x ≡ y
agree_same true true e = refl
agree_same true false e = cc
agree_same false true e = cc
agree_same false false e = refl

-- the second holds where one of two holds and the first doesn't
or_else : (x y : Bool) → (x || y) ≡ true → x ≡ false → y ≡ true
or_else true y e f = cc
or_else false y e f = e

-- ---- the three facts, each over 256 pairs
-- the sum of the product is odd exactly where both sums are
abbrev sums_test : Pattern → Pattern → Bool
sums_test x y = agree (odd_pattern (product_pattern x y)) (odd_pattern x && odd_pattern y)

-- with an odd and an even sum, root 2 divides the product exactly where it divides the even one
abbrev mixed_test : Pattern → Pattern → Bool
mixed_test x y = (not (odd_pattern x) || odd_pattern y) || agree (root2_pattern (product_pattern x y)) (root2_pattern y)

-- with two even sums root 2 divides the product
abbrev even_test : Pattern → Pattern → Bool
even_test x y = (odd_pattern x || odd_pattern y) || root2_pattern (product_pattern x y)

-- with two even sums the quotient's sum is odd exactly where root 2 divides neither
abbrev quotient_test : Pattern → Pattern → Bool
quotient_test x y = (odd_pattern x || odd_pattern y) || agree (quotient_pattern (product_pattern x y)) (not (root2_pattern x) && not (root2_pattern y))

-- the sum of a product is odd exactly where both sums are
pub sums_pattern : (x y : Pattern) → odd_pattern (product_pattern x y) ≡ (odd_pattern x && odd_pattern y)
sums_pattern x y = agree_same _ _ (at_pair sums_test refl x y)

-- where both are false, so is one of them
neither : (x y : Bool) → x ≡ false → y ≡ false → (x || y) ≡ false
neither x y e f = cc

-- what is true isn't false when negated
odd_not : (x : Bool) → x ≡ true → not x ≡ false
odd_not x e = ap not e

-- root 2 divides the product of an odd sum and an even one exactly where it divides that one
pub mixed_pattern : (x y : Pattern) → odd_pattern x ≡ true → odd_pattern y ≡ false → root2_pattern (product_pattern x y) ≡ root2_pattern y
mixed_pattern x y e f =
    agree_same _ _ (or_else _ _ (at_pair mixed_test refl x y) (neither _ _ (odd_not _ e) f))

-- root 2 divides the product of two even sums
pub even_patterns : (x y : Pattern) → odd_pattern x ≡ false → odd_pattern y ≡ false → root2_pattern (product_pattern x y) ≡ true
even_patterns x y e f = or_else _ _ (at_pair even_test refl x y) (neither _ _ e f)

-- the quotient of such a product has an odd sum exactly where root 2 divides neither
pub quotient_patterns : (x y : Pattern) → odd_pattern x ≡ false → odd_pattern y ≡ false
    → quotient_pattern (product_pattern x y) ≡ (not (root2_pattern x) && not (root2_pattern y))
quotient_patterns x y e f = agree_same _ _ (or_else _ _ (at_pair quotient_test refl x y) (neither _ _ e f))

-- a number that root 2 divides has an even sum
pub root2_even : (x : Pattern) → root2_pattern x ≡ true → odd_pattern x ≡ false
root2_even x e = agree_same _ _ (or_else _ _ (at_pattern (λ t. not (root2_pattern t) || agree (odd_pattern t) false) refl x) (odd_not _ e))
