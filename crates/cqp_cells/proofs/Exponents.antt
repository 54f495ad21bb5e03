-- The exponent is the least number that its definition asks for, and the only one.
use Rattle.std.proofs.Common.{◌≡◌, ℕ, zero, suc, ◌-◌, ◌≤◌, ◌%◌, List, [], ◌∷◌, map, Bool, true, false, refl, sym, ap, ◌∙◌, subst, arith}
use Rattle.std.specs.Prelude.{◌==◌, ◌&&◌, if◌then◌else◌, ℤ, nat_abs, ◌+ℤ◌, ◌-ℤ◌}
use Rattle.std.specs.List.{list_all, AllByRecursion}
use Rattle.std.proofs.lemmas.Bool.Decides.{nat_tests}
use Rattle.std.proofs.lemmas.Int.{ints}
use Rattle.cqp_ring.specs.declared.amp.Amp.{Amp}
use Rattle.cqp_ring.specs.Amp.{amp_product, one_amp, root2_amp, IsSameParity}
use Rattle.cqp_ring.proofs.Integers.{same_amp}
use Rattle.cqp_ring.proofs.NormLemmas.{amp_product_assoc}
use Rattle.cqp_ring.proofs.HalfLemmas.{root2_times_halves, divided_parities}
use Rattle.cqp_vector.specs.State.{State}
use Rattle.cqp_cells.specs.Exponent.{IsPowerTimes, IsExponent, exponent_of}
use Rattle.cqp_vector.specs.Least.{root2_power, least_over}
use Rattle.cqp_ring.specs.Parity.{is_root2_times, over_root2, half_of}
use Rattle.cqp_cells.proofs.Options.{both_true}

-- numbers that pass the test of equality are equal
number_test : (x y : ℕ) → (x == y) ≡ true → x ≡ y
number_test x y h = grind (arith, nat_tests)

-- equal numbers pass the test
test_number : (x y : ℕ) → x ≡ y → (x == y) ≡ true
test_number x y h = grind (arith, nat_tests)

-- what passes the test is root 2 times its quotient
root2_times_quotient : (x : Amp) → is_root2_times x ≡ true → amp_product root2_amp (over_root2 x) ≡ x
root2_times_quotient x h =
    let tests = both_true (nat_abs x.a % 2 == nat_abs x.c % 2) (nat_abs x.b % 2 == nat_abs x.d % 2) h in
    let a_c : IsSameParity x.a x.c = number_test (nat_abs x.a % 2) (nat_abs x.c % 2) tests.0 in
    let b_d : IsSameParity x.b x.d = number_test (nat_abs x.b % 2) (nat_abs x.d % 2) tests.1 in
    let c_a : IsSameParity x.c x.a = omega (arith, a_c) in
    root2_times_halves x (over_root2 x) (record {
      a_is = twice_difference x.b x.d b_d;
      b_is = twice_sum x.a x.c a_c;
      c_is = twice_sum x.b x.d b_d;
      d_is = twice_difference x.c x.a c_a;
    })
  where
    twice_sum : (u v : ℤ) → IsSameParity u v → half_of (u +ℤ v) +ℤ half_of (u +ℤ v) ≡ u +ℤ v
    twice_sum u v same = omega (arith, ints)

    twice_difference : (u v : ℤ) → IsSameParity u v → half_of (u -ℤ v) +ℤ half_of (u -ℤ v) ≡ u -ℤ v
    twice_difference u v same = omega (arith, ints)

-- root 2 times a number passes the test, and that number is its quotient
product_passes : (y : Amp) → is_root2_times (amp_product root2_amp y) ≡ true
product_passes y =
    let h = divided_parities (amp_product root2_amp y) (y, refl) in
    let x = amp_product root2_amp y in
    let one : (nat_abs x.a % 2 == nat_abs x.c % 2) ≡ true = test_number (nat_abs x.a % 2) (nat_abs x.c % 2) h.a_c in
    let two : (nat_abs x.b % 2 == nat_abs x.d % 2) ≡ true = test_number (nat_abs x.b % 2) (nat_abs x.d % 2) h.b_d in
    rw one two

-- the quotient of root 2 times a numerator is it
quotient_of_product : (y : Amp) → over_root2 (amp_product root2_amp y) ≡ y
quotient_of_product y = same_amp (omega (arith, ints)) (omega (arith, ints)) (omega (arith, ints)) (omega (arith, ints))

-- 1 times a numerator is it
one_times : (x : Amp) → amp_product one_amp x ≡ x
one_times x = same_amp (omega (arith, ints)) (omega (arith, ints)) (omega (arith, ints)) (omega (arith, ints))

-- what is root 2 times another passes the test, and that one is its quotient
passes_of : (x z : Amp) → amp_product root2_amp z ≡ x → is_root2_times x ≡ true
passes_of x z e = subst (λ u. is_root2_times u ≡ true) e (product_passes z)

-- there is one quotient by root 2
quotient_of : (x z : Amp) → amp_product root2_amp z ≡ x → over_root2 x ≡ z
quotient_of x z e = ap over_root2 (sym e) ∙ quotient_of_product z

-- one more root 2 in front
one_more : (j : ℕ) (x : Amp) → is_root2_times x ≡ true → IsPowerTimes j (over_root2 x) → IsPowerTimes (suc j) x
one_more j x passes (y, is) = (y, amp_product_assoc root2_amp (root2_power j) y ∙ ap (λ z. amp_product root2_amp z) is ∙ root2_times_quotient x passes)

-- a multiple of j + 1 powers of root 2 is divided by one of them
one_less : (j : ℕ) (x : Amp) → IsPowerTimes (suc j) x → (is_root2_times x ≡ true) × IsPowerTimes j (over_root2 x)
one_less j x (y, is) =
    let z : Amp = amp_product (root2_power j) y in
    let whole : amp_product root2_amp z ≡ x = sym (amp_product_assoc root2_amp (root2_power j) y) ∙ is in
    (passes_of x z whole, (y, sym (quotient_of x z whole)))

-- what is j powers after a division is j + 1 powers before it
all_more : (j : ℕ) (xs : List Amp) → list_all is_root2_times xs ≡ true → AllByRecursion (IsPowerTimes j) (map over_root2 xs)
    → AllByRecursion (IsPowerTimes (suc j)) xs
all_more j [] h all = tt
all_more j (x ∷ xs) h all =
    let tests = both_true (is_root2_times x) (list_all is_root2_times xs) h in
    (one_more j x tests.0 all.0, all_more j xs tests.1 all.1)

-- and the other way round
all_less : (j : ℕ) (xs : List Amp) → AllByRecursion (IsPowerTimes (suc j)) xs
    → (list_all is_root2_times xs ≡ true) × AllByRecursion (IsPowerTimes j) (map over_root2 xs)
all_less j [] all = (refl, tt)
all_less j (x ∷ xs) all =
    let first = one_less j x all.0 in
    let rest = all_less j xs all.1 in
    (both first.0 rest.0, (first.1, rest.1))
  where
    both : {a b : Bool} → a ≡ true → b ≡ true → (a && b) ≡ true
    both p q = cc

-- every numerator is (root 2)^0 times itself
all_whole : (xs : List Amp) → AllByRecursion (IsPowerTimes 0) xs
all_whole [] = tt
all_whole (x ∷ xs) = ((x, one_times x), all_whole xs)

-- the least number for a list of numerators
record IsLeastFor (k : ℕ) (xs : List Amp) (e : ℕ) : Type 0 where
  within : e ≤ k
  divided : AllByRecursion (IsPowerTimes (k - e)) xs
  least : (f : ℕ) → f ≤ k → AllByRecursion (IsPowerTimes (k - f)) xs → e ≤ f

-- making least finds the least exponent
least_for : (k : ℕ) (xs : List Amp) → IsLeastFor k xs (least_over xs k).h
least_for zero xs = record { within = omega arith; divided = all_whole xs; least = λ f le h. at_least f }
  where
    at_least : (f : ℕ) → 0 ≤ f
    at_least f = omega arith
least_for (suc k) xs = by_test (list_all is_root2_times xs) refl (least_for k (map over_root2 xs))
  where
    by_test : (b : Bool) → list_all is_root2_times xs ≡ b → IsLeastFor k (map over_root2 xs) (least_over (map over_root2 xs) k).h
        → IsLeastFor (suc k) xs (if b then least_over (map over_root2 xs) k else record { nums = xs; h = suc k }).h
    by_test true h more = record {
      within = omega (arith, more.within);
      divided = subst (λ j. AllByRecursion (IsPowerTimes j) xs) (up (least_over (map over_root2 xs) k).h more.within)
          (all_more (k - (least_over (map over_root2 xs) k).h) xs h more.divided);
      least = λ f le all. later f le all;
    }
      where
        up : (e : ℕ) → e ≤ k → suc (k - e) ≡ suc k - e
        up e le = omega arith

        later : (f : ℕ) → f ≤ suc k → AllByRecursion (IsPowerTimes (suc k - f)) xs → (least_over (map over_root2 xs) k).h ≤ f
        later f le all = by_order (f == suc k) refl
          where
            by_order : (b : Bool) → (f == suc k) ≡ b → (least_over (map over_root2 xs) k).h ≤ f
            by_order true e = let is : f ≡ suc k = number_test f (suc k) e in omega (arith, more.within, is)
            by_order false e =
                let low : f ≤ k = grind (arith, nat_tests) in
                more.least f low (all_less (k - f) xs (subst (λ j. AllByRecursion (IsPowerTimes j) xs) (sym (up f low)) all)).1
    by_test false h more = record {
      within = omega arith;
      divided = subst (λ j. AllByRecursion (IsPowerTimes j) xs) (none k) (all_whole xs);
      least = λ f le all. last f le all;
    }
      where
        none : (n : ℕ) → 0 ≡ suc n - suc n
        none n = omega arith

        last : (f : ℕ) → f ≤ suc k → AllByRecursion (IsPowerTimes (suc k - f)) xs → suc k ≤ f
        last f le all = by_order (f == suc k) refl
          where
            up : (e : ℕ) → e ≤ k → suc k - e ≡ suc (k - e)
            up e g = omega arith

            wrong : false ≡ true → ⊥
            wrong g = cc

            by_order : (b : Bool) → (f == suc k) ≡ b → suc k ≤ f
            by_order true e = let is : f ≡ suc k = number_test f (suc k) e in omega (arith, is)
            by_order false e =
                let low : f ≤ k = grind (arith, nat_tests) in
                absurd (wrong (sym h ∙ (all_less (k - f) xs (subst (λ j. AllByRecursion (IsPowerTimes j) xs) (up f low) all)).0))

-- the exponent is the least number of its definition
pub exponent_is : (k : ℕ) (s : State) → IsExponent k s (exponent_of k s)
exponent_is k s = let is = least_for k s.nums in record { within = is.within; divided = is.divided; least = is.least }

-- and no other is
pub one_exponent : (k : ℕ) (s : State) (e f : ℕ) → IsExponent k s e → IsExponent k s f → e ≡ f
one_exponent k s e f is also = omega (arith, is.least f also.within also.divided, also.least e is.within is.divided)
