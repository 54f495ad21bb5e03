-- Products and sums over the places of a list are those over the factors that stand there.
use Rattle.std.proofs.Common.{◌≡◌, ℕ, zero, suc, ◌+◌, ◌-◌, ◌≤◌, List, [], ◌∷◌, length, Option, Some, None, refl, sym, ap, subst, arith, ◌∙◌}
use Rattle.cqp_ring.specs.declared.amp.Amp.{Amp}
use Rattle.cqp_ring.specs.Amp.{amp_product}
use Rattle.cqp_ring.proofs.NormLemmas.{amp_product_assoc}
use Rattle.cqp_vector.specs.Least.{root2_power}
use Rattle.cqp_machine.specs.Factors.{Held}
use Rattle.cqp_machine.specs.Sums.{amp_in, exponents, h_in, product_below, sum_below, whole_amp}
use Rattle.cqp_products.proofs.ProductHalf.{one_times, times_one}
use Rattle.cqp_groups.specs.Groups.{as_cells, factors_in, groups_in}
use Rattle.cqp_groups.specs.States.{TellFactors, amp_of_factors, h_of_factors}

-- a product with its first number in front
first_product : (n : ℕ) (f : ℕ → Amp) → product_below (suc n) f ≡ amp_product (f 0) (product_below n (λ g. f (suc g)))
first_product zero f = one_times (f 0) ∙ sym (times_one (f 0))
first_product (suc n) f =
    ap (λ z. amp_product z (f (suc n))) (first_product n f)
    ∙ amp_product_assoc (f 0) (product_below n (λ g. f (suc g))) (f (suc n))

-- a sum with its first number in front
first_sum : (n : ℕ) (f : ℕ → ℕ) → sum_below (suc n) f ≡ f 0 + sum_below n (λ g. f (suc g))
first_sum zero f = omega arith
first_sum (suc n) f = let less = first_sum n f in omega arith

-- nothing more
none_more : (n : ℕ) → 0 + n ≡ n
none_more n = omega arith

-- the product over the places is that over the factors
product_is : (n k : ℕ) (slots : List (Option Held)) → product_below (length slots) (λ g. amp_in n k (groups_in slots g)) ≡ amp_of_factors n k (factors_in slots)
product_is n k [] = refl
product_is n k (None ∷ slots) =
    first_product (length slots) (λ g. amp_in n k (groups_in (None ∷ slots) g))
    ∙ (one_times (product_below (length slots) (λ g. amp_in n k (groups_in slots g))) ∙ product_is n k slots)
product_is n k (Some G ∷ slots) =
    first_product (length slots) (λ g. amp_in n k (groups_in (Some G ∷ slots) g))
    ∙ ap (amp_product (amp_in n k (Some G))) (product_is n k slots)

-- the sum over the places is that over the factors
sum_is : (slots : List (Option Held)) → sum_below (length slots) (λ g. h_in (groups_in slots g)) ≡ h_of_factors (factors_in slots)
sum_is [] = refl
sum_is (None ∷ slots) = first_sum (length slots) (λ g. h_in (groups_in (None ∷ slots) g))
    ∙ (none_more (sum_below (length slots) (λ g. h_in (groups_in slots g))) ∙ sum_is slots)
sum_is (Some G ∷ slots) =
    first_sum (length slots) (λ g. h_in (groups_in (Some G ∷ slots) g)) ∙ ap (λ z. G.h + z) (sum_is slots)

-- the factors of a state's groups are those of the state
pub factors_told : (slots : List (Option Held)) → TellFactors slots (factors_in slots)
factors_told slots h s x =
    let hs : exponents s.qubits (as_cells slots) ≡ h_of_factors (factors_in slots) =
    ap (λ n. exponents n (as_cells slots)) (sym x.places) ∙ sum_is slots in
    record {
      within = subst (λ e. e ≤ h) hs x.stands.within;
      numerators = λ k small.
          x.stands.reads k small
          ∙ (ap (λ e. amp_product (root2_power (h - e)) (whole_amp s.qubits (as_cells slots) k)) hs
          ∙ ap (amp_product (root2_power (h - h_of_factors (factors_in slots))))
          (ap (λ n. product_below n (λ g. amp_in s.qubits k (groups_in slots g))) (sym x.places) ∙ product_is s.qubits k slots));
    }
