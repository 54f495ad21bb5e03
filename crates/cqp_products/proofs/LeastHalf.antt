-- Making a group least takes a power of root 2 out of its numerators.
use Rattle.std.proofs.Common.{◌≡◌, ℕ, zero, suc, true, false, List, [], ◌∷◌, ◌-◌, ◌≤◌, length, map, refl, sym, ap, arith, ◌∙◌, ⊎_elim}
use Rattle.std.proofs.lemmas.Bool.{cases_Bool, and_parts}
use Rattle.std.proofs.lemmas.Int.{ints}
use Rattle.std.specs.List.{list_all}
use Rattle.std.proofs.lemmas.List.{length-map}
use Rattle.cqp_ring.specs.declared.amp.Amp.{Amp}
use Rattle.cqp_ring.specs.Amp.{amp_product, root2_amp}
use Rattle.cqp_ring.proofs.Integers.{same_amp}
use Rattle.cqp_ring.proofs.NormLemmas.{amp_product_assoc}
use Rattle.cqp_vector.specs.State.{amp_at}
use Rattle.cqp_ring.specs.Parity.{is_root2_times, over_root2}
use Rattle.cqp_ring.proofs.ParityLemmas.{root2_times_quotient}
use Rattle.cqp_vector.specs.Least.{root2_power, least_over}
use Rattle.cqp_products.proofs.ProductHalf.{one_times}

-- the exponent isn't raised
pub least_within : (nums : List Amp) (h : ℕ) → (least_over nums h).h ≤ h
least_within nums zero = omega arith
least_within nums (suc h) = ⊎_elim
    (λ (t : list_all is_root2_times nums ≡ true). rw t (let later = least_within (map over_root2 nums) h in omega arith))
    (λ (t : list_all is_root2_times nums ≡ false). rw t (omega arith))
    (cases_Bool (list_all is_root2_times nums))

-- as many numerators are left
pub length-least : (nums : List Amp) (h : ℕ) → length (least_over nums h).nums ≡ length nums
length-least nums zero = refl
length-least nums (suc h) = ⊎_elim
    (λ (t : list_all is_root2_times nums ≡ true). rw t (length-least (map over_root2 nums) h ∙ length-map nums over_root2))
    (λ (t : list_all is_root2_times nums ≡ false). rw t refl)
    (cases_Bool (list_all is_root2_times nums))

-- root 2 times the quotients
all_quotients : (nums : List Amp) (j : ℕ) → list_all is_root2_times nums ≡ true → amp_at nums j ≡ amp_product root2_amp (amp_at (map over_root2 nums) j)
all_quotients [] j h = same_amp (omega (arith, ints)) (omega (arith, ints)) (omega (arith, ints)) (omega (arith, ints))
all_quotients (x ∷ nums) zero h = sym (root2_times_quotient x (and_parts (is_root2_times x) (list_all is_root2_times nums) h).0)
all_quotients (x ∷ nums) (suc j) h = all_quotients nums j (and_parts (is_root2_times x) (list_all is_root2_times nums) h).1

-- the numerators are the least ones times the power that was taken
pub least_reads : (nums : List Amp) (h j : ℕ)
    → amp_at nums j ≡ amp_product (root2_power (h - (least_over nums h).h)) (amp_at (least_over nums h).nums j)
least_reads nums zero j = sym (one_times (amp_at nums j))
least_reads nums (suc h) j = ⊎_elim
    (λ (t : list_all is_root2_times nums ≡ true).
    let within = least_within (map over_root2 nums) h in
    let place : suc h - (least_over (map over_root2 nums) h).h ≡ suc (h - (least_over (map over_root2 nums) h).h) = omega arith in
    let x = amp_at (least_over (map over_root2 nums) h).nums j in
    let all : amp_at nums j
    ≡ amp_product (root2_power (suc (h - (least_over (map over_root2 nums) h).h))) (amp_at (least_over (map over_root2 nums) h).nums j) =
    all_quotients nums j t
    ∙ (ap (amp_product root2_amp) (least_reads (map over_root2 nums) h j)
    ∙ sym (amp_product_assoc root2_amp (root2_power (h - (least_over (map over_root2 nums) h).h)) (amp_at (least_over (map over_root2 nums) h).nums j))) in
    rw t (all ∙ ap (λ n. amp_product (root2_power n) (amp_at (least_over (map over_root2 nums) h).nums j)) (sym place)))
    (λ (t : list_all is_root2_times nums ≡ false).
    let place : 0 ≡ suc h - suc h = omega arith in
    rw t (sym (one_times (amp_at nums j)) ∙ ap (λ n. amp_product (root2_power n) (amp_at nums j)) place))
    (cases_Bool (list_all is_root2_times nums))
