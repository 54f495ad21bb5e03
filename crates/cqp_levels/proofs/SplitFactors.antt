-- The pieces of a split are factors again.
use Rattle.std.proofs.Common.{◌≡◌, ◌≢◌, inl, inr, ℕ, true, false, List, ◌-◌, ◌<◌, length, Some, None, refl, sym, ap, subst, ◌∙◌, ⊎_elim}
use Rattle.std.specs.List.{list_all}
use Rattle.std.proofs.lemmas.Bool.{cases_Bool, both_ways}
use Rattle.cqp_ring.specs.declared.amp.Amp.{Amp}
use Rattle.cqp_ring.specs.declared.root.Root.{Root}
use Rattle.cqp_ring.specs.Amp.{amp_product, root2_amp}
use Rattle.cqp_ring.specs.Root.{root_product, one_root, zero_root, norm_sum}
use Rattle.cqp_ring.specs.Weight.{power_root}
use Rattle.cqp_ring.specs.Parity.{is_root2_times, over_root2}
use Rattle.cqp_ring.proofs.NormLemmas.{amp_product_assoc}
use Rattle.cqp_ring.proofs.ParityLemmas.{divides_both_ways, root2_times_quotient}
use Rattle.cqp_ring.proofs.OrderProducts.{root_product_comm, cancelled}
use Rattle.cqp_vector.specs.State.{State, amp_at}
use Rattle.cqp_vector.specs.Measurement.{outcome_at}
use Rattle.cqp_vector.specs.Group.{IsWithin}
use Rattle.cqp_vector.specs.Least.{IsLeastOver}
use Rattle.cqp_vector.proofs.LeastLemmas.{IsSound}
use Rattle.cqp_machine.specs.Factors.{Held}
use Rattle.cqp_machine.specs.Cells.{Cells, with_at}
use Rattle.cqp_machine.specs.Sums.{exponents}
use Rattle.cqp_fresh.specs.Partition.{Groups}
use Rattle.cqp_fresh.proofs.Partition.{name_made}
use Rattle.cqp_norms.proofs.OutcomeHalf.{times_none}
use Rattle.cqp_norms.proofs.Probability.{norm_stands, power_some}
use Rattle.cqp_norms.specs.StateStands.{StateStands}
use Rattle.cqp_levels.proofs.SplitNorms.{norm_product, norm_taken, one_times}
use Rattle.cqp_products.proofs.Remainders.{first_failing, fails_there, passes_at}
use Rattle.cqp_levels.proofs.KeptFactors.{AreFactors}
use Rattle.cqp_norms.proofs.Witness.{witness, stands_at}

-- root 2 divides a product where it divides a factor
divided_product : (x y : Amp) → is_root2_times x ≡ true → is_root2_times (amp_product x y) ≡ true
divided_product x y h =
    (divides_both_ways (amp_product x y)).1 (
      amp_product (over_root2 x) y,
      sym (amp_product_assoc root2_amp (over_root2 x) y)
          ∙ ap (λ t. amp_product t y) (root2_times_quotient x h),
    )

-- norms that are equal times one that isn't 0
pub same_factor : (a b r p : Root) → r ≢ zero_root → p ≡ one_root → root_product a (root_product p r) ≡ root_product b r → a ≡ b
same_factor a b r p some one e =
    cancelled r a b some (root_product_comm r a ∙ (ap (root_product a) (sym (ap (λ t. root_product t r) one ∙ one_times r)) ∙ (e ∙ root_product_comm b r)))

module _ (c : Cells) (h : ℕ) (s : State) (x : StateStands c h s) (some : norm_sum s.nums ≢ zero_root) (factors : AreFactors c.groups)
    (k : ℕ) (G : Held) (there : c.groups k ≡ Some G) where
  -- numerators of which the group's are multiples are least with it
  pub least_with : (xs : List Amp) → ((i : ℕ) → (j : ℕ) × (y : Amp) × (amp_at G.nums (outcome_at s.qubits G.qubits i) ≡ amp_product (amp_at xs j) y))
      → IsLeastOver xs G.h
  least_with xs multiples = ⊎_elim
      (λ (e : G.h ≡ 0). inl e)
      (λ (u : list_all is_root2_times G.nums ≡ false). inr (⊎_elim
      (λ (all : list_all is_root2_times xs ≡ true).
      let fails = fails_there is_root2_times G.nums u in
      let at = stands_at c h s x (λ F. first_failing is_root2_times F.nums) k G there
      (subst (λ n. first_failing is_root2_times G.nums < n) (factors k G there).sound.whole fails.0) in
      let multiple = multiples (witness c h s x (λ F. first_failing is_root2_times F.nums)) in
      let passes : is_root2_times (amp_at G.nums (outcome_at s.qubits G.qubits (witness c h s x (λ F. first_failing is_root2_times F.nums)))) ≡ true =
      ap is_root2_times multiple.2 ∙ divided_product (amp_at xs multiple.0) multiple.1 (passes_at is_root2_times xs multiple.0 refl all) in
      absurd (both_ways (is_root2_times (amp_at G.nums (first_failing is_root2_times G.nums))) fails.1 (ap (λ j. is_root2_times (amp_at G.nums j)) (sym at)
      ∙ passes)))
      (λ (n : list_all is_root2_times xs ≡ false). n)
      (cases_Bool (list_all is_root2_times xs))))
      (factors k G there).least

  -- numerators with the group's norm are sound with it
  pub sound_with : (n : ℕ) (xs : List Amp) → length xs ≡ n → norm_sum xs ≡ norm_sum G.nums → IsSound n xs G.h
  sound_with n xs whole same = record {
    whole = whole;
    nonzero = λ e. (factors k G there).sound.nonzero (sym same ∙ e);
    bound = subst (λ r. IsWithin r G.h) (sym same) (factors k G there).sound.bound;
  }

  -- the other groups' norms aren't 0
  pub others_some : norm_product s.qubits (with_at k None c.groups) ≢ zero_root
  others_some e = some (
      norm_stands c h s x
      ∙ (ap (root_product (power_root (h - exponents s.qubits c)))
      (norm_taken s.qubits k G c.groups (name_made s.qubits c.groups x.own x.partition k G there) there
      ∙ (ap (root_product (norm_sum G.nums)) e ∙ times_none (norm_sum G.nums)))
      ∙ times_none (power_root (h - exponents s.qubits c))))

  -- groups that stand for the same state with the same exponents' sum have the same norms
  pub same_norms : (m : Groups) → StateStands (record c { groups = m }) h s → exponents s.qubits (record c { groups = m }) ≡ exponents s.qubits c
      → norm_product s.qubits m ≡ norm_product s.qubits c.groups
  same_norms m y e =
      let told : root_product (power_root (h - exponents s.qubits c)) (norm_product s.qubits m)
      ≡ root_product (power_root (h - exponents s.qubits c)) (norm_product s.qubits c.groups) =
      ap (λ t. root_product (power_root (h - t)) (norm_product s.qubits m)) (sym e)
      ∙ (sym (norm_stands (record c { groups = m }) h s y) ∙ norm_stands c h s x) in
      cancelled (power_root (h - exponents s.qubits c)) (norm_product s.qubits m) (norm_product s.qubits c.groups) (power_some (h - exponents s.qubits c)) told
