-- The groups' levels, by what root 2 leaves of the product of all.
use Rattle.std.proofs.Common.{◌≡◌, ℕ, zero, suc, ◌+◌, ◌*◌, ◌<◌, Bool, true, false, Option, Some, None, refl, sym, ap, subst, arith, ◌∙◌}
use Rattle.std.specs.List.{list_all}
use Rattle.cqp_ring.specs.declared.amp.Amp.{Amp}
use Rattle.cqp_ring.specs.Amp.{one_amp, amp_product}
use Rattle.cqp_ring.specs.Parity.{has_even_sum}
use Rattle.cqp_ring.proofs.NormLemmas.{amp_product_assoc}
use Rattle.cqp_vector.specs.State.{State, amp_at}
use Rattle.cqp_vector.specs.Measurement.{outcome_at}
use Rattle.cqp_vector.specs.Least.{root2_power}
use Rattle.cqp_machine.specs.Factors.{Held}
use Rattle.cqp_machine.specs.Cells.{Cells}
use Rattle.cqp_machine.specs.Sums.{product_below, sum_below, amp_in, h_in, level_in}
use Rattle.cqp_products.proofs.ProductHalf.{one_times, times_one, power_sum}
use Rattle.cqp_norms.specs.StateStands.{StateStands}
use Rattle.cqp_products.proofs.Remainders.{IsOver, halves, Multiplied, multiplied, telling}
use Rattle.cqp_levels.proofs.KeptFactors.{AreFactors, factor_told, level_counts}
use Rattle.cqp_norms.proofs.Witness.{witness, stands_at}

-- powers of root 2 come out of a product
powers_out : (a b : ℕ) (x y p z : Amp) → p ≡ amp_product (root2_power a) x → amp_product x y ≡ amp_product (root2_power b) z
    → amp_product p y ≡ amp_product (root2_power (a + b)) z
powers_out a b x y p z e f =
    ap (λ t. amp_product t y) e
    ∙ (amp_product_assoc (root2_power a) x y
    ∙ (ap (amp_product (root2_power a)) f ∙ (sym (amp_product_assoc (root2_power a) (root2_power b) z) ∙ ap (λ t. amp_product t z) (power_sum a b))))

-- the same numerators have the same over
over_same : (b : Bool) (k : ℕ) (x y : ℕ → Amp) → ((i : ℕ) → x i ≡ y i) → IsOver b k x → IsOver b k y
over_same b k x y e h = subst (IsOver b k) (λ i j. e j i) h

module _ (c : Cells) (h : ℕ) (s : State) (x : StateStands c h s) (factors : AreFactors c.groups) where
  -- the place in each group that tells what is over, and that of the whole state
  abbrev place : Held → ℕ
  place G = telling G.nums

  -- the place at which all groups tell that something is over
  abbrev pub told_at : ℕ
  told_at = witness c h s x (λ G. telling G.nums)

  -- a group's numerator at the places of the whole state
  abbrev of_group : Held → ℕ → Amp
  of_group G k = amp_at G.nums (outcome_at s.qubits G.qubits k)

  -- what is over at a place of the group is over at a place of the whole state where the group stands there
  over_at : (b : Bool) (G : Held) (j k : ℕ) → outcome_at s.qubits G.qubits k ≡ j → IsOver b j (amp_at G.nums) → IsOver b k (of_group G)
  over_at false G j k e f = subst (λ i. IsOver false i (amp_at G.nums)) (sym e) f
  over_at true G j k e f = (λ i. f.0 (outcome_at s.qubits G.qubits i), (subst (λ i. IsOver true i (amp_at G.nums)) (sym e) f).1)

  -- what is over of a group
  group_over : (g : ℕ) (G : Held) → c.groups g ≡ Some G → IsOver (list_all has_even_sum G.nums) told_at (of_group G)
  group_over g G there =
      let f = factors g G there in
      let at = factor_told G f in
      over_at (list_all has_even_sum G.nums) G (telling G.nums) told_at
      (stands_at c h s x (λ G. telling G.nums) g G there (subst (λ n. telling G.nums < n) f.sound.whole at.0)) at.1

  -- what root 2 leaves of the product of the groups below n
  pub record Partial (n : ℕ) : Type 0 where
    pub taken : ℕ
    pub rest : Bool
    pub left : ℕ → Amp
    pub is : (k : ℕ) → product_below n (λ g. amp_in s.qubits k (c.groups g)) ≡ amp_product (root2_power taken) (left k)
    pub over : IsOver rest told_at left
    pub count : sum_below n (λ g. level_in (c.groups g)) + (2 * taken + halves rest) ≡ 2 * sum_below n (λ g. h_in (c.groups g))

  -- one more number, where no group is
  without_one : (n : ℕ) → c.groups n ≡ None → Partial n → Partial (suc n)
  without_one n e p =
      let no_level : level_in (c.groups n) ≡ 0 = ap level_in e in
      let no_h : h_in (c.groups n) ≡ 0 = ap h_in e in
      let before = p.count in
      record {
        taken = p.taken;
        rest = p.rest;
        left = p.left;
        is = λ k. ap (λ y. amp_product (product_below n (λ g. amp_in s.qubits k (c.groups g))) (amp_in s.qubits k y)) e
            ∙ (times_one (product_below n (λ g. amp_in s.qubits k (c.groups g))) ∙ p.is k);
        over = p.over;
        count = omega arith;
      }

  -- and where one is
  with_one_more : (n : ℕ) (G : Held) → c.groups n ≡ Some G → (p : Partial n) → Multiplied p.rest (list_all has_even_sum G.nums) told_at p.left (of_group G)
      → Partial (suc n)
  with_one_more n G e p m =
      let level : level_in (c.groups n) + halves (list_all has_even_sum G.nums) ≡ 2 * h_in (c.groups n) =
      ap (λ y. level_in y + halves (list_all has_even_sum G.nums)) e ∙ (level_counts G (factors n G e) ∙ sym (ap (λ y. 2 * h_in y) e)) in
      let before = p.count in
      let halves_sum = m.count in
      record {
        taken = p.taken + m.taken;
        rest = m.rest;
        left = m.left;
        is = λ k. ap (λ y. amp_product (product_below n (λ g. amp_in s.qubits k (c.groups g))) (amp_in s.qubits k y)) e
            ∙ powers_out p.taken m.taken (p.left k) (of_group G k) (product_below n (λ g. amp_in s.qubits k (c.groups g))) (m.left k) (p.is k) (m.is k);
        over = m.over;
        count = omega arith;
      }

  -- for the groups below each number
  pub partial : (n : ℕ) → Partial n
  partial zero = record {
    taken = 0;
    rest = false;
    left = λ k. one_amp;
    is = λ k. sym (one_times one_amp);
    over = refl;
    count = refl;
  }
  partial (suc n) = by_group (c.groups n) refl (partial n)
    where
      by_group : (y : Option Held) → c.groups n ≡ y → Partial n → Partial (suc n)
      by_group None e p = without_one n e p
      by_group (Some G) e p = with_one_more n G e p (multiplied p.rest (list_all has_even_sum G.nums) told_at p.left (of_group G) p.over (group_over n G e))
