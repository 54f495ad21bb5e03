-- The groups' levels add up to the level of the whole state, made least; so half of their sum, rounded up,
-- is its exponent.
use Rattle.std.proofs.Common.{◌≡◌, inr, ℕ, zero, suc, ◌+◌, ◌-◌, ◌*◌, ◌/◌, ◌^◌, ◌<◌, ◌≤◌, Bool, true, false, List, [], ◌∷◌, length, map, refl, sym, ap, subst}
use Rattle.std.proofs.Common.{arith, ◌∙◌, ⊎_elim}
use Rattle.std.specs.List.{list_all, range_with_len}
use Rattle.std.proofs.lemmas.Bool.{cases_Bool, and_from, both_ways, not_from_true, not_from_false}
use Rattle.cqp_ring.specs.declared.amp.Amp.{Amp}
use Rattle.cqp_ring.specs.Amp.{zero_amp, amp_product}
use Rattle.cqp_ring.specs.Parity.{has_odd_sum, has_even_sum, is_root2_times}
use Rattle.cqp_ring.proofs.NormLemmas.{amp_product_assoc}
use Rattle.cqp_vector.specs.State.{State, amp_at}
use Rattle.cqp_vector.specs.Least.{Over, least_over, root2_power}
use Rattle.cqp_vector.proofs.Levels.{level_over, all_even_from}
use Rattle.cqp_vector.proofs.LeastForms.{only_least_form}
use Rattle.cqp_cells.specs.Exponent.{exponent_of}
use Rattle.cqp_machine.specs.Cells.{Cells}
use Rattle.cqp_machine.specs.Sums.{exponents, levels}
use Rattle.cqp_products.proofs.GateEvent.{state_at}
use Rattle.cqp_products.proofs.ProductHalf.{power_sum}
use Rattle.cqp_norms.specs.StateStands.{StateStands}
use Rattle.cqp_products.proofs.Remainders.{IsOver, halves, passes_at}
use Rattle.cqp_levels.proofs.KeptFactors.{AreFactors}
use Rattle.cqp_norms.proofs.Witness.{witness_small}
use Rattle.cqp_levels.proofs.LevelSums.{Partial, partial, told_at}

-- numbers from a on
abbrev made_from : ℕ → ℕ → (ℕ → Amp) → List Amp
made_from a n f = map f (range_with_len a n)

-- a list is told by its numerators
by_places : (f : Amp → Amp) (g : ℕ → Amp) (xs : List Amp) (a : ℕ) → ((i : ℕ) → i < length xs → amp_at xs i ≡ f (g (a + i)))
    → map f (made_from a (length xs) g) ≡ xs
by_places f g [] a h = refl
by_places f g (x ∷ xs) a h =
    let here : x ≡ f (g (a + 0)) = h 0 (omega arith) in
    let start : a + 0 ≡ a = omega arith in
    let first : f (g a) ≡ x = ap (λ n. f (g n)) (sym start) ∙ sym here in
    let rest = by_places f g xs (a + 1) (λ i small. h (suc i) (omega arith) ∙ ap (λ n. f (g n)) (shift a i)) in
    λ i. first i ∷ rest i
  where
    shift : (a i : ℕ) → a + suc i ≡ a + 1 + i
    shift a i = omega arith

-- a test that all numerators pass, or one doesn't
all_made : (t : Amp → Bool) (g : ℕ → Amp) (a n : ℕ) → ((i : ℕ) → t (g i) ≡ true) → list_all t (made_from a n g) ≡ true
all_made t g a zero h = refl
all_made t g a (suc n) h = and_from (t (g a)) (list_all t (made_from (a + 1) n g)) (h a) (all_made t g (a + 1) n h)

-- one that fails is enough
one_fails : (t : Amp → Bool) (xs : List Amp) (i : ℕ) → t zero_amp ≡ true → t (amp_at xs i) ≡ false → list_all t xs ≡ false
one_fails t xs i z h = ⊎_elim
    (λ (u : list_all t xs ≡ true). absurd (both_ways (t (amp_at xs i)) h (passes_at t xs i z u)))
    (λ (u : list_all t xs ≡ false). u)
    (cases_Bool (list_all t xs))

-- numerators that a power of root 2 divides, and no more
module _ (n h taken k : ℕ) (rest : Bool) (left : ℕ → Amp) (nums : List Amp) (whole : length nums ≡ 2 ^ n) (small : k < 2 ^ n) (less : taken ≤ h)
    (is : (i : ℕ) → i < 2 ^ n → amp_at nums i ≡ amp_product (root2_power taken) (left i)) (over : IsOver rest k left) where
  -- what is left of the whole's numerators
  abbrev quotients : List Amp
  quotients = made_from 0 (2 ^ n) left

  -- the least form that they are
  abbrev form : Over
  form = record { nums = made_from 0 (2 ^ n) left; h = h - taken }

  -- the power times the quotients are the numerators
  amplitudes : map (amp_product (root2_power taken)) quotients ≡ nums
  amplitudes =
      ap (λ m. map (amp_product (root2_power taken)) (made_from 0 m left)) (sym whole)
      ∙ by_places (amp_product (root2_power taken)) left nums 0 (λ i t. is i (subst (λ m. i < m) whole t)
      ∙ ap (λ m. amp_product (root2_power taken) (left m)) (up i))
    where
      up : (i : ℕ) → i ≡ 0 + i
      up i = omega arith

  -- the quotient at the place
  at_place : amp_at quotients k ≡ left k
  at_place = state_at n k left small

  -- the sums of the quotients
  odd_somewhere : (b : Bool) → IsOver b k left → b ≡ false → list_all has_even_sum quotients ≡ false
  odd_somewhere true o e = cc
  odd_somewhere false o e = one_fails has_even_sum quotients k refl (ap has_even_sum at_place ∙ not_from_true (has_odd_sum (left k)) o)

  -- all are even where a half is over
  even_throughout : (b : Bool) → IsOver b k left → b ≡ true → list_all has_even_sum quotients ≡ true
  even_throughout false o e = cc
  even_throughout true o e = all_made has_even_sum left 0 (2 ^ n) (λ i. not_from_false (has_odd_sum (left i)) (o.0 i))

  -- root 2 doesn't divide all quotients
  undivided : (b : Bool) → IsOver b k left → list_all is_root2_times quotients ≡ false
  undivided true o = one_fails is_root2_times quotients k refl (ap is_root2_times at_place ∙ o.1)
  undivided false o = ⊎_elim
      (λ (u : list_all is_root2_times quotients ≡ true). absurd
      (both_ways (list_all has_even_sum quotients) (odd_somewhere false o refl) (all_even_from quotients u)))
      (λ (u : list_all is_root2_times quotients ≡ false). u)
      (cases_Bool (list_all is_root2_times quotients))

  -- so they are the least form
  pub least_is : form ≡ least_over nums h
  least_is = only_least_form form nums h (record {
    taken = taken;
    exponent = omega arith;
    amplitudes = amplitudes;
    least = inr (undivided rest over);
  })

  -- their level, with the half that is over
  level_by : (b : Bool) → IsOver b k left → b ≡ rest → halves b ≤ 2 * (h - taken) → level_over quotients (h - taken) + halves b ≡ 2 * (h - taken)
  level_by true o e some = rw (even_throughout true o refl) (omega arith)
  level_by false o e some = rw (odd_somewhere false o refl) (omega arith)

  -- its level, and the half that is over
  pub least_level : halves rest ≤ 2 * (h - taken) → level_over (least_over nums h).nums (least_over nums h).h + halves rest ≡ 2 * (h - taken)
  least_level some = ap (λ (y : Over). level_over y.nums y.h + halves rest) (sym least_is) ∙ level_by rest over refl some

-- a factor is left out once at most
one_at_most : (b : Bool) → halves b ≤ 1
one_at_most true = omega arith
one_at_most false = omega arith

-- half of a number, rounded up
rounded : (n r level : ℕ) → r ≤ 1 → level + r ≡ 2 * n → (level + 1) / 2 ≡ n
rounded n r level less e = omega arith

module _ (c : Cells) (h : ℕ) (s : State) (x : StateStands c h s) (factors : AreFactors c.groups) where
  -- the product of all groups
  abbrev all : Partial c h s x factors s.qubits
  all = partial c h s x factors s.qubits

  -- how often root 2 was taken out of it
  abbrev taken : ℕ
  taken = h - exponents s.qubits c + all.taken

  -- what the groups were divided by, and what root 2 takes of the product
  read : (i : ℕ) → i < 2 ^ s.qubits → amp_at s.nums i ≡ amp_product (root2_power taken) (all.left i)
  read i small =
      x.reads i small
      ∙ (ap (amp_product (root2_power (h - exponents s.qubits c))) (all.is i)
      ∙ (sym (amp_product_assoc (root2_power (h - exponents s.qubits c)) (root2_power all.taken) (all.left i))
      ∙ ap (λ t. amp_product t (all.left i)) (power_sum (h - exponents s.qubits c) all.taken)))

  -- no more is taken than the exponents' sum
  within : all.taken ≤ exponents s.qubits c
  within = let count = all.count in omega arith

  -- the exponent that is left
  left_over : h - taken ≡ exponents s.qubits c - all.taken
  left_over = let a = within in let b = x.within in omega arith

  -- what is over of the whole
  form_of : IsOver all.rest (told_at c h s x factors) all.left
  form_of = all.over

  -- the levels add up to the level of the whole state
  pub whole_level : levels s.qubits c ≡ level_over (least_over s.nums h).nums (least_over s.nums h).h
  whole_level =
      let a = within in
      let b = x.within in
      let count = all.count in
      let told = least_level s.qubits h taken (told_at c h s x factors) all.rest all.left s.nums x.whole (witness_small c h s x _)
      (omega arith) read all.over (omega arith) in
      omega arith

  -- half of them, rounded up, is its exponent
  pub whole_exponent : exponent_of h s ≡ (levels s.qubits c + 1) / 2
  whole_exponent =
      let a = within in
      let b = x.within in
      let count = all.count in
      let form = least_is s.qubits h taken (told_at c h s x factors) all.rest all.left s.nums x.whole (witness_small c h s x _) (omega arith) read all.over in
      let is : h - taken ≡ exponent_of h s = ap (λ (y : Over). y.h) form in
      sym is ∙ sym (rounded (h - taken) (halves all.rest) (levels s.qubits c) (one_at_most all.rest) (omega arith))
