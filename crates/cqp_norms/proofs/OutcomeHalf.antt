-- An outcome that isn't zero in its group isn't zero in the whole state.
use Rattle.cqp_places.specs.Places.{IsDistinct}
use Rattle.std.proofs.Common.{◌≡◌, ◌≢◌, ℕ, zero, suc, true, false, List, [], ◌∷◌, ◌-◌, ◌<◌, Some, refl, sym, ap, arith, eq-eqb, ne_eqb, ◌∙◌, ⊎_elim}
use Rattle.std.proofs.lemmas.Bool.{cases_Bool, and_parts, and_from, both_ways, not-true}
use Rattle.std.proofs.lemmas.Int.{ints}
use Rattle.std.specs.List.{list_all}
use mathlib.Core.Logic.{dite}
use native.Mathlib.Decide.{ℕ_discrete}
use Rattle.cqp_ring.specs.declared.amp.Amp.{Amp}
use Rattle.cqp_ring.specs.declared.root.Root.{Root}
use Rattle.cqp_ring.specs.Amp.{zero_amp, amp_product}
use Rattle.cqp_ring.specs.Root.{root_sum, root_product, zero_root, norm_of, norm_sum}
use Rattle.cqp_ring.specs.Weight.{power_root}
use Rattle.cqp_ring.proofs.Integers.{same_root}
use Rattle.cqp_ring.proofs.OrderProducts.{zero_product}
use Rattle.cqp_book.specs.Keys.{has}
use Rattle.cqp_vector.specs.State.{State, amp_at}
use Rattle.cqp_vector.specs.Measurement.{projected, is_zero_amp, is_outcome}
use Rattle.cqp_vector.proofs.Masks.{none_by_norm}
use Rattle.cqp_ring.proofs.OrderSums.{zero-sum}
use Rattle.cqp_machine.specs.Factors.{Held, places_in, state_of, measured, projection}
use Rattle.cqp_machine.specs.Cells.{Cells, with_at}
use Rattle.cqp_vector.specs.Least.{root2_power}
use Rattle.cqp_machine.specs.Sums.{root_below, norm_in, norms, exponents}
use Rattle.cqp_local.proofs.PlacedLemmas.{with_at_in}
use Rattle.cqp_fresh.proofs.Partition.{name_made}
use Rattle.cqp_places.proofs.GateHalf.{times_zero}
use Rattle.cqp_products.proofs.LeastHalf.{least_reads}
use Rattle.cqp_products.proofs.FixedLemmas.{zero_numerator}
use Rattle.cqp_norms.proofs.BitSums.{without, one_out, same_product}
use Rattle.cqp_norms.specs.StateStands.{StateStands}
use Rattle.cqp_norms.proofs.StateHalf.{measure_stands}
use Rattle.cqp_norms.proofs.Probability.{norm_stands, power_some}

-- numerators that are all 0
pub all_none : (xs : List Amp) → list_all is_zero_amp xs ≡ true → norm_sum xs ≡ zero_root
all_none [] h = refl
all_none (x ∷ xs) h =
    let parts = and_parts (is_zero_amp x) (list_all is_zero_amp xs) h in
    let first : norm_of x ≡ zero_root = ap norm_of (zero_numerator x parts.0) in
    ap (λ t. root_sum t (norm_sum xs)) first ∙ (zero-sum (norm_sum xs) ∙ all_none xs parts.1)

-- where all numerators are 0 each is
none_at : (xs : List Amp) (j : ℕ) → list_all is_zero_amp xs ≡ true → amp_at xs j ≡ zero_amp
none_at [] j h = refl
none_at (x ∷ xs) zero h = zero_numerator x (and_parts (is_zero_amp x) (list_all is_zero_amp xs) h).0
none_at (x ∷ xs) (suc j) h = none_at xs j (and_parts (is_zero_amp x) (list_all is_zero_amp xs) h).1

-- where each is 0 all pass the test
all_from : (xs : List Amp) → ((j : ℕ) → amp_at xs j ≡ zero_amp) → list_all is_zero_amp xs ≡ true
all_from [] h = refl
all_from (x ∷ xs) h = and_from (is_zero_amp x) (list_all is_zero_amp xs) (ap is_zero_amp (h zero)) (all_from xs (λ j. h (suc j)))

-- a norm times 0 is 0
pub times_none : (x : Root) → root_product x zero_root ≡ zero_root
times_none x = same_root (omega (arith, ints)) (omega (arith, ints))

module _ (c : Cells) (h : ℕ) (s : State) (x : StateStands c h s) (some : norm_sum s.nums ≢ zero_root)
    (g : ℕ) (G : Held) (there : c.groups g ≡ Some G) (qs : List ℕ) (m : ℕ) (dist : IsDistinct qs) (has_all : list_all (λ q. has q G.qubits) qs ≡ true)
    (outcome : is_outcome (places_in G.qubits qs) (state_of G) m ≡ true) where
  -- the cells after the measurement
  abbrev after : Cells
  after = record c { groups = with_at g (Some (measured qs m G)) c.groups }

  -- the group's name was made
  below : g < s.qubits
  below = name_made s.qubits c.groups x.own x.partition g G there

  -- the other groups' norms
  abbrev others : Root
  others = root_below s.qubits (without g (λ i. norm_in (c.groups i)))

  -- the product of the norms is the group's norm times the others'
  out_before : norms s.qubits c ≡ root_product (norm_sum G.nums) others
  out_before =
      one_out s.qubits g (λ i. norm_in (c.groups i)) below ∙ ap (λ t. root_product (norm_in t) others) there

  -- so it is after the measurement
  out_after : norms s.qubits after ≡ root_product (norm_sum (measured qs m G).nums) others
  out_after =
      let own : norm_in (with_at g (Some (measured qs m G)) c.groups g) ≡ norm_sum (measured qs m G).nums =
      ap norm_in (with_at_in g g (Some (measured qs m G)) c.groups (eq-eqb g g refl)) in
      let rest : root_below s.qubits (without g (λ i. norm_in (with_at g (Some (measured qs m G)) c.groups i))) ≡ others =
      same_product s.qubits (without g (λ i. norm_in (with_at g (Some (measured qs m G)) c.groups i))) (without g (λ i. norm_in (c.groups i)))
      (λ i t. dite (ℕ_discrete i g)
      (λ (e : i ≡ g). rw (eq-eqb i g e) refl)
      (λ (e : i ≢ g). rw (ne_eqb i g e) refl)) in
      one_out s.qubits g (λ i. norm_in (with_at g (Some (measured qs m G)) c.groups i)) below
      ∙ (ap (λ t. root_product t (root_below s.qubits (without g (λ i. norm_in (with_at g (Some (measured qs m G)) c.groups i))))) own
      ∙ ap (root_product (norm_sum (measured qs m G).nums)) rest)

  -- the group keeps a numerator
  own_some : norm_sum (measured qs m G).nums ≢ zero_root
  own_some e =
      let none = none_by_norm (measured qs m G).nums e in
      let all = all_from (projection qs m G).nums (λ j.
      least_reads (projection qs m G).nums G.h j
      ∙ (ap (amp_product (root2_power (G.h - (measured qs m G).h))) (none_at (measured qs m G).nums j none)
      ∙ times_zero (root2_power (G.h - (measured qs m G).h)))) in
      both_ways (list_all is_zero_amp (projection qs m G).nums) (not-true (list_all is_zero_amp (projection qs m G).nums) outcome) all

  -- and so do the others
  others_some : others ≢ zero_root
  others_some e = some (
      norm_stands c h s x
      ∙ (ap (root_product (power_root (h - exponents s.qubits c))) (out_before ∙ (ap (root_product (norm_sum G.nums)) e ∙ times_none (norm_sum G.nums)))
      ∙ times_none (power_root (h - exponents s.qubits c))))

  -- something is left of the whole
  pub whole_some : norm_sum (projected qs m s).nums ≢ zero_root
  whole_some e =
      let y = measure_stands c h s x g G there qs m dist has_all in
      let told : root_product (power_root (h - exponents s.qubits after)) (norms s.qubits after) ≡ zero_root =
      sym (norm_stands after h (projected qs m s) y) ∙ e in
      ⊎_elim
      (λ (t : power_root (h - exponents s.qubits after) ≡ zero_root). power_some (h - exponents s.qubits after) t)
      (λ (t : norms s.qubits after ≡ zero_root). ⊎_elim
      (λ (u : norm_sum (measured qs m G).nums ≡ zero_root). own_some u)
      (λ (u : others ≡ zero_root). others_some u)
      (zero_product (norm_sum (measured qs m G).nums) others (sym out_after ∙ t)))
      (zero_product (power_root (h - exponents s.qubits after)) (norms s.qubits after) told)

  -- so an outcome of the group is one of the whole
  pub outcome_of_whole : is_outcome qs s m ≡ true
  outcome_of_whole = ⊎_elim
      (λ (t : list_all is_zero_amp (projected qs m s).nums ≡ true). absurd (whole_some (all_none (projected qs m s).nums t)))
      (λ (t : list_all is_zero_amp (projected qs m s).nums ≡ false). rw t refl)
      (cases_Bool (list_all is_zero_amp (projected qs m s).nums))
