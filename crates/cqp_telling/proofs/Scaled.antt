-- The norm of each projection of the whole state is that of its group, times one number that isn't 0.
use Rattle.std.proofs.Common.{◌≡◌, ◌≢◌, ℕ, List, true, ◌+◌, ◌-◌, ◌*◌, ◌^◌, ◌<◌, Some, refl, sym, ap, arith, eq-eqb, ne_eqb, ◌∙◌, pow-add}
use Rattle.std.specs.List.{list_all}
use Rattle.std.proofs.lemmas.Int.{ints}
use mathlib.Core.Logic.{dite}
use native.Mathlib.Decide.{ℕ_discrete}
use Rattle.cqp_ring.specs.declared.amp.Amp.{Amp}
use Rattle.cqp_ring.specs.declared.root.Root.{Root}
use Rattle.cqp_ring.specs.Root.{norm_sum, root_product, zero_root}
use Rattle.cqp_ring.specs.Weight.{power_root}
use Rattle.cqp_ring.proofs.Integers.{same_root}
use Rattle.cqp_ring.proofs.OrderProducts.{root_product_comm, root_product_assoc, cancelled}
use Rattle.cqp_book.specs.Keys.{has}
use Rattle.cqp_vector.specs.Least.{least_over}
use Rattle.cqp_vector.specs.Measurement.{projected}
use Rattle.cqp_vector.specs.State.{State}
use Rattle.cqp_machine.specs.Cells.{Cells, with_at}
use Rattle.cqp_machine.specs.Factors.{Held, measured, projection}
use Rattle.cqp_machine.specs.Sums.{exponents, norm_in, norms, root_below}
use Rattle.cqp_local.proofs.PlacedLemmas.{with_at_in}
use Rattle.cqp_fresh.proofs.Partition.{name_made}
use Rattle.cqp_places.specs.Places.{IsDistinct}
use Rattle.cqp_products.proofs.LeastHalf.{least_within}
use Rattle.cqp_norms.specs.StateStands.{StateStands, changed}
use Rattle.cqp_norms.proofs.BitSums.{without, one_out, same_product}
use Rattle.cqp_norms.proofs.OutcomeHalf.{times_none}
use Rattle.cqp_norms.proofs.Probability.{norm_stands, power_some}
use Rattle.cqp_norms.proofs.StateHalf.{exponents_changed, measure_stands}
use Rattle.cqp_telling.proofs.Ends.{swapped}

-- made least, numerators have the same norm over 2 to the exponent
abbrev pub LeastNorm : Type 0
LeastNorm =
    (nums : List Amp) (h : ℕ) → root_product (power_root h) (norm_sum (least_over nums h).nums)
    ≡ root_product (power_root (least_over nums h).h) (norm_sum nums)

-- powers of 2 multiply
power_sum : (a b : ℕ) → root_product (power_root a) (power_root b) ≡ power_root (a + b)
power_sum a b = let e : 2 ^ (a + b) ≡ 2 ^ a * 2 ^ b = pow-add 2 a b in same_root (omega (arith, ints)) (omega (arith, ints))

-- a norm over 2^h that is another over 2^k is so in a product too, where the powers left out come out even
taken_out : (a b k h : ℕ) (n p o : Root) → k + a ≡ h + b → root_product (power_root h) n ≡ root_product (power_root k) p
    → root_product (power_root a) (root_product n o) ≡ root_product (root_product (power_root b) o) p
taken_out a b k h n p o even told =
    let here = root_product n o in
    let down : root_product (power_root k) (root_product (power_root a) (root_product n o))
    ≡ root_product (power_root h) (root_product (power_root b) (root_product n o)) =
    sym (root_product_assoc (power_root k) (power_root a) here)
    ∙ (ap (λ t. root_product t here) (power_sum k a ∙ (ap power_root even ∙ sym (power_sum h b)))
    ∙ root_product_assoc (power_root h) (power_root b) here) in
    let inner : root_product (power_root h) (root_product n o) ≡ root_product (power_root k) (root_product o p) =
    sym (root_product_assoc (power_root h) n o)
    ∙ (ap (λ t. root_product t o) told ∙ (root_product_assoc (power_root k) p o ∙ ap (root_product (power_root k)) (root_product_comm p o))) in
    cancelled (power_root k) (root_product (power_root a) (root_product n o)) (root_product (root_product (power_root b) o) p) (power_some k) (
    down
    ∙ (swapped (power_root h) (power_root b) here
    ∙ (ap (root_product (power_root b)) inner
    ∙ (swapped (power_root b) (power_root k) (root_product o p)
    ∙ ap (root_product (power_root k)) (sym (root_product_assoc (power_root b) o p))))))

module _ (least : LeastNorm) (c : Cells) (h : ℕ) (s : State) (x : StateStands c h s) (some : norm_sum s.nums ≢ zero_root)
    (g : ℕ) (G : Held) (there : c.groups g ≡ Some G) (qs : List ℕ) (dist : IsDistinct qs) (has_all : list_all (λ q. has q G.qubits) qs ≡ true) where
  -- the group's name was made
  below : g < s.qubits
  below = name_made s.qubits c.groups x.own x.partition g G there

  -- the other groups' norms
  abbrev others : Root
  others = root_below s.qubits (without g (λ i. norm_in (c.groups i)))

  -- what the whole's norm has more than the group's
  abbrev pub scale : Root
  scale = root_product (power_root (h - exponents s.qubits c)) others

  -- with another group under the name, the norms are its norm times the others'
  out : (H : Held) → norms s.qubits (changed c g H) ≡ root_product (norm_sum H.nums) others
  out H =
      let own : norm_in (with_at g (Some H) c.groups g) ≡ norm_sum H.nums = ap norm_in (with_at_in g g (Some H) c.groups (eq-eqb g g refl)) in
      let rest : root_below s.qubits (without g (λ i. norm_in (with_at g (Some H) c.groups i))) ≡ others =
      same_product s.qubits (without g (λ i. norm_in (with_at g (Some H) c.groups i))) (without g (λ i. norm_in (c.groups i)))
      (λ i t. dite (ℕ_discrete i g)
      (λ (e : i ≡ g). rw (eq-eqb i g e) refl)
      (λ (e : i ≢ g). rw (ne_eqb i g e) refl)) in
      one_out s.qubits g (λ i. norm_in (with_at g (Some H) c.groups i)) below
      ∙ (ap (λ t. root_product t (root_below s.qubits (without g (λ i. norm_in (with_at g (Some H) c.groups i))))) own
      ∙ ap (root_product (norm_sum H.nums)) rest)

  -- it isn't 0
  pub scale_some : scale ≢ zero_root
  scale_some e =
      let own : norms s.qubits c ≡ root_product (norm_sum G.nums) others =
      one_out s.qubits g (λ i. norm_in (c.groups i)) below ∙ ap (λ t. root_product (norm_in t) others) there in
      some (
      norm_stands c h s x
      ∙ (ap (root_product (power_root (h - exponents s.qubits c))) own
      ∙ (swapped (power_root (h - exponents s.qubits c)) (norm_sum G.nums) others
      ∙ (ap (root_product (norm_sum G.nums)) e ∙ times_none (norm_sum G.nums)))))

  -- the norm of a projection
  pub scaled : (m : ℕ) → norm_sum (projected qs m s).nums ≡ root_product scale (norm_sum (projection qs m G).nums)
  scaled m =
      let y = measure_stands c h s x g G there qs m dist has_all in
      let sums = exponents_changed c h s x g G there (measured qs m G) in
      let less = least_within (projection qs m G).nums G.h in
      norm_stands (changed c g (measured qs m G)) h (projected qs m s) y
      ∙ (ap (root_product (power_root (h - exponents s.qubits (changed c g (measured qs m G))))) (out (measured qs m G))
      ∙ taken_out (h - exponents s.qubits (changed c g (measured qs m G))) (h - exponents s.qubits c) (measured qs m G).h G.h
      (norm_sum (measured qs m G).nums) (norm_sum (projection qs m G).nums) others
      (omega (arith, sums, less, x.within, y.within)) (least (projection qs m G).nums G.h))
