-- The odds of qubits of a group are those of the whole state, but for one scale of all norms.
use Rattle.std.proofs.Common.{◌≡◌, ◌≢◌, ℕ, true, false, List, [], ◌∷◌, ◌-◌, ◌+◌, ◌^◌, ◌<◌, map}
use Rattle.std.proofs.Common.{filter, length, not, Some, refl, sym, ap, arith, eq-eqb, ne_eqb, ◌∙◌, ⊎_elim, pow-add, Bool}
use Rattle.std.proofs.lemmas.Bool.{cases_Bool}
use Rattle.std.proofs.lemmas.List.{length-map}
use Rattle.std.specs.List.{list_all, range_with_len}
use mathlib.Core.Logic.{dite}
use native.Mathlib.Decide.{ℕ_discrete}
use Rattle.cqp_ring.specs.declared.root.Root.{Root}
use Rattle.cqp_ring.specs.Root.{root_product, zero_root, norm_sum}
use Rattle.cqp_ring.specs.Weight.{power_root}
use Rattle.cqp_ring.proofs.OrderProducts.{cancelled, root_product_assoc, root_product_comm, zero_product}
use Rattle.cqp_ring.proofs.Integers.{same_root}
use Rattle.std.proofs.lemmas.Int.{ints}
use Rattle.cqp_book.specs.Keys.{has}
use Rattle.cqp_vector.specs.declared.odds.Odd.{Odd}
use Rattle.cqp_vector.specs.State.{State}
use Rattle.cqp_vector.specs.Measurement.{is_outcome, is_zero_amp, likelihood_of, projected}
use Rattle.cqp_vector.specs.Odds.{odd_of, odds_of}
use Rattle.cqp_vector.proofs.LeastForms.{same_ratio}
use Rattle.cqp_vector.proofs.Masks.{none_by_norm}
use Rattle.cqp_machine.specs.Factors.{Held, index_of, measured, places_in, projection, state_of}
use Rattle.cqp_machine.specs.Cells.{Cells, with_at}
use Rattle.cqp_machine.specs.Sums.{exponents, norm_in, norms, root_below}
use Rattle.cqp_local.proofs.PlacedLemmas.{with_at_in}
use Rattle.cqp_fresh.proofs.Partition.{name_made}
use Rattle.cqp_products.proofs.LeastHalf.{least_within}
use Rattle.cqp_places.specs.Places.{IsDistinct}
use Rattle.cqp_norms.specs.StateStands.{StateStands, changed}
use Rattle.cqp_norms.proofs.BitSums.{without, one_out, same_product}
use Rattle.cqp_norms.proofs.OutcomeHalf.{all_none, times_none}
use Rattle.cqp_norms.proofs.Probability.{norm_stands, power_some}
use Rattle.cqp_norms.proofs.StateHalf.{exponents_changed, measure_stands}
use Rattle.cqp_groups.specs.States.{AreOddsOf, scaled}

-- two tests that pass together
both_or_none : (a b : Bool) → (a ≡ true → b ≡ true) → (b ≡ true → a ≡ true) → a ≡ b
both_or_none true b f g = sym (f refl)
both_or_none false true f g = g refl
both_or_none false false f g = refl

-- lists with the same first and the same rest
same_front : {X : Type 0} (x y : X) {xs ys : List X} → x ≡ y → xs ≡ ys → x ∷ xs ≡ y ∷ ys
same_front x y e f = cc

-- an outcome with a norm
abbrev odd_with : ℕ → Root → Odd
odd_with m r = record { outcome = m; norm = r }

-- powers of two multiply
power_sum : (a b : ℕ) → root_product (power_root a) (power_root b) ≡ power_root (a + b)
power_sum a b = let e = pow-add 2 a b in same_root (omega (arith, ints, e)) (omega (arith, ints))

-- the norm of the whole, from what the group's was divided by
scaled_norm : (k d e f : ℕ) (whole own least others : Root) → whole ≡ root_product (power_root k) (root_product least others)
    → root_product (power_root f) least ≡ root_product (power_root e) own → k + e ≡ d + f
    → whole ≡ root_product (root_product (power_root d) others) own
scaled_norm k d e f whole own least others is ratio count =
    cancelled (power_root e) whole (root_product (root_product (power_root d) others) own) (power_some e)
    (ap (root_product (power_root e)) is
    ∙ (sym (root_product_assoc (power_root e) (power_root k) (root_product least others))
    ∙ (ap (λ z. root_product z (root_product least others))
    (root_product_comm (power_root e) (power_root k) ∙ (power_sum k e ∙ (ap power_root count ∙ sym (power_sum d f))))
    ∙ (root_product_assoc (power_root d) (power_root f) (root_product least others)
    ∙ (ap (root_product (power_root d)) (sym (root_product_assoc (power_root f) least others) ∙ (ap (λ z. root_product z others) ratio
    ∙ root_product_assoc (power_root e) own others))
    ∙ (sym (root_product_assoc (power_root d) (power_root e) (root_product own others))
    ∙ (ap (λ z. root_product z (root_product own others)) (root_product_comm (power_root d) (power_root e))
    ∙ (root_product_assoc (power_root e) (power_root d) (root_product own others)
    ∙ ap (root_product (power_root e))
    (ap (root_product (power_root d)) (root_product_comm own others) ∙ sym (root_product_assoc (power_root d) others own))))))))))

module _ (c : Cells) (h : ℕ) (s : State) (x : StateStands c h s) (some : norm_sum s.nums ≢ zero_root) (g : ℕ) (G : Held) (there : c.groups g ≡ Some G)
    (qs : List ℕ) (dist : IsDistinct qs) (has_all : list_all (λ q. has q G.qubits) qs ≡ true) where
  -- the group's name was made
  below : g < s.qubits
  below = name_made s.qubits c.groups x.own x.partition g G there

  -- the other groups' norms
  abbrev others : Root
  others = root_below s.qubits (without g (λ i. norm_in (c.groups i)))

  -- the other groups' norms, and the powers of root 2 that all were divided by
  abbrev pub scale : Root
  scale = root_product (power_root (h - exponents s.qubits c)) others

  -- the product of the norms is the group's norm times the others'
  out_before : norms s.qubits c ≡ root_product (norm_sum G.nums) others
  out_before = one_out s.qubits g (λ i. norm_in (c.groups i)) below ∙ ap (λ t. root_product (norm_in t) others) there

  -- so it is with another group in its place
  out_after : (H : Held) → norms s.qubits (changed c g H) ≡ root_product (norm_sum H.nums) others
  out_after H =
      let own : norm_in (with_at g (Some H) c.groups g) ≡ norm_sum H.nums = ap norm_in (with_at_in g g (Some H) c.groups (eq-eqb g g refl)) in
      let rest : root_below s.qubits (without g (λ i. norm_in (with_at g (Some H) c.groups i))) ≡ others =
      same_product s.qubits (without g (λ i. norm_in (with_at g (Some H) c.groups i))) (without g (λ i. norm_in (c.groups i)))
      (λ i t. dite (ℕ_discrete i g)
      (λ (e : i ≡ g). rw (eq-eqb i g e) refl)
      (λ (e : i ≢ g). rw (ne_eqb i g e) refl)) in
      one_out s.qubits g (λ i. norm_in (with_at g (Some H) c.groups i)) below
      ∙ (ap (λ t. root_product t (root_below s.qubits (without g (λ i. norm_in (with_at g (Some H) c.groups i))))) own
      ∙ ap (root_product (norm_sum H.nums)) rest)

  -- the scale isn't 0, since the state's norm isn't
  pub scale_some : scale ≢ zero_root
  scale_some e = some (
      norm_stands c h s x
      ∙ (ap (root_product (power_root (h - exponents s.qubits c))) (out_before ∙ root_product_comm (norm_sum G.nums) others)
      ∙ (sym (root_product_assoc (power_root (h - exponents s.qubits c)) others (norm_sum G.nums))
      ∙ (ap (λ t. root_product t (norm_sum G.nums)) e ∙ (root_product_comm zero_root (norm_sum G.nums) ∙ times_none (norm_sum G.nums))))))

  -- the whole's norm after a projection is that of the group's, scaled
  pub whole_norm : (m : ℕ) → norm_sum (projected qs m s).nums ≡ root_product scale (norm_sum (projection qs m G).nums)
  whole_norm m =
      let H = measured qs m G in
      let y = measure_stands c h s x g G there qs m dist has_all in
      let sums = exponents_changed c h s x g G there H in
      let less = least_within (projection qs m G).nums G.h in
      let count : h - exponents s.qubits (changed c g H) + H.h ≡ h - exponents s.qubits c + G.h = omega (arith, x.within, y.within) in
      scaled_norm (h - exponents s.qubits (changed c g H)) (h - exponents s.qubits c) H.h G.h
      (norm_sum (projected qs m s).nums) (norm_sum (projection qs m G).nums) (norm_sum H.nums) others
      (norm_stands (changed c g H) h (projected qs m s) y ∙ ap (root_product (power_root (h - exponents s.qubits (changed c g H)))) (out_after H))
      (same_ratio (projection qs m G).nums G.h) count

  -- an outcome of the group is one of the whole, and the other way round
  outcome_same : (m : ℕ) → is_outcome (places_in G.qubits qs) (state_of G) m ≡ is_outcome qs s m
  outcome_same m = ap not (both_or_none (list_all is_zero_amp (projection qs m G).nums) (list_all is_zero_amp (projected qs m s).nums)
      (λ own. none_by_norm (projected qs m s).nums (whole_norm m ∙ (ap (root_product scale) (all_none (projection qs m G).nums own) ∙ times_none scale)))
      (λ all. ⊎_elim
      (λ (e : scale ≡ zero_root). absurd (scale_some e))
      (λ (e : norm_sum (projection qs m G).nums ≡ zero_root). none_by_norm (projection qs m G).nums e)
      (zero_product scale (norm_sum (projection qs m G).nums) (sym (whole_norm m) ∙ all_none (projected qs m s).nums all))))

  -- so are the odds, outcome by outcome
  scaled_odds : (ms : List ℕ)
      → map (scaled scale) (map odd_of (map (likelihood_of (places_in G.qubits qs) (state_of G)) (filter (is_outcome (places_in G.qubits qs) (state_of G)) ms)))
      ≡ map odd_of (map (likelihood_of qs s) (filter (is_outcome qs s) ms))
  scaled_odds [] = refl
  scaled_odds (m ∷ ms) = ⊎_elim
      (λ (t : is_outcome qs s m ≡ true).
      let own = outcome_same m ∙ t in
      rw (t, own) (same_front _ _ (ap (odd_with m) (sym (whole_norm m))) (scaled_odds ms)))
      (λ (t : is_outcome qs s m ≡ false). let own = outcome_same m ∙ t in rw (t, own) (scaled_odds ms))
      (cases_Bool (is_outcome qs s m))

  -- all odds
  pub odds_of_state : AreOddsOf (odds_of (places_in G.qubits qs) (state_of G)) qs s
  odds_of_state = record {
    scale = scale;
    some = scale_some;
    same =
        ap (λ n. map (scaled scale) (map odd_of (map (likelihood_of (places_in G.qubits qs) (state_of G))
        (filter (is_outcome (places_in G.qubits qs) (state_of G)) (range_with_len 0 (2 ^ n)))))) (length-map qs (λ q. index_of q G.qubits))
        ∙ scaled_odds (range_with_len 0 (2 ^ length qs));
  }
