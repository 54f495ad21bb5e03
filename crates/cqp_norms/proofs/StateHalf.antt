-- What the groups keep along events, so that they stand for the whole state.
use Rattle.std.proofs.Common.{◌≡◌, ◌≢◌, ℕ, true, false, List, [], ◌+◌, ◌-◌, ◌^◌, ◌<◌, length, nat_lt, Some, refl, sym, ap, subst, arith, eq-eqb, ne_eqb, ◌∙◌}
use Rattle.std.proofs.Common.{⊎_elim}
use Rattle.std.proofs.lemmas.Bool.{cases_Bool}
use Rattle.std.proofs.lemmas.List.FromFn.{length-map-range_with_len}
use Rattle.std.specs.List.{list_all}
use mathlib.Core.Logic.{dite}
use native.Mathlib.Decide.{ℕ_discrete}
use Rattle.cqp_syntax.specs.declared.op.Op.{Op}
use Rattle.cqp_book.specs.Keys.{has}
use Rattle.cqp_vector.specs.State.{State}
use Rattle.cqp_vector.specs.Gate.{gate_of}
use Rattle.cqp_vector.specs.Measurement.{projected}
use Rattle.cqp_vector.specs.Group.{factors_left_out}
use Rattle.cqp_machine.specs.Factors.{Held, gated, measured, places_in, state_of, projection, due_after}
use Rattle.cqp_machine.specs.Cells.{Cells, with_at}
use Rattle.cqp_machine.specs.Sums.{h_in, exponents}
use Rattle.cqp_machine.proofs.SumLemmas.{sum_changed}
use Rattle.cqp_fresh.proofs.Fresh.{due_measured}
use Rattle.cqp_places.specs.Places.{IsDistinct}
use Rattle.cqp_local.proofs.PlacedLemmas.{with_at_in, with_at_out}
use Rattle.cqp_cells.proofs.Options.{same_some}
use Rattle.cqp_fresh.proofs.Partition.{found, name_made, one_changed}
use Rattle.cqp_products.proofs.LeastHalf.{least_within, length-least}
use Rattle.cqp_products.specs.Reads.{IsShaped, Reads}
use Rattle.cqp_products.proofs.GateEvent.{gate_event}
use Rattle.cqp_products.proofs.MeasureEvent.{measure_event}
use Rattle.cqp_products.proofs.FixedLemmas.{nothing_fixed, measured_fixed}
use Rattle.cqp_norms.specs.StateStands.{IsGood, StateStands, changed}

-- what is due is distinct
due_distinct : (xs qs : List ℕ) → IsDistinct qs → IsDistinct (due_after xs qs)
due_distinct xs qs d = ⊎_elim
    (λ (t : nat_lt 1 (length xs) ≡ true). rw t d)
    (λ (t : nat_lt 1 (length xs) ≡ false). rw t tt)
    (cases_Bool (nat_lt 1 (length xs)))

-- the numerators are read with the same power, however it is written
pub same_reads : (s : State) (c : Cells) (a b : ℕ) → a ≡ b → Reads s c a → Reads s c b
same_reads s c a b e r = subst (λ n. Reads s c n) e r

module _ (c : Cells) (h : ℕ) (s : State) (x : StateStands c h s) (g : ℕ) (G : Held) (there : c.groups g ≡ Some G) where
  -- the group's name was made
  named : g < s.qubits
  named = name_made s.qubits c.groups x.own x.partition g G there

  -- the exponents with another group in its place
  pub exponents_changed : (H : Held) → exponents s.qubits (changed c g H) + G.h ≡ exponents s.qubits c + H.h
  exponents_changed H =
      let sum = sum_changed s.qubits g (λ i. h_in (c.groups i)) (λ i. h_in (with_at g (Some H) c.groups i)) named
      (λ i other. ap h_in (with_at_out g i (Some H) c.groups (ne_eqb i g other))) in
      let before : h_in (c.groups g) ≡ G.h = ap h_in there in
      let later : h_in (with_at g (Some H) c.groups g) ≡ H.h = ap h_in (with_at_in g g (Some H) c.groups (eq-eqb g g refl)) in
      omega arith

  -- with a good group in its place all groups are good
  all_good : (H : Held) → IsGood H → (i : ℕ) (F : Held) → with_at g (Some H) c.groups i ≡ Some F → IsGood F
  all_good H own i F t = ⊎_elim
      (λ (z : (i ≡ g) × (Some H ≡ Some F)). subst IsGood (same_some {x = H} {y = F} z.1) own)
      (λ (z : (i ≢ g) × (c.groups i ≡ Some F)). x.good i F z.1)
      (found g i (Some H) c.groups F t)

  -- each qubit stays in its owner's group
  covers_changed : (H : Held) → H.qubits ≡ G.qubits → (q : ℕ) → q < s.qubits
      → (F : Held) × (with_at g (Some H) c.groups (x.own q) ≡ Some F) × (has q F.qubits ≡ true)
  covers_changed H same q small = let old = x.covers q small in dite (ℕ_discrete (x.own q) g)
      (λ (e : x.own q ≡ g).
      let is : old.0 ≡ G = same_some {x = old.0} {y = G} (sym old.1 ∙ (ap c.groups e ∙ there)) in
      (H, with_at_in g (x.own q) (Some H) c.groups (eq-eqb (x.own q) g e), subst (λ qs. has q qs ≡ true) (ap (λ F. F.qubits) is ∙ sym same) old.2))
      (λ (e : x.own q ≢ g). (old.0, with_at_out g (x.own q) (Some H) c.groups (ne_eqb (x.own q) g e) ∙ old.1, old.2))

  -- the norm stands when a gate acts on a group
  pub gate_stands : (o : Op) (qs : List ℕ) → G.due ≡ [] → list_all (λ q. has q G.qubits) qs ≡ true
      → StateStands (changed c g (gated o qs G)) (h + factors_left_out o) (gate_of o qs s)
  gate_stands o qs due has_all =
      let H = gated o qs G in
      let sums = exponents_changed (gated o qs G) in
      let less = least_within (gate_of o (places_in G.qubits qs) (state_of G)).nums (G.h + factors_left_out o) in
      let own = (x.good g G there).shape in
      let own_shape : IsShaped (gated o qs G) = record {
        distinct = own.distinct;
        whole = length-least (gate_of o (places_in G.qubits qs) (state_of G)).nums (G.h + factors_left_out o)
            ∙ length-map-range_with_len _ 0 (2 ^ length G.qubits);
      } in
      let reads = gate_event s c x.own x.partition (h - exponents s.qubits c) x.reads g G there own o qs has_all in
      let raised : ((h + factors_left_out o) + G.h ≡ h + (G.h + factors_left_out o)) = omega arith in
      record {
        own = x.own;
        partition = one_changed s.qubits c.groups x.own x.partition g G (gated o qs G) there refl ((x.partition.each g G there).due_in);
        covers = covers_changed (gated o qs G) refl;
        whole = length-map-range_with_len _ 0 (2 ^ s.qubits);
        good = all_good (gated o qs G) (record { shape = own_shape; fixed = nothing_fixed (gated o qs G) due; apart = subst IsDistinct (sym due) tt });
        within = omega (arith, x.within);
        reads = same_reads (gate_of o qs s) (changed c g (gated o qs G)) (h - exponents s.qubits c + ((G.h + factors_left_out o) - (gated o qs G).h))
            ((h + factors_left_out o) - exponents s.qubits (changed c g (gated o qs G))) (omega (arith, x.within)) reads;
      }

  -- the norm stands when qubits of a group are measured
  pub measure_stands : (qs : List ℕ) (m : ℕ) → IsDistinct qs → list_all (λ q. has q G.qubits) qs ≡ true
      → StateStands (changed c g (measured qs m G)) h (projected qs m s)
  measure_stands qs m dist has_all =
      let sums = exponents_changed (measured qs m G) in
      let less = least_within (projection qs m G).nums G.h in
      let own = (x.good g G there).shape in
      let own_shape : IsShaped (measured qs m G) = record {
        distinct = own.distinct;
        whole = length-least (projection qs m G).nums G.h ∙ length-map-range_with_len _ 0 (2 ^ length G.qubits);
      } in
      let reads = measure_event s c x.own x.partition (h - exponents s.qubits c) x.reads g G there own qs m has_all in
      record {
        own = x.own;
        partition = one_changed s.qubits c.groups x.own x.partition g G (measured qs m G) there refl (λ q t. due_measured G.qubits qs has_all q t);
        covers = covers_changed (measured qs m G) refl;
        whole = length-map-range_with_len _ 0 (2 ^ s.qubits);
        good = all_good (measured qs m G) (record { shape = own_shape; fixed = measured_fixed qs m G own_shape.whole; apart = due_distinct G.qubits qs dist });
        within = omega (arith, x.within);
        reads = same_reads (projected qs m s) (changed c g (measured qs m G)) (h - exponents s.qubits c + (G.h - (measured qs m G).h))
            (h - exponents s.qubits (changed c g (measured qs m G))) (omega (arith, x.within)) reads;
      }
