-- A projection of a group and that of the whole state leave the same state, and so does a new qubit.
use Rattle.std.proofs.Common.{◌≡◌, ℕ, true, false, List, [], ◌∷◌, ◌==◌, ◌+◌, ◌-◌, if◌then◌else◌, length, Some, refl, sym, ap, eq-eqb, ◌∙◌, ⊎_elim}
use Rattle.std.proofs.lemmas.Bool.{cases_Bool, and_parts}
use Rattle.std.proofs.lemmas.List.{length-map}
use Rattle.std.specs.List.{list_all}
use Rattle.cqp_ring.specs.declared.amp.Amp.{Amp}
use Rattle.cqp_ring.specs.Amp.{zero_amp, amp_product}
use Rattle.cqp_book.specs.Keys.{has}
use Rattle.cqp_vector.specs.State.{State, amp_at}
use Rattle.cqp_vector.specs.Measurement.{outcome_at, projected}
use Rattle.cqp_machine.specs.Factors.{Held, index_of, places_in, measured, projection}
use Rattle.cqp_machine.specs.Cells.{Cells, with_at}
use Rattle.cqp_vector.specs.Least.{root2_power}
use Rattle.cqp_machine.specs.Sums.{whole_amp}
use Rattle.cqp_places.proofs.PlaceLemmas.{outcome_small, outcome_first, bit_at_index}
use Rattle.cqp_fresh.specs.Partition.{IsPartition}
use Rattle.cqp_places.proofs.GateHalf.{times_zero}
use Rattle.cqp_products.proofs.ProductHalf.{rest_amp, rest_changed, power_sum, group_comes_out}
use Rattle.cqp_products.proofs.LeastHalf.{least_reads}
use Rattle.cqp_local.proofs.PlacedLemmas.{with_at_in}
use Rattle.cqp_products.specs.Reads.{IsShaped, Reads}
use Rattle.cqp_products.proofs.GateEvent.{state_at, combine, read_at}

-- the outcome of qubits of a group is told by the group's own place
pub own_outcome : (n : ℕ) (qubits qs : List ℕ) (k : ℕ) → list_all (λ q. has q qubits) qs ≡ true
    → outcome_at (length qubits) (places_in qubits qs) (outcome_at n qubits k) ≡ outcome_at n qs k
own_outcome n qubits [] k h = refl
own_outcome n qubits (q ∷ qs) k h =
    let parts = and_parts (has q qubits) (list_all (λ q. has q qubits) qs) h in
    let bit = bit_at_index n q qubits k parts.0 in
    let rest = own_outcome n qubits qs k parts.1 in
    let count = length-map qs (λ q. index_of q qubits) in
    outcome_first (length qubits) (index_of q qubits) (places_in qubits qs) (outcome_at n qubits k)
    ∙ (rw (bit, rest, count) refl ∙ sym (outcome_first n q qs k))

-- the numerators with one outcome, read of others
projection_reads : (a b m : ℕ) (r x y : Amp) → a ≡ b → x ≡ amp_product r y
    → (if b == m then x else zero_amp) ≡ amp_product r (if a == m then y else zero_amp)
projection_reads a b m r x y same e = ⊎_elim
    (λ (t : (b == m) ≡ true).
    let own : (a == m) ≡ true = ap (λ z. z == m) same ∙ t in
    rw (t, own) e)
    (λ (t : (b == m) ≡ false).
    let own : (a == m) ≡ false = ap (λ z. z == m) same ∙ t in
    rw (t, own) (sym (times_zero r)))
    (cases_Bool (b == m))

module _ (s : State) (c : Cells) (own : ℕ → ℕ) (p : IsPartition s.qubits c.groups own) (e : ℕ) (h : Reads s c e)
    (g : ℕ) (G : Held) (there : c.groups g ≡ Some G) (shaped : IsShaped G) where
  -- the group's own place of a place of all qubits
  abbrev place : ℕ → ℕ
  place k = outcome_at s.qubits G.qubits k

  -- the numerator at a place of the whole state, and at one of the group, after the projection
  abbrev whole_at : List ℕ → ℕ → ℕ → Amp
  whole_at qs m k = if outcome_at s.qubits qs k == m then amp_at s.nums k else zero_amp

  -- the group's numerator there
  abbrev own_at : List ℕ → ℕ → ℕ → Amp
  own_at qs m j = if outcome_at (length G.qubits) (places_in G.qubits qs) j == m then amp_at G.nums j else zero_amp

  -- the whole numerator with the measured group in its place
  measured_out : (qs : List ℕ) (m k : ℕ) → whole_amp s.qubits (record c { groups = with_at g (Some (measured qs m G)) c.groups }) k
      ≡ amp_product (amp_at (measured qs m G).nums (place k)) (rest_amp s.qubits g c.groups k)
  measured_out qs m k =
      group_comes_out s.qubits (record c { groups = with_at g (Some (measured qs m G)) c.groups }) g (measured qs m G)
      ((p.each g G there).made g (p.each g G there).named) (with_at_in g g (Some (measured qs m G)) c.groups (eq-eqb g g refl)) k
      ∙ ap (amp_product (amp_at (measured qs m G).nums (place k))) (rest_changed s.qubits g c.groups (Some (measured qs m G)) k)

  -- the projection of the whole state reads the group after its projection
  pub measure_event : (qs : List ℕ) (m : ℕ) → list_all (λ q. has q G.qubits) qs ≡ true
      → Reads (projected qs m s) (record c { groups = with_at g (Some (measured qs m G)) c.groups }) (e + (G.h - (measured qs m G).h))
  measure_event qs m has_all k small =
      let own_small = outcome_small s.qubits G.qubits k in
      combine
      (amp_at (projected qs m s).nums k) (whole_at qs m k) (own_at qs m (place k))
      (amp_at (projection qs m G).nums (place k)) (root2_power e) (rest_amp s.qubits g c.groups k)
      (root2_power (G.h - (measured qs m G).h)) (amp_at (measured qs m G).nums (place k))
      (root2_power (e + (G.h - (measured qs m G).h)))
      (whole_amp s.qubits (record c { groups = with_at g (Some (measured qs m G)) c.groups }) k)
      (state_at s.qubits k (whole_at qs m) small)
      (projection_reads _ _ m (amp_product (root2_power e) (rest_amp s.qubits g c.groups k)) (amp_at s.nums k) (amp_at G.nums (place k))
      (own_outcome s.qubits G.qubits qs k has_all) (read_at s c own p e h g G there shaped k small))
      (sym (state_at (length G.qubits) (place k) (own_at qs m) own_small))
      (least_reads (projection qs m G).nums G.h (place k))
      (power_sum e (G.h - (measured qs m G).h))
      (measured_out qs m k)
