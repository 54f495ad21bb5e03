-- A gate on a group and the gate on the whole state leave the same state.
use Rattle.std.proofs.Common.{◌≡◌, ℕ, true, false, ◌==◌, ◌&&◌, List, [], ◌∷◌, ◌+◌, ◌-◌, ◌^◌, ◌≤◌, ◌<◌, length, map, Some, refl, sym, ap, arith, eq-eqb, ◌∙◌}
use Rattle.std.proofs.Common.{⊎_elim}
use Rattle.std.proofs.lemmas.Bool.{and_parts, and_from, cases_Bool}
use Rattle.std.specs.List.{list_all, range_with_len}
use Rattle.std.proofs.lemmas.List.FromFn.{get_or-map-range_with_len}
use Rattle.cqp_ring.specs.declared.amp.Amp.{Amp}
use Rattle.cqp_ring.specs.Amp.{zero_amp, amp_product}
use Rattle.cqp_ring.proofs.NormLemmas.{amp_product_comm, amp_product_assoc}
use Rattle.cqp_syntax.specs.declared.op.Op.{Op}
use Rattle.cqp_syntax.specs.declared.op.Op.TheVariants as op
use Rattle.cqp_book.specs.Keys.{has}
use Rattle.cqp_vector.specs.State.{State, amp_at, qubit_bit, with_zero, with_one, exchanged}
use Rattle.cqp_vector.specs.Gate.{after_gate, after_controlled, are_ones, swapped, gate_of}
use Rattle.cqp_vector.specs.Measurement.{outcome_at}
use Rattle.cqp_vector.proofs.Pairs.{partner_above}
use Rattle.cqp_vector.specs.Group.{factors_left_out}
use Rattle.cqp_machine.specs.Factors.{Held, index_of, places_in, state_of, gated}
use Rattle.cqp_machine.specs.Cells.{Cells, with_at}
use Rattle.cqp_vector.specs.Least.{root2_power}
use Rattle.cqp_machine.specs.Sums.{whole_amp}
use Rattle.cqp_vector.proofs.Bits.{low_bit_of}
use Rattle.cqp_places.specs.Places.{AreBelow}
use Rattle.cqp_places.proofs.PlaceLemmas.{outcome_small, bit_at_index, zero_at_index, one_of_index}
use Rattle.cqp_fresh.specs.Partition.{IsPartition}
use Rattle.cqp_places.proofs.GateHalf.{IsRead, single, at_other, factor_first}
use Rattle.cqp_products.proofs.ProductHalf.{all_below, group_out, rest_amp, rest_zero, rest_one, rest_changed, power_sum, group_comes_out}
use Rattle.cqp_products.proofs.LeastHalf.{least_reads}
use Rattle.cqp_local.proofs.PlacedLemmas.{with_at_in}
use Rattle.cqp_products.specs.Reads.{IsShaped, Reads}

-- the numerator is read at a place with two bits put to the others
abbrev ReadsTwice : ℕ → ℕ → Amp → State → State → List ℕ → Type 0
ReadsTwice k j r s t qubits =
    (q u : ℕ) → has q qubits ≡ true → has u qubits ≡ true
    → amp_at s.nums (exchanged s.qubits q (exchanged s.qubits u k))
    ≡ amp_product r (amp_at t.nums (exchanged t.qubits (index_of q qubits) (exchanged t.qubits (index_of u qubits) j)))

-- each qubit of a gate is read
module _ (k j : ℕ) (r : Amp) (s t : State) (qubits : List ℕ)
    (reads : (q : ℕ) → has q qubits ≡ true → IsRead s.qubits t.qubits q (index_of q qubits) k j r s.nums t.nums)
    (twice : ReadsTwice k j r s t qubits)
    (here : amp_at s.nums k ≡ amp_product r (amp_at t.nums j)) where
  -- the controls are 1 in both places or in none
  controls : (cs : List ℕ) → list_all (λ q. has q qubits) cs ≡ true → are_ones t.qubits (places_in qubits cs) j ≡ are_ones s.qubits cs k
  controls [] h = refl
  controls (q ∷ cs) h =
      let parts = and_parts (has q qubits) (list_all (λ q. has q qubits) cs) h in
      let bit : (qubit_bit t.qubits (index_of q qubits) j == 1) ≡ (qubit_bit s.qubits q k == 1) = ap (λ b. b == 1) (reads q parts.0).bit in
      let rest = controls cs parts.1 in
      λ i. bit i && rest i

  -- a gate of one qubit under controls
  controlled : (o : Op) (cs : List ℕ) (q : ℕ) → list_all (λ q. has q qubits) cs ≡ true → has q qubits ≡ true
      → after_controlled o s.qubits cs q s.nums k ≡ amp_product r (after_controlled o t.qubits (places_in qubits cs) (index_of q qubits) t.nums j)
  controlled o cs q h there = ⊎_elim
      (λ (u : are_ones s.qubits cs k ≡ true).
      let own : are_ones t.qubits (places_in qubits cs) j ≡ true = controls cs h ∙ u in
      rw (u, own) (single s.qubits t.qubits q (index_of q qubits) k j r s.nums t.nums (reads q there) o))
      (λ (u : are_ones s.qubits cs k ≡ false).
      let own : are_ones t.qubits (places_in qubits cs) j ≡ false = controls cs h ∙ u in
      rw (u, own) here)
      (cases_Bool (are_ones s.qubits cs k))

  -- two bits that change places
  exchanged_two : (q u : ℕ) → has q qubits ≡ true → has u qubits ≡ true
      → amp_at s.nums (swapped s.qubits q u k) ≡ amp_product r (amp_at t.nums (swapped t.qubits (index_of q qubits) (index_of u qubits) j))
  exchanged_two q u a b =
      let first = (reads q a).bit in
      let second = (reads u b).bit in
      let test : (qubit_bit t.qubits (index_of q qubits) j == qubit_bit t.qubits (index_of u qubits) j) ≡ (qubit_bit s.qubits q k == qubit_bit s.qubits u k) =
      λ i. first i == second i in
      ⊎_elim
      (λ (v : (qubit_bit s.qubits q k == qubit_bit s.qubits u k) ≡ true).
      let own : (qubit_bit t.qubits (index_of q qubits) j == qubit_bit t.qubits (index_of u qubits) j) ≡ true = test ∙ v in
      rw (v, own) here)
      (λ (v : (qubit_bit s.qubits q k == qubit_bit s.qubits u k) ≡ false).
      let own : (qubit_bit t.qubits (index_of q qubits) j == qubit_bit t.qubits (index_of u qubits) j) ≡ false = test ∙ v in
      rw (v, own) (twice q u a b))
      (cases_Bool (qubit_bit s.qubits q k == qubit_bit s.qubits u k))

  -- each gate on the whole state reads the same gate on the group
  gate_reads : (o : Op) (qs : List ℕ) → list_all (λ q. has q qubits) qs ≡ true
      → after_gate o qs s k ≡ amp_product r (after_gate o (places_in qubits qs) t j)
  gate_reads op.CNot (q ∷ u ∷ []) h =
      let parts = and_parts (has q qubits) (list_all (λ q. has q qubits) (u ∷ [])) h in
      controlled op.X (q ∷ []) u (and_from (has q qubits) true parts.0 refl) (and_parts (has u qubits) true parts.1).0
  gate_reads op.CZ (q ∷ u ∷ []) h =
      let parts = and_parts (has q qubits) (list_all (λ q. has q qubits) (u ∷ [])) h in
      controlled op.Z (q ∷ []) u (and_from (has q qubits) true parts.0 refl) (and_parts (has u qubits) true parts.1).0
  gate_reads op.Swap (q ∷ u ∷ []) h =
      let parts = and_parts (has q qubits) (list_all (λ q. has q qubits) (u ∷ [])) h in
      exchanged_two q u parts.0 (and_parts (has u qubits) true parts.1).0
  gate_reads op.Toffoli (q ∷ u ∷ v ∷ []) h =
      let first = and_parts (has q qubits) (list_all (λ q. has q qubits) (u ∷ v ∷ [])) h in
      let second = and_parts (has u qubits) (list_all (λ q. has q qubits) (v ∷ [])) first.1 in
      let third = and_parts (has v qubits) true second.1 in
      controlled op.X (q ∷ u ∷ []) v (and_from (has q qubits) (list_all (λ q. has q qubits) (u ∷ [])) first.0
      (and_from (has u qubits) true second.0 refl)) third.0
  gate_reads o (q ∷ []) h =
      let parts = and_parts (has q qubits) true h in
      single s.qubits t.qubits q (index_of q qubits) k j r s.nums t.nums (reads q parts.0) o
  gate_reads o qs h = here

-- what a list that is made place by place has at a place
pub state_at : (n k : ℕ) (f : ℕ → Amp) → k < 2 ^ n → amp_at (map f (range_with_len 0 (2 ^ n))) k ≡ f k
state_at n k f h = get_or-map-range_with_len f 0 (2 ^ n) k k zero_amp h (omega arith)

-- three factors in another order
turn_round : (c a r : Amp) → amp_product c (amp_product a r) ≡ amp_product (amp_product c r) a
turn_round c a r = ap (amp_product c) (amp_product_comm a r) ∙ sym (amp_product_assoc c r a)

-- four factors in another order
pub take_out : (c r p x : Amp) → amp_product (amp_product c r) (amp_product p x) ≡ amp_product (amp_product c p) (amp_product x r)
take_out c r p x =
    amp_product_assoc c r (amp_product p x)
    ∙ (ap (amp_product c) (factor_first r p x ∙ ap (amp_product p) (amp_product_comm r x)) ∙ sym (amp_product_assoc c p (amp_product x r)))

-- a numerator of the whole state, by what it reads of the group
pub combine : (whole gate own nums c r p x cp w : Amp) → whole ≡ gate → gate ≡ amp_product (amp_product c r) own → own ≡ nums
    → nums ≡ amp_product p x → amp_product c p ≡ cp → w ≡ amp_product x r → whole ≡ amp_product cp w
combine whole gate own nums c r p x cp w a b d f g k =
    a ∙ (b ∙ (ap (amp_product (amp_product c r)) (d ∙ f) ∙ (take_out c r p x ∙ (ap (λ t. amp_product t (amp_product x r)) g ∙ ap (amp_product cp) (sym k)))))

module _ (s : State) (c : Cells) (own_of : ℕ → ℕ) (p : IsPartition s.qubits c.groups own_of) (e : ℕ) (h : Reads s c e)
    (g : ℕ) (G : Held) (there : c.groups g ≡ Some G) (shaped : IsShaped G) where
  -- the other groups' numerators, with the power
  abbrev pub others : ℕ → Amp
  others k = amp_product (root2_power e) (rest_amp s.qubits g c.groups k)

  -- the group's own place of a place of all qubits
  abbrev pub own_place : ℕ → ℕ
  own_place k = outcome_at s.qubits G.qubits k

  -- the group's qubits were made
  below : AreBelow s.qubits G.qubits
  below = all_below s.qubits G.qubits (p.each g G there).made

  -- each numerator is the group's own times those
  pub read_at : (k : ℕ) → k < 2 ^ s.qubits → amp_at s.nums k ≡ amp_product (others k) (amp_at G.nums (own_place k))
  read_at k small =
      h k small
      ∙ (ap (amp_product (root2_power e)) (group_out s.qubits c.groups own_of p c refl g G there k)
      ∙ turn_round (root2_power e) (amp_at G.nums (own_place k)) (rest_amp s.qubits g c.groups k))

  -- each of its qubits is read
  reads_at : (k : ℕ) → k < 2 ^ s.qubits → (q : ℕ) → has q G.qubits ≡ true
      → IsRead s.qubits (length G.qubits) q (index_of q G.qubits) k (own_place k) (others k) s.nums G.nums
  reads_at k small q t =
      let made = (p.each g G there).made q t in
      let low : with_zero s.qubits q k ≤ k = omega arith in
      let high : with_one s.qubits q k < 2 ^ s.qubits =
      partner_above s.qubits q (with_zero s.qubits q k) made (omega arith) (low_bit_of s.qubits q k) in
      let same = rest_zero s.qubits c.groups own_of p g G there q t k in
      let same_too = rest_one s.qubits c.groups own_of p g G there q t k in
      record {
        bit = bit_at_index s.qubits q G.qubits k t;
        here = read_at k small;
        zero = read_at (with_zero s.qubits q k) (omega arith)
            ∙ (ap (λ x. amp_product (amp_product (root2_power e) x) (amp_at G.nums (own_place (with_zero s.qubits q k)))) same
            ∙ ap (λ x. amp_product (others k) (amp_at G.nums x)) (zero_at_index s.qubits q made G.qubits k below shaped.distinct t));
        one = read_at (with_one s.qubits q k) high
            ∙ (ap (λ x. amp_product (amp_product (root2_power e) x) (amp_at G.nums (own_place (with_one s.qubits q k)))) same_too
            ∙ ap (λ x. amp_product (others k) (amp_at G.nums x)) (one_of_index s.qubits q made G.qubits k below shaped.distinct t));
      }

  -- a place with another bit of one of its qubits
  other_place : (k : ℕ) → k < 2 ^ s.qubits → (q : ℕ) → has q G.qubits ≡ true
      → (exchanged s.qubits q k < 2 ^ s.qubits)
      × (own_place (exchanged s.qubits q k) ≡ exchanged (length G.qubits) (index_of q G.qubits) (own_place k))
      × (others (exchanged s.qubits q k) ≡ others k)
  other_place k small q t =
      let made = (p.each g G there).made q t in
      let low : with_zero s.qubits q k < 2 ^ s.qubits = omega arith in
      let high : with_one s.qubits q k < 2 ^ s.qubits =
      partner_above s.qubits q (with_zero s.qubits q k) made (omega arith) (low_bit_of s.qubits q k) in
      let bit = bit_at_index s.qubits q G.qubits k t in
      ⊎_elim
      (λ (u : (qubit_bit s.qubits q k == 0) ≡ true).
      let own : (qubit_bit (length G.qubits) (index_of q G.qubits) (own_place k) == 0) ≡ true = ap (λ b. b == 0) bit ∙ u in
      rw (u, own) (
        high,
        one_of_index s.qubits q made G.qubits k below shaped.distinct t,
        ap (amp_product (root2_power e))
            (rest_one s.qubits c.groups own_of p g G there q t k),
      ))
      (λ (u : (qubit_bit s.qubits q k == 0) ≡ false).
      let own : (qubit_bit (length G.qubits) (index_of q G.qubits) (own_place k) == 0) ≡ false = ap (λ b. b == 0) bit ∙ u in
      rw (u, own) (
        low,
        zero_at_index s.qubits q made G.qubits k below shaped.distinct t,
        ap (amp_product (root2_power e))
            (rest_zero s.qubits c.groups own_of p g G there q t k),
      ))
      (cases_Bool (qubit_bit s.qubits q k == 0))

  -- and so are two of them
  twice_at : (k : ℕ) → k < 2 ^ s.qubits → ReadsTwice k (own_place k) (others k) s (state_of G) G.qubits
  twice_at k small q u a b =
      let moved = other_place k small u b in
      let read = at_other s.qubits (length G.qubits) q (index_of q G.qubits) (exchanged s.qubits u k) (own_place (exchanged s.qubits u k))
      (others (exchanged s.qubits u k)) s.nums G.nums (reads_at (exchanged s.qubits u k) moved.0 q a) in
      let place = moved.1 in
      let same = moved.2 in
      read ∙ (λ i. amp_product (same i) (amp_at G.nums (exchanged (length G.qubits) (index_of q G.qubits) (place i))))

  -- the group's exponent before it is made least
  abbrev raised : Op → ℕ
  raised o = G.h + factors_left_out o

  -- what the gate leaves of the group, before and after it is made least
  abbrev gate_nums : Op → List ℕ → List Amp
  gate_nums o qs = (gate_of o (places_in G.qubits qs) (state_of G)).nums

  -- the product with the group after the gate
  changed_out : (o : Op) (qs : List ℕ) (k : ℕ) → whole_amp s.qubits (record c { groups = with_at g (Some (gated o qs G)) c.groups }) k
      ≡ amp_product (amp_at (gated o qs G).nums (own_place k)) (rest_amp s.qubits g c.groups k)
  changed_out o qs k =
      group_comes_out s.qubits (record c { groups = with_at g (Some (gated o qs G)) c.groups }) g (gated o qs G)
      ((p.each g G there).made g (p.each g G there).named) (with_at_in g g (Some (gated o qs G)) c.groups (eq-eqb g g refl)) k
      ∙ ap (amp_product (amp_at (gated o qs G).nums (own_place k))) (rest_changed s.qubits g c.groups (Some (gated o qs G)) k)

  -- the gate on the whole state reads the group after the gate
  pub gate_event : (o : Op) (qs : List ℕ) → list_all (λ q. has q G.qubits) qs ≡ true
      → Reads (gate_of o qs s) (record c { groups = with_at g (Some (gated o qs G)) c.groups }) (e + (raised o - (gated o qs G).h))
  gate_event o qs has_all k small =
      let own_small = outcome_small s.qubits G.qubits k in
      combine
      (amp_at (gate_of o qs s).nums k) (after_gate o qs s k) (after_gate o (places_in G.qubits qs) (state_of G) (own_place k))
      (amp_at (gate_nums o qs) (own_place k)) (root2_power e) (rest_amp s.qubits g c.groups k)
      (root2_power (raised o - (gated o qs G).h)) (amp_at (gated o qs G).nums (own_place k))
      (root2_power (e + (raised o - (gated o qs G).h)))
      (whole_amp s.qubits (record c { groups = with_at g (Some (gated o qs G)) c.groups }) k)
      (state_at s.qubits k (after_gate o qs s) small)
      (gate_reads k (own_place k) (others k) s (state_of G) G.qubits (reads_at k small) (twice_at k small) (read_at k small) o qs has_all)
      (sym (state_at (length G.qubits) (own_place k) (after_gate o (places_in G.qubits qs) (state_of G)) own_small))
      (least_reads (gate_nums o qs) (raised o) (own_place k))
      (power_sum e (raised o - (gated o qs G).h))
      (changed_out o qs k)
