-- A place of the whole state where each group stands at the place that tells what is over.
use Rattle.std.proofs.Common.{◌≡◌, ◌⊎◌, inl, ℕ, List, [], ◌∷◌, ◌+◌, ◌*◌, ◌^◌, ◌<◌, ◌-◌, true, length, map, Option, Some, None, refl, ap, subst, ◌∙◌}
use Rattle.std.specs.List.{range_with_len}
use Rattle.std.proofs.lemmas.List.FromFn.{length-range_with_len}
use Rattle.cqp_book.specs.Keys.{has}
use Rattle.cqp_vector.specs.State.{State, qubit_bit}
use Rattle.cqp_vector.specs.Measurement.{outcome_at}
use Rattle.cqp_vector.proofs.Bits.{bit_cases}
use Rattle.cqp_machine.specs.Factors.{Held, bit_in, index_of, with_bits}
use Rattle.cqp_machine.specs.Cells.{Cells}
use Rattle.cqp_machine.specs.Sums.{exponents}
use Rattle.cqp_places.proofs.Assignments.{Bits, value_of}
use Rattle.cqp_norms.proofs.BitSums.{AreBits, value_small}
use Rattle.cqp_norms.proofs.NormHalf.{value_alike, outcome_is_value, bit_at}
use Rattle.cqp_places.proofs.SplitBits.{own_bits}
use Rattle.cqp_norms.specs.StateStands.{StateStands}

-- bits put together, in two words
value_is_bits : (m : ℕ) (qs : List ℕ) (b : Bits) → value_of m qs b ≡ with_bits m (map b qs)
value_is_bits m [] b = refl
value_is_bits m (q ∷ qs) b = value_is_bits (2 * m + b q) qs b

-- the bit of a qubit at a place of its group
abbrev pub bit_for : (Held → ℕ) → Option Held → ℕ → ℕ
bit_for place None q = 0
bit_for place (Some G) q = bit_in G.qubits q (place G)

-- it is a bit, also where no group is
bit_for_cases : (place : Held → ℕ) (x : Option Held) (q : ℕ) → (bit_for place x q ≡ 0) ⊎ (bit_for place x q ≡ 1)
bit_for_cases place None q = inl refl
bit_for_cases place (Some G) q = bit_cases (length G.qubits) (index_of q G.qubits) (place G)

-- whatever place is chosen in each group, there is one of the whole state
module _ (c : Cells) (h : ℕ) (s : State) (x : StateStands c h s) (place : Held → ℕ) where
  -- the bits of the place that each group tells
  abbrev bits : Bits
  bits q = bit_for place (c.groups (x.own q)) q

  -- the place of the whole state with these bits
  abbrev pub witness : ℕ
  witness = value_of 0 (range_with_len 0 s.qubits) bits

  -- they are bits
  are_bits : AreBits bits
  are_bits q = bit_for_cases place (c.groups (x.own q)) q

  -- the place is one of the whole state
  pub witness_small : witness < 2 ^ s.qubits
  witness_small =
      subst (λ n. value_of 0 (range_with_len 0 s.qubits) bits < 2 ^ n) (length-range_with_len 0 s.qubits)
      (value_small (range_with_len 0 s.qubits) bits are_bits)

  module _ (g : ℕ) (G : Held) (there : c.groups g ≡ Some G) where
    -- each qubit of the group has the bit of the group's place
    own_bit : (q : ℕ) → has q G.qubits ≡ true → bits q ≡ bit_in G.qubits q (place G)
    own_bit q t = ap (λ y. bit_for place y q) (ap c.groups ((x.partition.each g G there).owned q t) ∙ there)

    -- and that bit in the place of the whole state
    whole_bit : (q : ℕ) → has q G.qubits ≡ true → qubit_bit s.qubits q witness ≡ bits q
    whole_bit q t =
        bit_at s c x.own x.partition x.covers (λ g G t. (x.good g G t).shape) (h - exponents s.qubits c) x.reads x.whole bits are_bits q
        ((x.partition.each g G there).made q t)

    -- so the group stands at its place
    pub stands_at : place G < 2 ^ length G.qubits → outcome_at s.qubits G.qubits witness ≡ place G
    stands_at small =
        outcome_is_value 0 s.qubits G.qubits witness bits whole_bit
        ∙ (value_alike 0 G.qubits bits (λ q. bit_in G.qubits q (place G)) own_bit
        ∙ (value_is_bits 0 G.qubits (λ q. bit_in G.qubits q (place G)) ∙ own_bits G.qubits (x.good g G there).shape.distinct (place G) small))
