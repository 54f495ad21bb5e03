-- Groups under an assignment of bits to qubits, and the product of several.
use Rattle.std.specs.Prelude.{ℕ, ◌+◌, ◌*◌, ◌<◌, List, [], ◌∷◌}
use Rattle.cqp_ring.specs.declared.amp.Amp.{Amp}
use Rattle.cqp_ring.specs.Amp.{one_amp, amp_product}
use Rattle.cqp_vector.specs.State.{amp_at}
use Rattle.cqp_vector.specs.Group.{Group}

-- a number in binary with the bits of these qubits behind it
abbrev pub place_after : (ℕ → ℕ) → ℕ → List ℕ → ℕ
place_after b m [] = m
place_after b m (q ∷ qs) = place_after b (2 * m + b q) qs

-- the place of these qubits with their bits
abbrev pub place_with : (ℕ → ℕ) → List ℕ → ℕ
place_with b qs = place_after b 0 qs

-- the numerator of a group at the bits of its qubits
abbrev pub amp_with : (ℕ → ℕ) → Group → Amp
amp_with b g = amp_at g.nums (place_with b g.qubits)

-- the product of the numerators of some groups
abbrev pub product_with : (ℕ → ℕ) → List Group → Amp
product_with b [] = one_amp
product_with b (g ∷ gs) = amp_product (amp_with b g) (product_with b gs)

-- each is 0 or 1
abbrev pub AreBits : (ℕ → ℕ) → Type 0
AreBits b = (q : ℕ) → b q < 2
