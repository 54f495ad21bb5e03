-- The numerators of a state are those of groups, times a power of root 2.
use Rattle.std.specs.Prelude.{◌≡◌, ℕ, ◌^◌, ◌<◌, length, ◌≢◌}
use Rattle.cqp_ring.specs.Amp.{zero_amp, amp_product}
use Rattle.cqp_vector.specs.State.{State, amp_at}
use Rattle.cqp_vector.specs.Measurement.{outcome_at}
use Rattle.cqp_machine.specs.Factors.{Held, places_in, first_place}
use Rattle.cqp_machine.specs.Cells.{Cells}
use Rattle.cqp_vector.specs.Least.{root2_power}
use Rattle.cqp_machine.specs.Sums.{whole_amp}
use Rattle.cqp_places.specs.Places.{IsDistinct}

-- a group's qubits are distinct, and it has all its places
pub record IsShaped (G : Held) : Type 0 where
  pub distinct : IsDistinct G.qubits
  pub whole : length G.nums ≡ 2 ^ length G.qubits

-- the numerators that aren't 0 have one outcome of the due qubits, that of the first
abbrev pub IsFixed : Held → Type 0
IsFixed G =
    (j : ℕ) → j < 2 ^ length G.qubits → amp_at G.nums j ≢ zero_amp
    → outcome_at (length G.qubits) (places_in G.qubits G.due) j
    ≡ outcome_at (length G.qubits) (places_in G.qubits G.due) (first_place G.nums)

-- the numerators of a state are those of the groups, times a power of root 2
abbrev pub Reads : State → Cells → ℕ → Type 0
Reads s c e =
    (k : ℕ) → k < 2 ^ s.qubits
    → amp_at s.nums k ≡ amp_product (root2_power e) (whole_amp s.qubits c k)
