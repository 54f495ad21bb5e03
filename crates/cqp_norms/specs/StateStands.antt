-- The groups stand for a state.
use Rattle.std.specs.Prelude.{◌≡◌, ℕ, true, ◌-◌, ◌^◌, ◌≤◌, ◌<◌, length, Some}
use Rattle.cqp_book.specs.Keys.{has}
use Rattle.cqp_vector.specs.State.{State}
use Rattle.cqp_machine.specs.Factors.{Held}
use Rattle.cqp_machine.specs.Cells.{Cells, with_at}
use Rattle.cqp_machine.specs.Sums.{exponents}
use Rattle.cqp_products.specs.Reads.{IsShaped, IsFixed, Reads}
use Rattle.cqp_places.specs.Places.{IsDistinct}
use Rattle.cqp_fresh.specs.Partition.{IsPartition}

-- a group has all its places, and what its last measurement fixed is fixed
pub record IsGood (G : Held) : Type 0 where
  pub shape : IsShaped G
  pub fixed : IsFixed G
  pub apart : IsDistinct G.due

-- each made qubit is in its owner's group
abbrev pub Covers : State → Cells → (ℕ → ℕ) → Type 0
Covers s c own =
    (q : ℕ) → q < s.qubits
    → (G : Held) × (c.groups (own q) ≡ Some G) × (has q G.qubits ≡ true)

-- the groups stand for a state after so many H
pub record StateStands (c : Cells) (h : ℕ) (s : State) : Type 0 where
  pub own : ℕ → ℕ
  pub partition : IsPartition s.qubits c.groups own
  pub good : (g : ℕ) (G : Held) → c.groups g ≡ Some G → IsGood G
  pub covers : Covers s c own
  pub whole : length s.nums ≡ 2 ^ s.qubits
  pub within : exponents s.qubits c ≤ h
  pub reads : Reads s c (h - exponents s.qubits c)

-- the cells with another group under a name
abbrev pub changed : Cells → ℕ → Held → Cells
changed c g G = record c { groups = with_at g (Some G) c.groups }
