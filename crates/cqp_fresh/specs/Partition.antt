-- The groups share out the qubits that were made, and each is named by one of its own.
use Rattle.std.specs.Prelude.{◌≡◌, ℕ, true, ◌<◌, ◌≤◌, Option, Some, None}
use Rattle.cqp_book.specs.Keys.{has}
use Rattle.cqp_machine.specs.Factors.{Held}

-- the groups by their names
abbrev pub Groups : Type 0
Groups = ℕ → Option Held

-- what a group has: its name, qubits that it owns and that were made, and what is due among them
pub record IsOwn (n : ℕ) (own : ℕ → ℕ) (g : ℕ) (G : Held) : Type 0 where
  pub named : has g G.qubits ≡ true
  pub owned : (q : ℕ) → has q G.qubits ≡ true → own q ≡ g
  pub made : (q : ℕ) → has q G.qubits ≡ true → q < n
  pub due_in : (q : ℕ) → has q G.due ≡ true → has q G.qubits ≡ true

-- groups are named by qubits that were made, and each has its own
pub record IsPartition (n : ℕ) (m : Groups) (own : ℕ → ℕ) : Type 0 where
  pub fresh : (g : ℕ) → n ≤ g → m g ≡ None
  pub each : (g : ℕ) (G : Held) → m g ≡ Some G → IsOwn n own g G
