-- The groups of a list as a state of the calculus.
use Rattle.std.specs.Prelude.{◌≡◌, ◌≢◌, ℕ, ◌+◌, ◌-◌, ◌^◌, ◌<◌, ◌≤◌, List, [], ◌∷◌, length, map}
use Rattle.std.specs.Prelude.{Option, Some, true}
use Rattle.cqp_ring.specs.declared.amp.Amp.{Amp}
use Rattle.cqp_ring.specs.Amp.{amp_product, one_amp}
use Rattle.cqp_ring.specs.declared.root.Root.{Root}
use Rattle.cqp_ring.specs.Root.{root_product, zero_root}
use Rattle.cqp_syntax.specs.declared.op.Op.{Op}
use Rattle.cqp_vector.specs.declared.odds.Odd.{Odd}
use Rattle.cqp_vector.specs.State.{State, amp_at, norm_of_state}
use Rattle.cqp_vector.specs.Measurement.{outcome_at}
use Rattle.cqp_vector.specs.Least.{root2_power}
use Rattle.cqp_vector.specs.Gate.{gate_of}
use Rattle.cqp_vector.specs.Group.{Group, factors_left_out}
use Rattle.cqp_vector.specs.Odds.{odds_of}
use Rattle.cqp_machine.specs.Factors.{Held}
use Rattle.cqp_norms.specs.StateStands.{StateStands}
use Rattle.cqp_groups.specs.Groups.{as_cells, groups_in, holds}

-- the groups stand for the state after h H, and there is a place for each of its qubits
pub record AreState (slots : List (Option Held)) (h : ℕ) (s : State) : Type 0 where
  pub places : length slots ≡ s.qubits
  pub stands : StateStands (as_cells slots) h s

-- what stood for a state stands for what the change makes of it
abbrev pub IsChange : List (Option Held) → List (Option Held) → (State → State) → Type 0
IsChange old new change = (h : ℕ) (s : State) → AreState old h s → AreState new h (change s)

-- nothing is due in the group
abbrev pub HasNoneDue : List (Option Held) → ℕ → Type 0
HasNoneDue slots group = (g : Held) → groups_in slots group ≡ Some g → g.due ≡ []

-- what stood for a state, with nothing due in the group, stands for the state after the gate, and
-- after one H more where the gate is H
abbrev pub IsGate : List (Option Held) → List (Option Held) → ℕ → Op → List ℕ → Type 0
IsGate old new group o qs =
    (h : ℕ) (s : State) → HasNoneDue old group → AreState old h s
    → AreState new (h + factors_left_out o) (gate_of o qs s)

-- the qubit is in exactly one group
pub record IsAlone (slots : List (Option Held)) (q : ℕ) : Type 0 where
  pub group : ℕ
  pub there : holds q (groups_in slots group) ≡ true
  pub only : (n : ℕ) → holds q (groups_in slots n) ≡ true → n ≡ group

-- an outcome whose norm is so many times as great
abbrev pub scaled : Root → Odd → Odd
scaled r o = record { outcome = o.outcome; norm = root_product r o.norm }

-- the odds are those of the state, but for one scale of all norms that isn't 0
pub record AreOddsOf (odds : List Odd) (qs : List ℕ) (s : State) : Type 0 where
  pub scale : Root
  pub some : scale ≢ zero_root
  pub same : map (scaled scale) odds ≡ odds_of qs s

-- the odds are those of each state, not zero, that the groups stand for
abbrev pub TellState : List (Option Held) → List ℕ → List Odd → Type 0
TellState slots qs odds =
    (h : ℕ) (s : State) → AreState slots h s → norm_of_state s ≢ zero_root → AreOddsOf odds qs s

-- the product of the factors' numerators at their own bits of place k, of n qubits
abbrev pub amp_of_factors : ℕ → ℕ → List Group → Amp
amp_of_factors n k [] = one_amp
amp_of_factors n k (g ∷ gs) =
    amp_product (amp_at g.nums (outcome_at n g.qubits k)) (amp_of_factors n k gs)

-- the sum of the factors' exponents
abbrev pub h_of_factors : List Group → ℕ
h_of_factors [] = 0
h_of_factors (g ∷ gs) = g.h + h_of_factors gs

-- the state's numerators after h H are the products of the factors', times the powers of root 2
-- that they were divided by
pub record AreFactorsOf (gs : List Group) (h : ℕ) (s : State) : Type 0 where
  pub within : h_of_factors gs ≤ h
  pub numerators : (k : ℕ) → k < 2 ^ s.qubits
      → amp_at s.nums k
      ≡ amp_product (root2_power (h - h_of_factors gs)) (amp_of_factors s.qubits k gs)

-- the factors are those of each state that the groups stand for
abbrev pub TellFactors : List (Option Held) → List Group → Type 0
TellFactors slots gs = (h : ℕ) (s : State) → AreState slots h s → AreFactorsOf gs h s
