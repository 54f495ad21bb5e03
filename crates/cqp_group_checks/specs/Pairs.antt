-- Two qubits on the way to a Bell pair and to its measurement, worked out by hand.
use Rattle.std.specs.Prelude.{◌≡◌, ℕ, List, [], ◌∷◌, length, Option, pos}
use Rattle.cqp_ring.specs.declared.amp.Amp.{Amp}
use Rattle.cqp_machine.specs.Factors.{Held}
use Rattle.cqp_groups.specs.Groups.{groups_in}

-- a whole number
abbrev pub whole : ℕ → Amp
whole n = record { a = pos n; b = pos 0; c = pos 0; d = pos 0 }

-- a qubit by itself that is 0
abbrev pub alone : ℕ → Held
alone q = record { qubits = q ∷ []; nums = whole 1 ∷ whole 0 ∷ []; h = 0; due = [] }

-- qubit 0 after H
abbrev pub turned : Held
turned = record { qubits = 0 ∷ []; nums = whole 1 ∷ whole 1 ∷ []; h = 1; due = [] }

-- that beside qubit 1, as one group
abbrev pub both : Held
both = record {
  qubits = 0 ∷ 1 ∷ [];
  nums = whole 1 ∷ whole 0 ∷ whole 1 ∷ whole 0 ∷ [];
  h = 1;
  due = [];
}

-- the same after CNot
abbrev pub bell : Held
bell = record both { nums = whole 1 ∷ whole 0 ∷ whole 0 ∷ whole 1 ∷ [] }

-- the same after a measurement of qubit 0 with outcome 1
abbrev pub seen : Held
seen = record both { nums = whole 0 ∷ whole 0 ∷ whole 0 ∷ whole 1 ∷ []; due = 0 ∷ [] }

-- two qubits were made, and these are the groups
pub record AreTwo (slots : List (Option Held)) (a b : Option Held) : Type 0 where
  pub first : groups_in slots 0 ≡ a
  pub second : groups_in slots 1 ≡ b
  pub made : length slots ≡ 2

-- a Bell pair after X on qubit 1
abbrev pub flipped : Held
flipped = record both { nums = whole 0 ∷ whole 1 ∷ whole 1 ∷ whole 0 ∷ [] }
