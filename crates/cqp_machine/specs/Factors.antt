-- Groups of qubits as they stand in cells, and what gates, measurements, joins and splits make of
-- them. All but the due qubits is said of the factor.
use Rattle.std.specs.Prelude.{ℕ, ◌+◌, ◌*◌, ◌^◌, List, [], ◌∷◌, ◌++◌, map, filter, length, Bool}
use Rattle.std.specs.Prelude.{◌==◌, ◌&&◌, not, nat_lt, if◌then◌else◌}
use Rattle.std.specs.List.{range_with_len}
use Rattle.cqp_book.specs.Keys.{has}
use Rattle.cqp_ring.specs.declared.amp.Amp.{Amp}
use Rattle.cqp_ring.specs.Amp.{zero_amp, one_amp}
use Rattle.cqp_syntax.specs.declared.op.Op.{Op}
use Rattle.cqp_vector.specs.State.{State, amp_at, qubit_bit}
use Rattle.cqp_vector.specs.Measurement.{outcome_at, projected, is_zero_amp}
use Rattle.cqp_vector.specs.Group.{Group, made_least}
use Rattle.cqp_vector.specs.Group as factor

-- a factor, with the measured qubits that are due to leave it
pub record Held : Type 0 where
  pub qubits : List ℕ
  pub nums : List Amp
  pub h : ℕ
  pub due : List ℕ

-- the factor alone
abbrev pub factor_of : Held → Group
factor_of g = record { qubits = g.qubits; nums = g.nums; h = g.h }

-- a factor with these qubits due
abbrev pub with_due : List ℕ → Group → Held
with_due due g = record { qubits = g.qubits; nums = g.nums; h = g.h; due = due }

-- the place of a number in a list
abbrev pub index_of : ℕ → List ℕ → ℕ
index_of q [] = 0
index_of q (x ∷ xs) = if q == x then 0 else index_of q xs + 1

-- the places of qubits in a group's list
abbrev pub places_in : List ℕ → List ℕ → List ℕ
places_in qubits qs = map (λ q. index_of q qubits) qs

-- the group's numerators as a state of its own qubits
abbrev pub state_of : Held → State
state_of g = factor.state_of (factor_of g)

-- the group's level
abbrev pub level_of : Held → ℕ
level_of g = factor.level_of (factor_of g)

-- a new qubit is 0
abbrev pub new_group : ℕ → Held
new_group q = with_due [] (factor.made q)

-- a gate on qubits of the group
abbrev pub gated : Op → List ℕ → Held → Held
gated o qs g = with_due g.due (made_least (factor.gated o (places_in g.qubits qs) (factor_of g)))

-- the projection of the group on an outcome of its qubits
abbrev pub projection : List ℕ → ℕ → Held → State
projection qs m g = projected (places_in g.qubits qs) m (state_of g)

-- the measured qubits are due where the group has others or several
abbrev pub due_after : List ℕ → List ℕ → List ℕ
due_after qubits qs = if nat_lt 1 (length qubits) then qs else []

-- after a measurement
abbrev pub measured : List ℕ → ℕ → Held → Held
measured qs m g =
    with_due (due_after g.qubits qs)
    (made_least (factor.projection (places_in g.qubits qs) m (factor_of g)))

-- the product of two groups, the qubits of the left one first
abbrev pub joined : Held → Held → Held
joined l r = with_due [] (made_least (factor.joined (factor_of l) (factor_of r)))

-- the first place whose numerator isn't 0
abbrev pub first_place : List Amp → ℕ
first_place [] = 0
first_place (x ∷ xs) = if is_zero_amp x then first_place xs + 1 else 0

-- the bit of a qubit of the group in one of its places
abbrev pub bit_in : List ℕ → ℕ → ℕ → ℕ
bit_in qubits q k = qubit_bit (length qubits) (index_of q qubits) k

-- a number in binary with these bits behind it
abbrev pub with_bits : ℕ → List ℕ → ℕ
with_bits m [] = m
with_bits m (b ∷ bs) = with_bits (2 * m + b) bs

-- the qubits that stay
abbrev pub rest_of : List ℕ → List ℕ → List ℕ
rest_of qubits qs = filter (λ q. not (has q qs)) qubits

-- the group's place that has the measured bits of place k, and those of place j of the rest
abbrev pub place_with : List ℕ → List ℕ → ℕ → ℕ → ℕ
place_with qubits qs k j =
    with_bits 0
    (map (λ q. if has q qs then bit_in qubits q k else bit_in (rest_of qubits qs) q j) qubits)

-- the rest keeps the scalar and the exponent
abbrev pub rest_group : List ℕ → Held → Held
rest_group qs g = record {
  qubits = rest_of g.qubits qs;
  nums =
      map (λ j. amp_at g.nums (place_with g.qubits qs (first_place g.nums) j))
      (range_with_len 0 (2 ^ length (rest_of g.qubits qs)));
  h = g.h;
  due = [];
}

-- a qubit by itself, with a numerator at its bit
abbrev pub alone_with : Amp → ℕ → ℕ → ℕ → Held
alone_with x h q bit = record {
  qubits = q ∷ [];
  nums = if bit == 0 then x ∷ zero_amp ∷ [] else zero_amp ∷ x ∷ [];
  h = h;
  due = [];
}

-- where no qubit stays, the first measured one has the scalar and the exponent
abbrev pub has_scalar : List ℕ → Held → ℕ → Bool
has_scalar qs g q = (length (rest_of g.qubits qs) == 0) && (index_of q qs == 0)

-- a measured qubit by itself
abbrev pub piece_of : List ℕ → Held → ℕ → Held
piece_of qs g q =
    if has_scalar qs g q
    then
    alone_with (amp_at g.nums (first_place g.nums)) g.h q
    (bit_in g.qubits q (first_place g.nums))
    else alone_with one_amp 0 q (bit_in g.qubits q (first_place g.nums))

-- the outcome that the measured qubits have: that of the first numerator that isn't 0
abbrev pub outcome_in : List ℕ → Held → ℕ
outcome_in qs g = outcome_at (length g.qubits) (places_in g.qubits qs) (first_place g.nums)

-- the rest as a factor, where there is one
abbrev pub rests_of : List ℕ → Held → List Group
rests_of qs g =
    if nat_lt 0 (length (rest_of g.qubits qs)) then factor_of (rest_group qs g) ∷ [] else []

-- the pieces as factors: each measured qubit, and the rest
abbrev pub split_pieces : List ℕ → Held → List Group
split_pieces qs g = map (λ q. factor_of (piece_of qs g q)) qs ++ rests_of qs g

-- the least of a list's numbers
abbrev pub least_qubit : List ℕ → ℕ
least_qubit [] = 0
least_qubit (q ∷ []) = q
least_qubit (q ∷ r ∷ rs) = if nat_lt q (least_qubit (r ∷ rs)) then q else least_qubit (r ∷ rs)
