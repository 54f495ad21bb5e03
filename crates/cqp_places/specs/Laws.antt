-- Laws of places: the bits of qubits in the place of all qubits, and in the place of a list of
-- them.
use Rattle.std.specs.Prelude.{◌≡◌, ℕ, ◌<◌, ◌^◌, List, length, true}
use Rattle.cqp_book.specs.Keys.{has}
use Rattle.cqp_vector.specs.State.{qubit_bit, with_zero, with_one}
use Rattle.cqp_vector.specs.Measurement.{outcome_at}
use Rattle.cqp_machine.specs.Factors.{index_of}
use Rattle.cqp_places.specs.Places.{IsDistinct, AreBelow}

-- the law: the list's place is within as many places
abbrev pub WithinLaw : Type 0
WithinLaw = (n : ℕ) (qs : List ℕ) (k : ℕ) → outcome_at n qs k < 2 ^ length qs

-- the law: a qubit's bit is that of its index in the list's place
abbrev pub BitLaw : Type 0
BitLaw =
    (n q : ℕ) (qs : List ℕ) (k : ℕ) → has q qs ≡ true
    → qubit_bit (length qs) (index_of q qs) (outcome_at n qs k) ≡ qubit_bit n q k

-- the law: a 0 that is put for a qubit is put in the list's place
abbrev pub ZeroLaw : Type 0
ZeroLaw =
    (n q : ℕ) → q < n → (qs : List ℕ) (k : ℕ) → AreBelow n qs → IsDistinct qs → has q qs ≡ true
    → outcome_at n qs (with_zero n q k)
    ≡ with_zero (length qs) (index_of q qs) (outcome_at n qs k)

-- the law: so is a 1
abbrev pub OneLaw : Type 0
OneLaw =
    (n q : ℕ) → q < n → (qs : List ℕ) (k : ℕ) → AreBelow n qs → IsDistinct qs → has q qs ≡ true
    → outcome_at n qs (with_one n q k)
    ≡ with_one (length qs) (index_of q qs) (outcome_at n qs k)
