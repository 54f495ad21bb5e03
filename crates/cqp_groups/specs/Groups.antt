-- The groups of a run in one place: a list with a place for each qubit that was made, where the
-- group stands whose number the place is.
use Rattle.std.specs.Prelude.{◌≡◌, ◌≢◌, ℕ, ◌<◌, List, [], ◌∷◌, length, true, Option, Some, None}
use Rattle.std.specs.Prelude.{◌≤◌, ◌≤ℤ◌, ◌^◌, Bool, false, pos, nat_abs, slice_index_or}
use Rattle.cqp_ring.specs.declared.root.Root.{Root}
use Rattle.cqp_ring.specs.Root.{RootFits}
use Rattle.cqp_syntax.specs.Gates.{places_of}
use Rattle.cqp_syntax.specs.declared.op.Op.{Op}
use Rattle.cqp_syntax.specs.declared.op.Op.TheVariants as op
use Rattle.cqp_vector.specs.Group.{CanJoin}
use Rattle.cqp_vector.specs.Measurement.{is_outcome}
use Rattle.cqp_vector.specs.Places.{ArePlaces}
use Rattle.cqp_machine.specs.Cells.{Cells}
use Rattle.cqp_machine.specs.Factors.{Held, factor_of, places_in, rest_of, state_of}
use Rattle.cqp_book.specs.Keys.{has}
use Rattle.cqp_machine.specs.Factors.{least_qubit, with_due}
use Rattle.cqp_machine.specs.Enabled.{name_of_rest}
use Rattle.cqp_machine.specs.After.{split_in}
use Rattle.cqp_machine.specs.Sums.{norms}
use Rattle.cqp_machine.specs.Cells.{with_at}
use Rattle.cqp_vector.specs.Group.{Group}
use Rattle.cqp_vector.specs.Odds.{odds_of}
use Rattle.cqp_vector.specs.declared.odds.Odd.{Odd}
use Rattle.cqp_pieces.specs.Splitting.{SplitsRightly}

-- the group at a number
abbrev pub groups_in : List (Option Held) → ℕ → Option Held
groups_in slots n = slice_index_or slots n None

-- cells that have these groups, and nothing else
abbrev pub as_cells : List (Option Held) → Cells
as_cells slots = record { parts = λ i. None; chans = λ c. None; groups = groups_in slots }

-- the group is there, and these qubits have distinct places in it
pub record IsHeld (slots : List (Option Held)) (group : ℕ) (qs : List ℕ) : Type 0 where
  pub before : Held
  pub there : groups_in slots group ≡ Some before
  pub places : ArePlaces (length before.qubits) (places_in before.qubits qs)

-- so many that a gate has them, and where it is H, its exponent has room
pub record CanGate (slots : List (Option Held)) (group : ℕ) (o : Op) (qs : List ℕ) : Type 0 where
  pub held : IsHeld slots group qs
  pub count : length qs ≡ places_of o
  pub room : o ≡ op.H → held.before.h < 90

-- the outcome isn't zero in the group
pub record CanMeasure (slots : List (Option Held)) (group : ℕ) (qs : List ℕ) (m : ℕ) : Type 0 where
  pub held : IsHeld slots group qs
  pub some : is_outcome (places_in held.before.qubits qs) (state_of held.before) m ≡ true

-- these are the places of the qubits in the group's list
abbrev pub ArePlacesOf : List (Option Held) → ℕ → List ℕ → List ℕ → Type 0
ArePlacesOf slots group qs places =
    (g : Held) → groups_in slots group ≡ Some g → places ≡ places_in g.qubits qs

-- a gate on some qubits, which have these places
pub record CanGateAt (slots : List (Option Held)) (group : ℕ) (o : Op) (places : List ℕ)
    : Type 0 where
  pub qubits : List ℕ
  pub can : CanGate slots group o qubits
  pub at : ArePlacesOf slots group qubits places

-- two groups that can be joined
pub record CanPair (slots : List (Option Held)) (left right : ℕ) : Type 0 where
  pub apart : left ≢ right
  pub first : Held
  pub first_there : groups_in slots left ≡ Some first
  pub second : Held
  pub second_there : groups_in slots right ≡ Some second
  pub can : CanJoin (factor_of first) (factor_of second)

-- a group whose due qubits split off: its qubits were made, and what is due is among them
pub record CanSplit (slots : List (Option Held)) (group : ℕ) : Type 0 where
  pub before : Held
  pub there : groups_in slots group ≡ Some before
  pub rightly : SplitsRightly before.due before
  pub made : (q : ℕ) → has q before.qubits ≡ true → q < length slots
  pub due_in : (q : ℕ) → has q before.due ≡ true → has q before.qubits ≡ true

-- the group's due qubits split off, and the rest is named by its least qubit
abbrev pub split_by : ℕ → Option Held → (ℕ → Option Held) → ℕ → Option Held
split_by group None groups = groups
split_by group (Some g) groups =
    split_in group g.due (name_of_rest group (rest_of g.qubits g.due)) (Some g) groups

abbrev pub groups_split : Cells → ℕ → ℕ → Option Held
groups_split c group = split_by group (c.groups group) c.groups

-- factors put in, the first last, each at the number of its least qubit
abbrev pub entered : List Group → (ℕ → Option Held) → ℕ → Option Held
entered [] groups = groups
entered (g ∷ gs) groups = with_at (least_qubit g.qubits) (Some (with_due [] g)) (entered gs groups)

-- each factor's least qubit was made
abbrev pub AreMade : ℕ → List Group → Type 0
AreMade n [] = Unit {0}
AreMade n (g ∷ gs) = (least_qubit g.qubits < n) × AreMade n gs

-- the outcomes of some qubits in the group, with their norms
abbrev pub AreOdds : List (Option Held) → ℕ → List ℕ → List Odd → Type 0
AreOdds slots group qs odds =
    (g : Held) → groups_in slots group ≡ Some g
    → odds ≡ odds_of (places_in g.qubits qs) (state_of g)

-- whether the group has the qubit
abbrev pub holds : ℕ → Option Held → Bool
holds q None = false
holds q (Some g) = has q g.qubits

-- no group has it
abbrev pub IsNowhere : List (Option Held) → ℕ → Type 0
IsNowhere slots q = (n : ℕ) → holds q (groups_in slots n) ≡ false

-- the whole part isn't negative and at most 2^h, and the part with root 2 is no greater
pub record IsSmall (h : ℕ) (x : Root) : Type 0 where
  pub whole : pos 0 ≤ℤ x.p
  pub whole_small : nat_abs x.p ≤ 2 ^ h
  pub root_small : nat_abs x.q ≤ nat_abs x.p

-- the products of the groups' norms fit
abbrev pub NormsFit : List (Option Held) → Type 0
NormsFit slots = (n : ℕ) → n ≤ length slots → RootFits (norms n (as_cells slots))

-- the groups' factors, in the order of their numbers
abbrev pub factors_in : List (Option Held) → List Group
factors_in [] = []
factors_in (None ∷ slots) = factors_in slots
factors_in (Some g ∷ slots) = factor_of g ∷ factors_in slots
