-- What the least part that takes part in a reduction does next.
use Rattle.std.specs.Prelude.{◌≡◌, ◌⊎◌, ℕ, ◌≤◌, max, List, map, true, Some, None, Option, IsSome}
use Rattle.cqp_ring.specs.declared.root.Root.{Root}
use Rattle.cqp_ring.specs.Root.{IsProportional}
use Rattle.cqp_choose.specs.Odds.{IsLawful as AreLawful}
use Rattle.cqp_syntax.specs.Trees.{Process, Slot}
use Rattle.cqp_trace.specs.declared.entry.Entry.{Entry}
use Rattle.cqp_vector.specs.declared.odds.Odd.{Odd}
use Rattle.cqp_vector.specs.State.{State}
use Rattle.cqp_cells.specs.Config.{Config, part_at}
use Rattle.cqp_cells.specs.Moves.{are_operands}
use Rattle.cqp_cells.specs.Order.{least_part, greatest_part}
use Rattle.cqp_cells.specs.Redex.{look, redex_of, qubits_of}
use Rattle.cqp_cells.specs.Rows.{Fits}
use Rattle.cqp_cells.specs.Step.{next}
use Rattle.cqp_cells.specs.Waiting.{IsStuck, IsActive, MeetEither, is_waiting}
use Rattle.cqp_paths.specs.Follows.{measure_count, outcomes_of, norms_of}
use Rattle.cqp_engine.specs.declared.engine.Upcoming.{Upcoming}
use Rattle.cqp_engine.specs.declared.engine.Upcoming.TheVariants as upcoming

-- part i is the least that doesn't wait or meets another
pub record IsLeastPart (c : Config) (i : ℕ) : Type 0 where
  pub active : IsActive c i
  pub least : (j : ℕ) → IsActive c j → i ≤ j

-- that part, or none where each part waits and no two meet
abbrev pub IsLeastOrStuck : Config → Option ℕ → Type 0
IsLeastOrStuck c None = IsStuck c
IsLeastOrStuck c (Some i) = IsLeastPart c i

-- an entry of part i alone
pub record IsOwnEntry (c : Config) (i : ℕ) (e : Entry) : Type 0 where
  pub part : e.part ≡ i
  pub process : Process
  pub there : part_at i c.parts ≡ Some process
  pub fits : Fits c.state c.chans process e.deed

-- no part before j meets the process
abbrev pub NoneMeetsBefore : Config → Process → ℕ → Type 0
NoneMeetsBefore c p j =
    (n k : ℕ) (q : Process) → part_at n c.parts ≡ Some q → MeetEither k p q → j ≤ n

-- part i is the less of the entry's two parts, and j the greater
pub record IsBetween (e : Entry) (i j : ℕ) : Type 0 where
  pub least : least_part e ≡ i
  pub greatest : greatest_part e ≡ max i j

-- the communication of part i, which waits, with the least part that it meets
pub record IsLeastMeeting (c : Config) (i : ℕ) (e : Entry) : Type 0 where
  pub process : Process
  pub there : part_at i c.parts ≡ Some process
  pub waits : is_waiting process ≡ true
  pub fits : IsSome (next c e)
  pub partner : ℕ
  pub between : IsBetween e i partner
  pub first : NoneMeetsBefore c process partner

-- the next redex of part i is a measurement of these qubits, which are distinct and were made
pub record IsMeasuring (c : Config) (i : ℕ) (qs : List ℕ) : Type 0 where
  pub process : Process
  pub there : part_at i c.parts ≡ Some process
  pub slots : List Slot
  pub redex : redex_of process ≡ Some (look slots)
  pub qubits : qubits_of slots ≡ Some qs
  pub operands : are_operands c.state.qubits qs ≡ true

-- what part i does next: an entry that is no measurement, or a measurement
abbrev pub IsUpcoming : Config → ℕ → Upcoming → Type 0
IsUpcoming c i (upcoming.Entry e) =
    (measure_count e.deed ≡ 0) × (IsOwnEntry c i e ⊎ IsLeastMeeting c i e)
IsUpcoming c i (upcoming.Measurement qs) = IsMeasuring c i qs

-- the outcomes of a list of odds, and its norms
abbrev pub told_outcomes : List Odd → List ℕ
told_outcomes odds = map (λ odd. odd.outcome) odds

abbrev pub told_norms : List Odd → List Root
told_norms odds = map (λ odd. odd.norm) odds

-- the outcomes of a measurement, with lawful odds in the proportion of their norms
pub record AreOddsOf (qs : List ℕ) (s : State) (odds : List Odd) : Type 0 where
  pub outcomes : told_outcomes odds ≡ outcomes_of qs s
  pub lawful : AreLawful (told_norms odds)
  pub proportional : IsProportional (told_norms odds) (norms_of qs s)
