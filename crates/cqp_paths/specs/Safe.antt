-- Configurations in which each part is typed by the channels and the qubits that it owns, no qubit
-- has two owners, and no operand is wrong.
use Rattle.std.specs.Prelude.{◌≡◌, ◌+◌, ◌≤◌, List, [], ◌∷◌, ◌++◌, map, filter, length, Bool, true}
use Rattle.std.specs.Prelude.{false, Some}
use Rattle.std.specs.List.{AllByRecursion}
use Rattle.cqp_syntax.specs.declared.val.Val.TheVariants as val
use Rattle.cqp_syntax.specs.TypeTrees.{TypeTrees, qbit_type, chan_type}
use Rattle.cqp_syntax.specs.Trees.{Slot, valued, Process}
use Rattle.cqp_syntax.specs.Free.{free_slots}
use Rattle.cqp_trace.specs.declared.entry.Entry.{Entry as TraceEntry}
use Rattle.cqp_types.specs.Contexts.{Context}
use Rattle.cqp_types.specs.Derivations.{Derives}
use Rattle.cqp_cells.specs.Config.{Config, start_of}
use Rattle.cqp_cells.specs.Path.{after}
use Rattle.cqp_syntax.specs.Measures.{size}
use Rattle.cqp_cells.specs.Size.{size_left}
use Rattle.cqp_cells.specs.Owners.{HasNoTwoOwners}
use Rattle.cqp_cells.specs.Operands.{has_wrong_operand}

-- the channels that were made, the last first, with what they carry
abbrev pub channels : List TypeTrees → Context
channels [] = []
channels (ts ∷ more) =
    (record { slot = valued (val.Chan (length more)); ty = chan_type ts }) ∷ channels more

-- the slot has a qubit
abbrev pub is_qubit : Slot → Bool
is_qubit (valued (val.Qubit q)) = true
is_qubit s = false

-- the qubits that a process holds, with their type
abbrev pub owned : Process → Context
owned p = map (λ s. record { slot = s; ty = qbit_type }) (filter is_qubit (free_slots p))

-- each part's process is derivable from the channels and from the qubits that it owns
pub record IsTyped (c : Config) : Type 0 where
  pub carried : List TypeTrees
  pub count : length carried ≡ c.chans
  pub parts : AllByRecursion (λ part. Derives (owned part.process ++ channels carried) part.process)
      c.parts

-- each part is typed by what it owns, no qubit has two owners, and no operand is wrong
pub record IsSafe (c : Config) : Type 0 where
  pub typed : IsTyped c
  pub owners : HasNoTwoOwners c
  pub operands : has_wrong_operand c ≡ false

-- after entries of p each configuration is safe, and what was and is to be done within the size
pub record IsSafeAlong (p : Process) (es : List TraceEntry) : Type 0 where
  pub safe : (before later : List TraceEntry) (c : Config) → es ≡ before ++ later
      → after (start_of p) before ≡ Some c → IsSafe c
  pub within : (before later : List TraceEntry) (c : Config) → es ≡ before ++ later
      → after (start_of p) before ≡ Some c → length before + size_left c ≤ size p
