-- What the source has lost, by the words and the status.
use Rattle.std.specs.Prelude.{◌≡◌, ◌⊎◌, ℕ, ◌+◌, ◌≤◌, List, length, Option}
use Rattle.cqp_outside.specs.Taken.{TakesAll, TakesAtMost, TakesCount}
use Rattle.cqp_tool.specs.declared.status.Status.{Status}
use Rattle.cqp_tool.specs.declared.status.Status.TheVariants.{Usage, LimitRefused, ReadFault}
use Rattle.cqp_tool.specs.declared.status.Status.TheVariants.{WriteFault, NoMemory, Unbuilt}
use Rattle.cqp_tool.specs.declared.task.Task.{Task}
use Rattle.cqp_tool.specs.declared.task.Task.TheVariants as task
use Rattle.cqp_tool.specs.Inputs.{limit_of}
use Rattle.cqp_tool.specs.Words.{AskTask}

-- the source was read to its end, which is within the limit
abbrev pub LosesWithin : ℕ → Option (List ℕ) → Option (List ℕ) → Type 0
LosesWithin limit old new =
    (input : List ℕ) × TakesAll old new input × (length input ≤ limit)

-- a task has read all of its input, of which `gen` has none
abbrev pub LosesInput : Task → Option (List ℕ) → Option (List ℕ) → Type 0
LosesInput task.Check old new = LosesWithin (limit_of task.Check) old new
LosesInput (task.Run choice) old new = LosesWithin (limit_of (task.Run choice)) old new
LosesInput task.Replay old new = LosesWithin (limit_of task.Replay) old new
LosesInput task.Upgrade old new = LosesWithin (limit_of task.Upgrade) old new
LosesInput (task.Gen rounds) old new = new ≡ old

-- or has read one byte past its limit, and no more
abbrev pub LosesRead : Task → Option (List ℕ) → Option (List ℕ) → Type 0
LosesRead t old new = LosesInput t old new ⊎ TakesCount old new (limit_of t + 1)

-- What was left before, and what is left now. A fault of a write comes after any reading.
abbrev pub Loses : List (List ℕ) → Status → Option (List ℕ) → Option (List ℕ) → Type 0
Loses words Usage old new = new ≡ old
Loses words Unbuilt old new = new ≡ old
Loses words LimitRefused old new = (t : Task) × AskTask words t × LosesRead t old new
Loses words ReadFault old new =
    (t : Task) × AskTask words t × TakesAtMost old new (limit_of t)
Loses words WriteFault old new =
    (new ≡ old) ⊎ ((t : Task) × AskTask words t × LosesRead t old new)
Loses words NoMemory old new =
    (new ≡ old) ⊎ ((t : Task) × AskTask words t × TakesAtMost old new (limit_of t))
Loses words status old new = (t : Task) × AskTask words t × LosesInput t old new
