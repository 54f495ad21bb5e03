-- How a reply serves a task and the words. No public clause cites this module.
use Rattle.std.specs.Prelude.{◌≡◌, ◌⊎◌, ℕ, List, Option, IfSome}
use Rattle.std.specs.Io.KnownBytes.{Appends}
use Rattle.cqp_outside.specs.Taken.{AppendsPrefix, TakesAtMost}
use Rattle.cqp_tool.specs.declared.reply.Reply.{Reply}
use Rattle.cqp_tool.specs.Replies.{bytes_in}
use Rattle.cqp_tool.specs.declared.status.Status.{Status}
use Rattle.cqp_tool.specs.declared.status.Status.TheVariants.{LimitRefused, ReadFault}
use Rattle.cqp_tool.specs.declared.status.Status.TheVariants.{WriteFault, NoMemory}
use Rattle.cqp_tool.specs.declared.task.Task.{Task}
use Rattle.cqp_tool.specs.Inputs.{input_of, limit_of, text_of, trace_of}
use Rattle.cqp_tool.specs.Losses.{Loses, LosesInput, LosesRead}
use Rattle.cqp_tool.specs.Output.{Answers, CanEnd, IsOutput, IsRefusal, IsServed}

-- the reply refuses the text, or serves the task on it
abbrev pub AnswersText : Task → List ℕ → Option (List ℕ) → Reply → Type 0
AnswersText t text trace r =
    IsRefusal text r.status (bytes_in r.text) ⊎ IsServed t text trace r.status (bytes_in r.text)

-- so of an input
abbrev pub AnswersInput : Task → List ℕ → Reply → Type 0
AnswersInput t input r = AnswersText t (text_of t input) (trace_of t input) r

-- what the source has lost for a task, by the status of the reply
abbrev pub LosesFor : Task → Status → Option (List ℕ) → Option (List ℕ) → Type 0
LosesFor t LimitRefused old new = LosesRead t old new
LosesFor t status old new = LosesInput t old new

-- the status and the bytes answer the task and the input, and the source has lost what they read
pub record IsReply (t : Task) (old new : Option (List ℕ)) (status : Status) (bytes : List ℕ)
    : Type 0 where
  pub can : CanEnd t status
  pub answers : IfSome (input_of t old) (λ input. Answers t input status bytes)
  pub loses : LosesFor t status old new

-- so of a reply
abbrev pub ServesTask : Task → Option (List ℕ) → Option (List ℕ) → Reply → Type 0
ServesTask t old new r = IsReply t old new r.status (bytes_in r.text)

-- a task may stop at the status with nothing written, and the source has lost so much
abbrev pub StopsTask : Task → Option (List ℕ) → Option (List ℕ) → Status → Type 0
StopsTask t old new ReadFault = TakesAtMost old new (limit_of t)
StopsTask t old new NoMemory = TakesAtMost old new (limit_of t)
StopsTask t old new status = ⊥

-- the reply is the output of the words, and the source has lost what they read
pub record Serves (words : List (List ℕ)) (old new : Option (List ℕ)) (r : Reply) : Type 0 where
  pub output : IsOutput words old r.status (bytes_in r.text)
  pub loses : Loses words r.status old new

-- a call with the words may stop at the status with nothing written
abbrev pub Stops : List (List ℕ) → Option (List ℕ) → Option (List ℕ) → Status → Type 0
Stops words old new ReadFault = Loses words ReadFault old new
Stops words old new NoMemory = Loses words NoMemory old new
Stops words old new status = ⊥

-- all of the reply was written with its status, or a prefix of it with a fault
abbrev pub IsSent : Reply → Status → Option (List ℕ) → Option (List ℕ) → Type 0
IsSent r WriteFault old new = AppendsPrefix old new (bytes_in r.text)
IsSent r status old new = (status ≡ r.status) × Appends old new (bytes_in r.text)
