-- What `run` prints `replay` accepts.
use Rattle.std.specs.Prelude.{◌≡◌, ℕ, List, Some, None}
use Rattle.cqp_trace.specs.declared.trace.Trace.{Trace}
use Rattle.cqp_words.specs.declared.choice.Choice.{Choice}
use Rattle.cqp_tool.specs.declared.status.Status.{Status}
use Rattle.cqp_tool.specs.declared.status.Status.TheVariants.{Done}
use Rattle.cqp_tool.specs.declared.task.Task.TheVariants as task
use Rattle.cqp_tool.specs.Cut.{text_part, trace_part}
use Rattle.cqp_tool.specs.Output.{Answers, IsServed}
use Rattle.cqp_tool.specs.Traces.{entries_line}

-- the trace is accepted: its number of entries is told
abbrev pub IsAcceptedWith : Trace → Status → List ℕ → Type 0
IsAcceptedWith t status bytes = (status ≡ Done) × (bytes ≡ entries_line t)

-- Where an input has a text, and behind the marker what `run` prints for it, done or stopped, there
-- is one thing that `replay` can write for it: that the trace is accepted.
abbrev pub PrintedLaw : Type 0
PrintedLaw =
    (choice : Choice) (input printed : List ℕ) (ended : Status)
    → IsServed (task.Run choice) (text_part input) None ended printed
    → trace_part input ≡ Some printed
    → (status : Status) (bytes : List ℕ) → Answers task.Replay input status bytes
    → (t : Trace) × IsAcceptedWith t status bytes
