-- What a task reads, and the program text and the trace's text that it has.
use Rattle.std.specs.Prelude.{ℕ, List, [], codes, Option, Some, None}
use Rattle.cqp_generate.specs.Generated.{generated}
use Rattle.cqp_tool.specs.declared.task.Task.{Task}
use Rattle.cqp_tool.specs.declared.task.Task.TheVariants as task
use Rattle.cqp_tool.specs.Cut.{text_part, trace_part}

-- the most bytes that are read for a task
abbrev pub limit_of : Task → ℕ
limit_of task.Check = 65536
limit_of (task.Run choice) = 65536
limit_of task.Replay = 2097152
limit_of task.Upgrade = 2097152
limit_of (task.Gen rounds) = 0

-- what is said of an input that is longer
abbrev pub limit_text : Task → List ℕ
limit_text task.Check = codes "limit text 65536"
limit_text (task.Run choice) = codes "limit text 65536"
limit_text task.Replay = codes "limit input 2097152"
limit_text task.Upgrade = codes "limit input 2097152"
limit_text (task.Gen rounds) = codes "limit text 65536"

-- the input of a task, by what the source has left, where that is known
abbrev pub input_of : Task → Option (List ℕ) → Option (List ℕ)
input_of task.Check left = left
input_of (task.Run choice) left = left
input_of task.Replay left = left
input_of task.Upgrade left = left
input_of (task.Gen rounds) left = Some []

-- the program text
abbrev pub text_of : Task → List ℕ → List ℕ
text_of task.Check input = input
text_of (task.Run choice) input = input
text_of task.Replay input = text_part input
text_of task.Upgrade input = text_part input
text_of (task.Gen rounds) input = generated rounds

-- the trace's text, where the input has one
abbrev pub trace_of : Task → List ℕ → Option (List ℕ)
trace_of task.Check input = None
trace_of (task.Run choice) input = None
trace_of task.Replay input = trace_part input
trace_of task.Upgrade input = trace_part input
trace_of (task.Gen rounds) input = None
