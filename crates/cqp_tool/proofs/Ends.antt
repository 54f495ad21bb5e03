-- The statuses with which a task can end, by what it writes.
use Rattle.std.proofs.Common.{ℕ, List, sym, subst}
use Rattle.std.specs.Prelude.{Option, Some, None}
use Rattle.cqp_syntax.specs.Trees.{Process}
use Rattle.cqp_trace.specs.declared.end.End.{End}
use Rattle.cqp_trace.specs.declared.end.End.TheVariants as end
use Rattle.cqp_trace.specs.declared.form.Form.{Form}
use Rattle.cqp_trace.specs.declared.form.Form.TheVariants.{Current, Old}
use Rattle.cqp_trace.specs.declared.trace.Trace.{Trace}
use Rattle.cqp_trace.specs.Text.{trace_text}
use Rattle.cqp_tool.specs.declared.status.Status.{Status}
use Rattle.cqp_tool.specs.declared.status.Status.TheVariants.{Done, Usage, TextRefused, TypeRefused, LimitRefused, ReadFault, WriteFault, NoMemory}
use Rattle.cqp_tool.specs.declared.status.Status.TheVariants.{Stopped, TraceRefused, Unbuilt}
use Rattle.cqp_tool.specs.declared.task.Task.{Task}
use Rattle.cqp_tool.specs.declared.task.Task.TheVariants as task
use Rattle.cqp_tool.specs.Output.{CanEnd, IsRefusal, Writes}
use Rattle.cqp_tool.specs.Tells.{status_of_end}
use Rattle.cqp_tool.specs.Traces.{TellsPart, TellsTrace, entries_line}

-- a run's end is one of two
run_ends : (t : Task) (e : End) → CanEnd t Done → CanEnd t Stopped → CanEnd t (status_of_end e)
run_ends t (end.Done left) done stopped = done
run_ends t (end.Stopped part) done stopped = stopped

-- so is the end of a trace that is given
trace_ends : (t : Task) (form : Form) (told : Trace → List ℕ) (p : Process) (text : List ℕ) (s : Status) (bytes : List ℕ) → CanEnd t TraceRefused
    → TellsTrace form told p text s bytes → CanEnd t s
trace_ends t form told p text Done bytes can h = tt
trace_ends t form told p text Usage bytes can h = absurd h
trace_ends t form told p text TextRefused bytes can h = absurd h
trace_ends t form told p text TypeRefused bytes can h = absurd h
trace_ends t form told p text LimitRefused bytes can h = absurd h
trace_ends t form told p text ReadFault bytes can h = absurd h
trace_ends t form told p text WriteFault bytes can h = absurd h
trace_ends t form told p text NoMemory bytes can h = absurd h
trace_ends t form told p text Stopped bytes can h = absurd h
trace_ends t form told p text TraceRefused bytes can h = can
trace_ends t form told p text Unbuilt bytes can h = absurd h

-- where it isn't given too
part_ends : (t : Task) (form : Form) (told : Trace → List ℕ) (p : Process) (part : Option (List ℕ)) (s : Status) (bytes : List ℕ) → CanEnd t TraceRefused
    → TellsPart form told p part s bytes → CanEnd t s
part_ends t form told p None s bytes can h = subst (CanEnd t) (sym h.0) can
part_ends t form told p (Some text) s bytes can h = trace_ends t form told p text s bytes can h

-- what a task writes comes with a status that it can end with
pub writes_ends : (t : Task) (part : Option (List ℕ)) (p : Process) (s : Status) (bytes : List ℕ) → Writes t part p s bytes → CanEnd t s
writes_ends task.Check part p s bytes h = subst (CanEnd task.Check) (sym h.0) tt
writes_ends (task.Run choice) part p s bytes h =
    subst (CanEnd (task.Run choice)) (sym h.ended) (run_ends (task.Run choice) h.trace.end tt tt)
writes_ends task.Replay part p s bytes h = part_ends task.Replay Current entries_line p part s bytes tt h
writes_ends task.Upgrade part p s bytes h = part_ends task.Upgrade Old trace_text p part s bytes tt h
writes_ends (task.Gen rounds) part p s bytes h =
    subst (CanEnd (task.Gen rounds)) (sym h.ended) (run_ends (task.Gen rounds) h.trace.end tt tt)

-- and so does what is written of a text that is refused
pub refusal_ends : (t : Task) (text : List ℕ) (s : Status) (bytes : List ℕ) → IsRefusal text s bytes → CanEnd t s
refusal_ends t text Done bytes h = tt
refusal_ends t text Usage bytes h = absurd h
refusal_ends t text TextRefused bytes h = tt
refusal_ends t text TypeRefused bytes h = tt
refusal_ends t text LimitRefused bytes h = tt
refusal_ends t text ReadFault bytes h = absurd h
refusal_ends t text WriteFault bytes h = absurd h
refusal_ends t text NoMemory bytes h = absurd h
refusal_ends t text Stopped bytes h = absurd h
refusal_ends t text TraceRefused bytes h = absurd h
refusal_ends t text Unbuilt bytes h = absurd h
