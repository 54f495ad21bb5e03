-- What replies tell of a trace that is given. No public clause cites this module.
use Rattle.std.specs.Prelude.{◌≡◌, ◌≢◌, ℕ, List, codes}
use Rattle.cqp_syntax.specs.Trees.{Process}
use Rattle.cqp_trace.specs.declared.trace.Trace.{Trace}
use Rattle.cqp_trace.specs.declared.trace_end.TraceEnd.{TraceEnd}
use Rattle.cqp_trace.specs.declared.trace_end.TraceEnd.TheVariants as unread
use Rattle.cqp_cells.specs.Lawful.{IsLawful}
use Rattle.cqp_engine.specs.declared.replaying.ReplayEnd.{ReplayEnd}
use Rattle.cqp_engine.specs.declared.replaying.ReplayEnd.TheVariants as replayed
use Rattle.cqp_tool.specs.declared.reply.Reply.{Reply}
use Rattle.cqp_tool.specs.Replies.{bytes_in}
use Rattle.cqp_tool.specs.declared.status.Status.{Status}
use Rattle.cqp_tool.specs.declared.status.Status.TheVariants.{Done, TraceRefused}
use Rattle.cqp_tool.specs.Traces.{TellsReason, refused_line, unlawful_line}

-- the reply tells why the bytes are no text of a trace
abbrev pub TellsCause : TraceEnd → Reply → Type 0
TellsCause (unread.Refused at) r =
    (r.status ≡ TraceRefused) × (bytes_in r.text ≡ refused_line (codes "Refused") at)
TellsCause unread.NoMemory r = ⊥

-- the reply tells why the trace isn't lawful
pub record TellsUnlawful (t : Trace) (why : ReplayEnd) (r : Reply) : Type 0 where
  pub status : r.status ≡ TraceRefused
  pub memory : why ≢ replayed.NoMemory
  pub told : bytes_in r.text ≡ unlawful_line t why

-- the status and the bytes are those of a lawful trace, of which this is told, or of another
abbrev pub IsMade : (Trace → List ℕ) → Process → Trace → Status → List ℕ → Type 0
IsMade told p t Done bytes = IsLawful p t × (bytes ≡ told t)
IsMade told p t TraceRefused bytes = TellsReason p t bytes
IsMade told p t status bytes = ⊥

-- so of a reply
abbrev pub TellsMade : (Trace → List ℕ) → Process → Trace → Reply → Type 0
TellsMade told p t r = IsMade told p t r.status (bytes_in r.text)
