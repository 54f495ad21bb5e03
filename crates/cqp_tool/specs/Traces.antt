-- What is told of a trace's text: that its trace is lawful, or why not.
use Rattle.std.specs.Prelude.{◌≡◌, ◌≢◌, ◌⊎◌, ℕ, ◌+◌, List, [], ◌++◌, codes, decimal, length}
use Rattle.std.specs.Prelude.{Option, Some, None}
use Rattle.cqp_syntax.specs.Trees.{Process}
use Rattle.cqp_trace.specs.declared.form.Form.{Form}
use Rattle.cqp_trace.specs.declared.form.Form.TheVariants.{Current, Old}
use Rattle.cqp_trace.specs.declared.trace.Trace.{Trace}
use Rattle.cqp_trace.specs.Lines as lines
use Rattle.cqp_trace.specs.Text.{line, old_text, trace_text}
use Rattle.cqp_trace.specs.Writable.{IsWritable, IsWritableIn}
use Rattle.cqp_cells.specs.Lawful.{IsLawful}
use Rattle.cqp_engine.specs.declared.replaying.ReplayEnd.{ReplayEnd}
use Rattle.cqp_engine.specs.declared.replaying.ReplayEnd.TheVariants as replayed
use Rattle.cqp_engine.specs.Replays as replays
use Rattle.cqp_tool.specs.declared.status.Status.{Status}
use Rattle.cqp_tool.specs.declared.status.Status.TheVariants.{Done, TraceRefused}

-- the line of a trace that is refused at a line of its text
abbrev pub refused_line : List ℕ → ℕ → List ℕ
refused_line what at = line (codes "trace " ++ what ++ codes " at line " ++ decimal at)

-- The line of a trace that isn't lawful. Its entries stand at the lines from 1 on, its end behind
-- them, and then its weight.
abbrev pub unlawful_line : Trace → ReplayEnd → List ℕ
unlawful_line t (replayed.NotStep at) = refused_line (codes "NotStep") at
unlawful_line t (replayed.NotEnd at) = refused_line (codes "NotEnd") at
unlawful_line t (replayed.WrongWeight given right) =
    refused_line (codes "WrongWeight") (length t.entries + 2)
unlawful_line t replayed.NoMemory = []

-- the line of a trace that is lawful and has so many entries
abbrev pub counted_line : ℕ → List ℕ
counted_line n = line (codes "accepted entries " ++ decimal n)

-- the line of a trace that is lawful
abbrev pub entries_line : Trace → List ℕ
entries_line t = counted_line (length t.entries)

-- the text is that of the trace, in the form
abbrev pub IsTextOf : Form → Trace → List ℕ → Type 0
IsTextOf Current t text = IsWritable t × (text ≡ trace_text t)
IsTextOf Old t text = IsWritableIn Old t × (text ≡ old_text t)

-- the bytes tell the first line of the text that stands in no text of a trace
pub record TellsLine (form : Form) (text bytes : List ℕ) : Type 0 where
  pub at : ℕ
  pub refused : lines.IsRefused form text at
  pub told : bytes ≡ refused_line (codes "Refused") at

-- the bytes tell the first reason why the trace isn't lawful
pub record TellsReason (p : Process) (t : Trace) (bytes : List ℕ) : Type 0 where
  pub why : ReplayEnd
  pub memory : why ≢ replayed.NoMemory
  pub refused : replays.IsRefused p t why
  pub told : bytes ≡ unlawful_line t why

-- where the trace of a text is lawful the bytes are what is told of it, and else why it isn't
abbrev pub TellsTrace : Form → (Trace → List ℕ) → Process → List ℕ → Status → List ℕ → Type 0
TellsTrace form told p text Done bytes =
    (t : Trace) × IsTextOf form t text × IsLawful p t × (bytes ≡ told t)
TellsTrace form told p text TraceRefused bytes =
    TellsLine form text bytes ⊎ ((t : Trace) × IsTextOf form t text × TellsReason p t bytes)
TellsTrace form told p text status bytes = ⊥

-- and so where an input has no trace's text
abbrev pub TellsPart : Form → (Trace → List ℕ) → Process → Option (List ℕ) → Status → List ℕ
    → Type 0
TellsPart form told p None status bytes =
    (status ≡ TraceRefused) × (bytes ≡ line (codes "trace Missing"))
TellsPart form told p (Some text) status bytes = TellsTrace form told p text status bytes
