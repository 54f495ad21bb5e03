-- What the lines of refusals and of verdicts tell of a text, a program or a process, and what is
-- printed of a run.
use Rattle.std.specs.Prelude.{◌≡◌, ℕ, ◌<◌, List, codes, slice_index}
use Rattle.cqp_syntax.specs.Listing.{Listing, root}
use Rattle.cqp_syntax.specs.Measures.{need, size}
use Rattle.cqp_syntax.specs.Trees.{Process}
use Rattle.cqp_grammar.specs.Trees.{ProgramTree}
use Rattle.cqp_grammar.specs.Refusals.{IsRefused, IsDeep}
use Rattle.cqp_expand.specs.declared.fault.ScopeFault.{ScopeFault}
use Rattle.cqp_expand.specs.Faults.{scope_faults}
use Rattle.cqp_expand.specs.Least.{IsLeast}
use Rattle.cqp_expand.specs.Outcomes.{IsLarge}
use Rattle.cqp_types.specs.declared.kind.Kind.{Kind}
use Rattle.cqp_types.specs.Derivations.{IsDerivable}
use Rattle.cqp_types.specs.Faults.{IsLeastFault}
use Rattle.cqp_trace.specs.declared.end.End.{End}
use Rattle.cqp_trace.specs.declared.end.End.TheVariants as end
use Rattle.cqp_trace.specs.declared.trace.Trace.{Trace}
use Rattle.cqp_trace.specs.Text.{line}
use Rattle.cqp_trace.specs.Writable.{IsWritable}
use Rattle.cqp_paths.specs.Follows.{Pick}
use Rattle.cqp_paths.specs.Runs.{IsPlainRun}
use Rattle.cqp_tool.specs.declared.status.Status.{Status}
use Rattle.cqp_tool.specs.declared.status.Status.TheVariants.{Done, Stopped}
use Rattle.cqp_tool.specs.Lines.{line_at, refusal_line, depth_line, scope_text, fault_text}
use Rattle.cqp_tool.specs.Lines.{need_line, accepted_line}

-- the grammar refuses the text at the offset that the bytes tell
pub record TellsToken (text bytes : List ℕ) : Type 0 where
  pub at : ℕ
  pub refused : IsRefused text at
  pub told : bytes ≡ refusal_line at

-- the text is too deep at the offset that the bytes tell
pub record TellsDepth (text bytes : List ℕ) : Type 0 where
  pub at : ℕ
  pub deep : IsDeep text at
  pub told : bytes ≡ depth_line at

-- the bytes tell the least fault of scope
pub record TellsFault (t : ProgramTree) (bytes : List ℕ) : Type 0 where
  pub fault : ScopeFault
  pub least : IsLeast (scope_faults t) fault
  pub told : bytes ≡ line_at (scope_text fault.kind) fault.at

-- the program has no fault of scope and too many nodes, and the bytes say so
abbrev pub TellsLarge : ProgramTree → List ℕ → Type 0
TellsLarge t bytes = IsLarge t × (bytes ≡ line (codes "limit nodes 20000"))

-- no derivation exists, and the bytes tell the least node that fails and how
pub record TellsNode (l : Listing) (bytes : List ℕ) : Type 0 where
  pub node : ℕ
  pub kind : Kind
  pub least : IsLeastFault l node kind
  pub refused : IsDerivable (root l) → ⊥
  pub told : bytes ≡ line_at (fault_text kind) (slice_index l.at node)

-- the process is derivable and needs more than 12 qubits, as many as the bytes tell
pub record TellsNeed (l : Listing) (bytes : List ℕ) : Type 0 where
  pub derivable : IsDerivable (root l)
  pub many : 12 < need (root l)
  pub told : bytes ≡ need_line (need (root l))

-- the bytes tell how many qubits the process needs, and its size
abbrev pub TellsVerdict : Process → List ℕ → Type 0
TellsVerdict p bytes = bytes ≡ accepted_line (need p) (size p)

-- the status of a run that ends so
abbrev pub status_of_end : End → Status
status_of_end (end.Done left) = Done
status_of_end (end.Stopped part) = Stopped

-- The bytes are the text that is given of the trace of a run of the process in plain order, by a
-- pick, whose end has the status. The trace has a text.
pub record TellsRun (given : Trace → List ℕ) (pick : Pick) (p : Process) (status : Status)
    (bytes : List ℕ) : Type 0 where
  pub trace : Trace
  pub run : IsPlainRun pick p trace
  pub writable : IsWritable trace
  pub ended : status ≡ status_of_end trace.end
  pub told : bytes ≡ given trace
