-- Lines of output.
use Rattle.std.specs.Prelude.{ℕ, List, ◌++◌, codes, decimal}
use Rattle.cqp_expand.specs.declared.fault.FaultKind.{FaultKind}
use Rattle.cqp_expand.specs.declared.fault.FaultKind.TheVariants as scope
use Rattle.cqp_types.specs.declared.kind.Kind.{Kind}
use Rattle.cqp_types.specs.declared.kind.Kind.TheVariants as kind
use Rattle.cqp_trace.specs.Text.{line}

-- the line that tells something at an offset
abbrev pub line_at : List ℕ → ℕ → List ℕ
line_at what at = line (what ++ codes " at " ++ decimal at)

-- the line of a refusal by the grammar
abbrev pub refusal_line : ℕ → List ℕ
refusal_line at = line_at (codes "text refused") at

-- the line of a token with which too many brackets are open
abbrev pub depth_line : ℕ → List ℕ
depth_line at = line_at (codes "limit depth 100") at

-- what the line of a fault of scope says before its offset
abbrev pub scope_text : FaultKind → List ℕ
scope_text scope.Unbound = codes "unbound name"
scope_text scope.UnknownDef = codes "unknown definition"
scope_text scope.Arity = codes "wrong number of arguments"
scope_text scope.Twice = codes "name twice"
scope_text scope.ParamType = codes "wrong argument type"

-- what the line of a node that fails says before its offset
abbrev pub fault_text : Kind → List ℕ
fault_text kind.Mismatch = codes "type Mismatch"
fault_text kind.NotChannel = codes "type NotChannel"
fault_text kind.Count = codes "type Count"
fault_text kind.OperandTwice = codes "type OperandTwice"
fault_text kind.SplitTwice = codes "type SplitTwice"
fault_text kind.SentAndUsed = codes "type SentAndUsed"

-- the line of a process that needs too many qubits
abbrev pub need_line : ℕ → List ℕ
need_line need = line (codes "limit qubits 12 needs " ++ decimal need)

-- the line of a text that is accepted
abbrev pub accepted_line : ℕ → ℕ → List ℕ
accepted_line need size =
    line (codes "accepted qubits " ++ decimal need ++ codes " size " ++ decimal size)
