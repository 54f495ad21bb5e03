-- Two straight lines with their traces, and words for right and wrong traces.
use Rattle.std.specs.Prelude.{ℕ, List, [], ◌∷◌}
use Rattle.cqp_ring.specs.declared.amp.Amp.{Amp}
use Rattle.cqp_ring.specs.declared.weight.Weight.{Weight}
use Rattle.cqp_ring.specs.Amp.{one_amp}
use Rattle.cqp_ring.specs.Root.{one_root}
use Rattle.cqp_syntax.specs.declared.op.Op.{Op}
use Rattle.cqp_syntax.specs.declared.op.Op.TheVariants as op
use Rattle.cqp_syntax.specs.declared.val.Val.TheVariants as val
use Rattle.cqp_syntax.specs.Trees.{Expr, named, apply, value, Process}
use Rattle.cqp_vector.specs.State.{State}
use Rattle.cqp_trace.specs.declared.deed.Deed.{Deed}
use Rattle.cqp_trace.specs.declared.deed.Deed.TheVariants as deed
use Rattle.cqp_trace.specs.declared.entry.Entry.{Entry}
use Rattle.cqp_trace.specs.declared.end.End.TheVariants.{Done}
use Rattle.cqp_trace.specs.declared.trace.Trace.{Trace}
use Rattle.cqp_cells.specs.Config.{Config}
use Rattle.cqp_cells.specs.Lawful.{IsLawful}

-- a gate on a name
abbrev pub gate_on_name : Op → ℕ → Expr
gate_on_name o x = apply (named x ∷ []) (value (val.Gate o))

-- an entry of part i
abbrev pub by : ℕ → Deed → Entry
by i d = record { part = i; deed = d }

-- the weight 1 / 2^k
abbrev pub one_over : ℕ → Weight
one_over k = record { top = one_root; below = k }

-- a trace that ends with no part left
abbrev pub done : List Entry → Weight → Trace
done es w = record { entries = es; end = Done 0; weight = w }

-- the trace is none of the process
abbrev pub IsUnlawful : Process → Trace → Type 0
IsUnlawful p t = IsLawful p t → ⊥

-- the three reductions of `(qbit x){x *= H}.0`
abbrev pub makes_qubit : Entry
makes_qubit = by 0 (deed.Qbit 0)

abbrev pub applies_h : Entry
applies_h = by 0 (deed.Gate op.H (0 ∷ []))

abbrev pub ends_act : Entry
ends_act = by 0 deed.Act

abbrev pub one_gate_entries : List Entry
one_gate_entries = makes_qubit ∷ applies_h ∷ ends_act ∷ []

-- a state of one qubit
abbrev pub qubit_with : Amp → Amp → State
qubit_with x y = record { qubits = 1; nums = x ∷ y ∷ [] }

-- the last configuration, where both numerators are 1
abbrev pub one_gate_last : Config
one_gate_last = record { state = qubit_with one_amp one_amp; chans = 0; made = 1; parts = [] }
