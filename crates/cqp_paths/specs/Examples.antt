-- Traces of small processes and a small configuration, for the facts on runs and on safety.
use Rattle.std.specs.Prelude.{ℕ, [], ◌∷◌}
use Rattle.cqp_syntax.specs.Trees.{Process, nil, par, qbit, act}
use Rattle.cqp_trace.specs.declared.deed.Deed.TheVariants as deed
use Rattle.cqp_trace.specs.declared.trace.Trace.{Trace}
use Rattle.cqp_cells.specs.Cases.{acts_on_it, alone, num}
use Rattle.cqp_cells.specs.Config.{Config}
use Rattle.cqp_cells.specs.Examples.{by, done, one_over}
use Rattle.cqp_cells.specs.Repeated.{many_h_entries}
use Rattle.cqp_cells.specs.Teleportation.{teleportation_entries}

-- a trace of teleportation, in which both bits that are sent are 1
abbrev pub teleportation_trace : Trace
teleportation_trace = done teleportation_entries (one_over 2)

-- the trace of n H on one qubit
abbrev pub many_h_trace : ℕ → Trace
many_h_trace n = done (many_h_entries n) (one_over 0)

-- `(qbit x)0 | (qbit y)0`
abbrev pub two_qubits : Process
two_qubits = par (qbit 0 nil) (qbit 1 nil)

-- part 0 makes its qubit first
abbrev pub first_first : Trace
first_first = done (by 0 (deed.Qbit 0) ∷ by 1 (deed.Qbit 1) ∷ []) (one_over 0)

-- part 1 makes its qubit first
abbrev pub second_first : Trace
second_first = done (by 1 (deed.Qbit 0) ∷ by 0 (deed.Qbit 1) ∷ []) (one_over 0)

-- part 0 alone at `{1}.{x}.0`, where no value takes the place of x
abbrev pub name_left_later : Config
name_left_later = alone (act (num 1) acts_on_it)
