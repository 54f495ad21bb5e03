-- The context of all channels and qubits that were made. No public clause cites this module.
use Rattle.std.specs.Prelude.{ℕ, zero, suc, List, [], ◌∷◌, ◌++◌}
use Rattle.cqp_syntax.specs.declared.val.Val.TheVariants as val
use Rattle.cqp_syntax.specs.TypeTrees.{TypeTrees, qbit_type}
use Rattle.cqp_syntax.specs.Trees.{Slot, valued}
use Rattle.cqp_types.specs.Contexts.{Context}
use Rattle.cqp_paths.specs.Safe.{channels}

-- a qubit as a slot
abbrev pub qubit_slot : ℕ → Slot
qubit_slot q = valued (val.Qubit q)

-- a channel as a slot
abbrev pub chan_slot : ℕ → Slot
chan_slot k = valued (val.Chan k)

-- the qubits below n, with their type
abbrev pub qubits_below : ℕ → Context
qubits_below zero = []
qubits_below (suc n) = (record { slot = qubit_slot n; ty = qbit_type }) ∷ qubits_below n

-- the channels, with what they carry, and the qubits below n
abbrev pub made : ℕ → List TypeTrees → Context
made n carried = channels carried ++ qubits_below n
