-- Two parts make a qubit each, in either order.
use Rattle.std.proofs.Common.{ℕ, List, refl, inl}
use Rattle.cqp_types.specs.Derivations.{IsDerivable}
use Rattle.cqp_cells.specs.Config.{start_of}
use Rattle.cqp_cells.specs.Examples.{one_over}
use Rattle.cqp_cells.specs.Lawful.{IsLawful}
use Rattle.cqp_cells.specs.Repeated.{last_of}
use Rattle.cqp_paths.specs.Examples.{first_first, second_first, two_qubits}
use Rattle.cqp_paths.specs.Runs.{IsPlainRun, IsRun}
use Rattle.cqp_paths.specs.Script.{script_answers}
use Rattle.cqp_paths.proofs.Following.{unmeasured_follow}
use Rattle.cqp_paths.proofs.InTurn.{in_turn}
use Rattle.cqp_paths.proofs.Runs.{ended_lawful, run_of}

-- the trace in which part 0 is first is lawful
first_lawful : IsLawful two_qubits first_first
first_lawful =
    ended_lawful two_qubits first_first.entries (last_of two_qubits first_first.entries) (one_over 0) refl refl refl (inl refl) refl

-- the trace in which part 1 is first is lawful
second_lawful : IsLawful two_qubits second_first
second_lawful =
    ended_lawful two_qubits second_first.entries (last_of two_qubits second_first.entries) (one_over 0) refl refl refl (inl refl) refl

-- the first of the two is a plain run under each script
pub first_plain : (script : List ℕ) → IsDerivable two_qubits → IsPlainRun (script_answers script) two_qubits first_first
first_plain script derivable = record {
  run = run_of (script_answers script) two_qubits first_first derivable refl first_lawful
      (unmeasured_follow (script_answers script) 0 (start_of two_qubits) first_first.entries refl);
  plain = record { entries = in_turn (start_of two_qubits) first_first.entries refl; stop = tt };
}

-- the second is a run under each script
pub second_run : (script : List ℕ) → IsDerivable two_qubits → IsRun (script_answers script) two_qubits second_first
second_run script derivable = run_of (script_answers script) two_qubits second_first derivable refl second_lawful
    (unmeasured_follow (script_answers script) 0 (start_of two_qubits) second_first.entries refl)
