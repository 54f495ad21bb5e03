use Rattle.std.proofs.Common.{refl}
use Rattle.cqp_syntax.specs.Binders.{binders_of}
use Rattle.cqp_syntax.specs.Subterms.{process_terms}
use Rattle.cqp_types.specs.Laws.{annotation_of}
use Rattle.cqp_cells.specs.Repeated.{many_h}
use Rattle.cqp_cells.specs.Teleportation.{teleportation}
use Rattle.cqp_paths.specs.Examples.{two_qubits}
use Rattle.cqp_paths.proofs.Runs.{none_fails}
use Rattle.cqp_paths.proofs.examples.derivable_cases.Goals as goal

pub returns-clause-teleportation : goal.returns-clause-teleportation
returns-clause-teleportation c =
    (c.derivation_laws.ensures.tree teleportation refl refl).1 (none_fails (annotation_of (binders_of teleportation)) (process_terms teleportation) refl)

pub returns-clause-many_h : goal.returns-clause-many_h
returns-clause-many_h c =
    (c.derivation_laws.ensures.tree (many_h 91) refl refl).1 (none_fails (annotation_of (binders_of (many_h 91))) (process_terms (many_h 91)) refl)

pub returns-clause-two_qubits : goal.returns-clause-two_qubits
returns-clause-two_qubits c =
    (c.derivation_laws.ensures.tree two_qubits refl refl).1 (none_fails (annotation_of (binders_of two_qubits)) (process_terms two_qubits) refl)
