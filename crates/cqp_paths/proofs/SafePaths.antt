-- Each configuration on a path of a derivable process is safe.
use Rattle.std.proofs.Common.{◌≡◌, List, [], ◌∷◌, Bool, false, ◌||◌, refl}
use Rattle.std.specs.Prelude.{Some}
use Rattle.std.specs.List.{list_any}
use Rattle.cqp_syntax.specs.Trees.{Process}
use Rattle.cqp_types.specs.Contexts.{Context}
use Rattle.cqp_types.specs.Derivations.{Derives, IsDerivable}
use Rattle.cqp_trace.specs.declared.entry.Entry.{Entry}
use Rattle.cqp_cells.specs.Config.{Config, Part, start_of}
use Rattle.cqp_paths.specs.Invariant.{IsInvariant, AllParts}
use Rattle.cqp_paths.specs.Made.{made}
use Rattle.cqp_cells.specs.Operands.{is_wrong, differ_in_count, has_wrong_operand}
use Rattle.cqp_cells.specs.Path.{after}
use Rattle.cqp_paths.specs.Safe.{IsSafe, IsSafeAlong}
use Rattle.cqp_syntax.specs.Binders.{HasDistinctBinders}
use Rattle.cqp_paths.proofs.Kept.{start_kept, after_kept, no_two_owners}
use Rattle.cqp_paths.proofs.Owned.{typed_by_owned}
use Rattle.cqp_paths.proofs.ReadyOperands.{none_wrong, made_under, no_difference}
use Rattle.cqp_paths.proofs.Smaller.{path_smaller}

-- no part passes a test that no typed process passes
none_passes : (g : Context) (f : Process → Bool) → ((p : Process) → Derives g p → f p ≡ false) → (parts : List Part) → AllParts (Derives g) parts
    → list_any (λ part. f part.process) parts ≡ false
none_passes g f none [] all = refl
none_passes g f none (part ∷ parts) all = let first = none part.process all.0 in rw first (none_passes g f none parts all.1)

-- no operand is wrong where the invariant holds
pub right_operands : (c : Config) → IsInvariant c → has_wrong_operand c ≡ false
right_operands c inv = both (none_passes g (is_wrong c.state.qubits) (λ p d. none_wrong p (made_under c.state.qubits inv.carried) d) c.parts inv.kept.typed)
    (none_passes g (λ p. list_any (λ r. differ_in_count p r.process) c.parts)
    (λ p d. none_passes g (differ_in_count p) (λ r e. no_difference p r d e) c.parts inv.kept.typed) c.parts inv.kept.typed)
  where
    g : Context
    g = made c.state.qubits inv.carried

    both : {a b : Bool} → a ≡ false → b ≡ false → (a || b) ≡ false
    both p q = cc

-- after entries of a derivable process with distinct binders each configuration is safe
pub safe_after : (p : Process) → IsDerivable p → HasDistinctBinders p → (es : List Entry) (c : Config) → after (start_of p) es ≡ Some c → IsSafe c
safe_after p d names es c h =
    let inv = after_kept es (start_of p) c (start_kept p d names) h in
    record { typed = typed_by_owned c inv; owners = no_two_owners c inv; operands = right_operands c inv }

-- a derivable process with distinct binders is safe along all entries
pub safe_along : (p : Process) → IsDerivable p → HasDistinctBinders p → (es : List Entry) → IsSafeAlong p es
safe_along p d names es = record {
  safe = λ before later c split leads. safe_after p d names before c leads;
  within = λ before later c split leads. path_smaller p before c leads;
}
