-- What can go on does, after each list of entries of a derivable process.
use Rattle.std.proofs.Common.{◌≡◌, ◌⊎◌, ℕ, List, sym, subst, inl, inr}
use Rattle.std.specs.Prelude.{Some}
use Rattle.cqp_syntax.specs.Trees.{Process}
use Rattle.cqp_syntax.specs.Substitution.{with_values}
use Rattle.cqp_types.specs.Derivations.{IsDerivable}
use Rattle.cqp_trace.specs.declared.entry.Entry.{Entry}
use Rattle.cqp_cells.specs.Config.{Config, start_of, flattened, continued}
use Rattle.cqp_cells.specs.Step.{next}
use Rattle.cqp_paths.specs.Invariant.{AllParts}
use Rattle.cqp_cells.specs.Norms.{IsState}
use Rattle.cqp_cells.specs.Path.{after}
use Rattle.cqp_cells.specs.Step.{state_after, chans_after}
use Rattle.cqp_cells.specs.Rows.{process_after, IsAlone, IsMeeting}
use Rattle.cqp_syntax.specs.Binders.{HasDistinctBinders}
use Rattle.cqp_cells.specs.Waiting.{CanGoOn}
use Rattle.cqp_cells.proofs.Inversion.{inverted}
use Rattle.cqp_paths.proofs.Kept.{start_kept, after_kept}
use Rattle.cqp_paths.proofs.Parts.{all-numbered, all-continued}
use Rattle.cqp_paths.proofs.Progress.{IsPrefix, flat_prefixes}
use Rattle.cqp_paths.proofs.Stuck.{can_go_on}
use Rattle.cqp_cells.proofs.States.{next_state}
use Rattle.cqp_cells.proofs.Weights.{start_is_state}
use Rattle.cqp_paths.proofs.Along.{kept_along}

-- after an entry each part is a prefix, if each was before
next_prefixes : (c : Config) (e : Entry) (d : Config) → next c e ≡ Some d → AllParts IsPrefix c.parts → AllParts IsPrefix d.parts
next_prefixes c e d h all = by_row (inverted c e d h)
  where
    goes_on : (b : Config) (i : ℕ) (p : Process) → AllParts IsPrefix b.parts → AllParts IsPrefix (continued i p b).parts
    goes_on b i p old = all-continued IsPrefix i p b (flat_prefixes p) old

    by_row : IsAlone c e d ⊎ IsMeeting c e d → AllParts IsPrefix d.parts
    by_row (inl alone) =
        let before : Config = record c { state = state_after e.deed c.state; chans = chans_after e.deed c.chans } in
        subst (λ (b : Config). AllParts IsPrefix b.parts) (sym alone.becomes) (goes_on before e.part (process_after e.deed alone.process) all)
    by_row (inr met) =
        subst (λ (b : Config). AllParts IsPrefix b.parts) (sym met.becomes)
        (goes_on (continued e.part met.left c) met.to (with_values met.binders met.values met.right) (goes_on c e.part met.left all))

-- after entries of a derivable process with distinct binders, what can go on does
pub all_go_on : (p : Process) → IsDerivable p → HasDistinctBinders p → (es : List Entry) (c : Config) → after (start_of p) es ≡ Some c
    → CanGoOn c
all_go_on p d names es c h =
    can_go_on c (after_kept es (start_of p) c (start_kept p d names) h)
    (kept_along (λ b. IsState b.state) (λ b e f g is. next_state b e f g is) es (start_of p) c h start_is_state)
    (kept_along (λ b. AllParts IsPrefix b.parts) next_prefixes es (start_of p) c h (all-numbered IsPrefix 0 (flattened p) (flat_prefixes p)))

-- after entries of a process the state isn't 0 and has all its numerators
pub state_after_entries : (p : Process) (es : List Entry) (c : Config) → after (start_of p) es ≡ Some c → IsState c.state
state_after_entries p es c h = kept_along (λ b. IsState b.state) (λ b e f g is. next_state b e f g is) es (start_of p) c h start_is_state
