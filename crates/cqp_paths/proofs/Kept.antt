-- What is kept holds at the start and after each list of entries.
use Rattle.std.proofs.Common.{◌≡◌, ℕ, ◌+◌, List, [], ◌∷◌, length, Bool, true, false, refl, sym, subst, ◌⊎◌, inl, inr, arith, map, filter, cond}
use Rattle.std.specs.Prelude.{Some, if◌then◌else◌}
use Rattle.cqp_syntax.specs.Trees.{Process}
use Rattle.cqp_types.specs.Derivations.{Derives, IsDerivable}
use Rattle.cqp_trace.specs.declared.entry.Entry.{Entry}
use Rattle.cqp_cells.specs.Config.{Config, Part, start_of, flattened}
use Rattle.cqp_cells.specs.Step.{next}
use Rattle.cqp_paths.specs.Invariant.{IsInvariant, held}
use Rattle.cqp_cells.specs.Owners.{holds, HasNoTwoOwners}
use Rattle.cqp_cells.specs.Path.{after}
use Rattle.cqp_cells.specs.Rows.{IsAlone, IsMeeting}
use Rattle.cqp_syntax.specs.Binders.{HasDistinctBinders}
use Rattle.cqp_cells.specs.Size.{total}
use Rattle.cqp_cells.proofs.Inversion.{inverted}
use Rattle.cqp_paths.proofs.Flattening.{flat_typed, flat_held, flat_binders}
use Rattle.cqp_paths.proofs.Parts.{all-numbered, below-start, total-numbered}
use Rattle.cqp_paths.proofs.Continued.{held_once, qubits_typed}
use Rattle.cqp_paths.proofs.PrefixRowsKept.{alone_kept}
use Rattle.cqp_paths.proofs.MeetingKept.{met_kept}
use Rattle.cqp_paths.proofs.Along.{kept_along}

-- the invariant holds at the start of a derivable process with distinct binders
pub start_kept : (p : Process) → IsDerivable p → HasDistinctBinders p → IsInvariant (start_of p)
start_kept p d names = record {
  carried = [];
  kept = record {
    numbers = below-start p;
    count = refl;
    typed = all-numbered (Derives []) 0 (flattened p) (flat_typed d);
    binders = all-numbered HasDistinctBinders 0 (flattened p) (flat_binders p names);
    owned = λ q. omega (arith, total-numbered (held q) 0 (flattened p), flat_held q (qubits_typed 0 []) d, held_once q p);
  };
}

-- the invariant holds after an entry that fits, if it held before
pub next_kept : (c : Config) (e : Entry) (d : Config) → IsInvariant c → next c e ≡ Some d → IsInvariant d
next_kept c e d inv h = by_row (inverted c e d h)
  where
    by_row : IsAlone c e d ⊎ IsMeeting c e d → IsInvariant d
    by_row (inl alone) = alone_kept c e d inv alone
    by_row (inr met) = subst IsInvariant (sym met.becomes) (record { carried = inv.carried; kept = met_kept inv.carried c e d inv.kept met })

-- the invariant holds after entries, if it held before
pub after_kept : (es : List Entry) (c d : Config) → IsInvariant c → after c es ≡ Some d → IsInvariant d
after_kept es c d inv h = kept_along IsInvariant (λ b e f at is. next_kept b e f is at) es c d h inv

-- the owners are as many as the parts that hold the qubit
pub owners_counted : (q : ℕ) (parts : List Part) → length (map (λ part. part.number) (filter (λ part. holds q part.process) parts)) ≡ total (held q) parts
owners_counted q [] = refl
owners_counted q (part ∷ parts) = by_test (holds q part.process) (owners_counted q parts)
  where
    by_test : (b : Bool) → length (map (λ p. p.number) (filter (λ p. holds q p.process) parts)) ≡ total (held q) parts
        → length (map (λ p. p.number) (cond b (part ∷ filter (λ p. holds q p.process) parts) (filter (λ p. holds q p.process) parts)))
        ≡ (if b then 1 else 0) + total (held q) parts
    by_test true more = omega (arith, more)
    by_test false more = omega (arith, more)

-- no qubit has two owners where the invariant holds
pub no_two_owners : (c : Config) → IsInvariant c → HasNoTwoOwners c
no_two_owners c inv q = omega (arith, owners_counted q c.parts, inv.kept.owned q)
