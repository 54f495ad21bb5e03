-- Which deeds of a process fit, and which entries of a part that has it.
use Rattle.std.proofs.Common.{◌≡◌, ◌⊎◌, ℕ, true, false, Option, Some, None, refl, sym, ap, subst, ◌∙◌, inl, inr}
use Rattle.std.specs.Prelude.{IsSome, is_some}
use Rattle.cqp_syntax.specs.Trees.{Process}
use Rattle.cqp_trace.specs.declared.deed.Deed.{Deed}
use Rattle.cqp_cells.specs.Config.{Config, part_at}
use Rattle.cqp_cells.specs.Examples.{by}
use Rattle.cqp_cells.specs.Rows.{Fits, IsAlone, IsMeeting}
use Rattle.cqp_cells.specs.Step.{next}
use Rattle.cqp_cells.proofs.Forward.{fits_next}
use Rattle.cqp_cells.proofs.Inversion.{inverted}
use Rattle.cqp_cells.proofs.Options.{same_some, yes_is_no}
use Rattle.cqp_meeting.specs.Meetings.{is_communication}
use Rattle.cqp_turn_laws.specs.Laws.{MovesLaw}
use Rattle.cqp_fitting.specs.Laws.{FitsLaw, EntryLaw, NoEntryLaw}
use Rattle.cqp_fitting.proofs.FromDeeds.{deed_fits}
use Rattle.cqp_fitting.proofs.FromFits.{fits_deed}

-- of a process with no wrong operand exactly the deeds of its turn fit
pub fits_law : MovesLaw → FitsLaw
fits_law law s chans p t right h d = (fits_deed s chans p t d h, deed_fits law s chans p t right h d)

-- an entry of one part that leads on fits its process
entry_fits : (c : Config) (i : ℕ) (p : Process) → part_at i c.parts ≡ Some p → (d : Deed) → is_communication d ≡ false → IsSome (next c (by i d))
    → Fits c.state c.chans p d
entry_fits c i p there d own h = by_next (next c (by i d)) refl h
  where
    by_row : (e : Config) → IsAlone c (by i d) e ⊎ IsMeeting c (by i d) e → Fits c.state c.chans p d
    by_row e (inl alone) = subst (λ q. Fits c.state c.chans q d) (same_some (sym alone.there ∙ there)) alone.fits
    by_row e (inr met) = absurd (yes_is_no (sym (ap is_communication met.deed_is) ∙ own))

    by_next : (o : Option Config) → next c (by i d) ≡ o → is_some o ≡ true → Fits c.state c.chans p d
    by_next None at g = absurd (yes_is_no (sym g))
    by_next (Some e) at g = by_row e (inverted c (by i d) e at)

-- an entry of a part leads on exactly with a deed of its turn
pub entry_law : MovesLaw → EntryLaw
entry_law law c i p t there right h d own = (
  λ leads. fits_deed c.state c.chans p t d h (entry_fits c i p there d own leads),
  λ is. ap is_some (fits_next c i there (deed_fits law c.state c.chans p t right h d is)),
)

-- nothing is there exactly where not something is
none_of : {X : Type 0} (o : Option X) → (IsSome o → ⊥) → o ≡ None
none_of None h = refl
none_of (Some x) h = absurd (h refl)

some_of : {X : Type 0} (o : Option X) → o ≡ None → IsSome o → ⊥
some_of o h is = yes_is_no (sym is ∙ ap is_some h)

-- an entry of a part leads nowhere exactly with no deed of its turn
pub no_entry_law : MovesLaw → NoEntryLaw
no_entry_law law c i p t there right h d own =
    let both = entry_law law c i p t there right h d own in
    (λ none is. some_of (next c (by i d)) none (both.1 is), λ other. none_of (next c (by i d)) (λ leads. other (both.0 leads)))
