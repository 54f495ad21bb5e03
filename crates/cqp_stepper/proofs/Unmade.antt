-- Entries that lead nowhere.
use Rattle.std.proofs.Common.{◌≡◌, ℕ, List, Some, None, IsSome, Option, false, refl}
use Rattle.std.specs.Prelude.{Result, Ok, Err, IfOk}
use Rattle.std.specs.Option.{option_and_then}
use Rattle.cqp_syntax.specs.Listing.{Listing}
use Rattle.cqp_syntax.specs.Trees.{Process}
use Rattle.cqp_trace.specs.declared.deed.Deed.TheVariants as deed
use Rattle.cqp_trace.specs.declared.entry.Entry.{Entry}
use Rattle.cqp_vector.specs.Measurement.{is_outcome}
use Rattle.cqp_cells.specs.Config.{Config, part_at}
use Rattle.cqp_cells.specs.Examples.{by}
use Rattle.cqp_cells.specs.Step.{next, row_of}
use Rattle.cqp_engine.specs.declared.engine.Fit.{Fit}
use Rattle.cqp_engine.specs.declared.engine.Fit.TheVariants as fit
use Rattle.cqp_stepper.specs.declared.cells.Cells.{Cells}
use Rattle.cqp_stepper.specs.Kept.{Keeps}
use Rattle.cqp_stepper.specs.Last.{IsTriedBy}

-- what isn't some is none
pub none_if : {X : Type 0} (o : Option X) → (IsSome o → ⊥) → o ≡ None
none_if None h = refl
none_if (Some x) h = absurd (h refl)

-- an outcome whose projection is 0
pub unlikely_none : (c : Config) (i m : ℕ) (qs : List ℕ) → is_outcome qs c.state m ≡ false → next c (by i (deed.Measure qs m)) ≡ None
unlikely_none c i m qs unlikely = by_part (part_at i c.parts)
  where
    -- whoever the part is
    by_part : (o : Option Process) → option_and_then (λ p. row_of c i p (deed.Measure qs m)) o ≡ None
    by_part None = refl
    by_part (Some p) = rw unlikely refl

-- what is tried of later cells of the same entries is tried of the earlier ones
pub tried_before : (l : Listing) (s u t : Cells) (e : Entry) (fit : Fit) → Keeps l s u → IsTriedBy l u e fit t → IsTriedBy l s e fit t
tried_before l s u t e fit.Made keeps h = λ es k. h es (keeps es k)
tried_before l s u t e fit.NoStep keeps h = (λ es k. h.0 es (keeps es k), λ es k. h.1 es (keeps es k))
tried_before l s u t e fit.AtLimit keeps h = (λ es k. h.0 es (keeps es k), λ es k. h.1 es (keeps es k))

-- so where memory was there
pub tried_if : {E : Type 0} (l : Listing) (s u t : Cells) (e : Entry) (r : Result Fit E) → Keeps l s u
    → IfOk r (λ fit. IsTriedBy l u e fit t) → IfOk r (λ fit. IsTriedBy l s e fit t)
tried_if l s u t e (Ok fit) keeps h = tried_before l s u t e fit keeps h
tried_if l s u t e (Err x) keeps h = tt
