-- Each entry that is tried has one answer.
use Rattle.std.proofs.Common.{◌≡◌, Bool, true, false, refl, sym, ap, subst, ◌∙◌}
use Rattle.std.specs.Prelude.{Some, None, Option, IsSome}
use Rattle.cqp_trace.specs.declared.entry.Entry.{Entry}
use Rattle.cqp_cells.specs.Config.{Config}
use Rattle.cqp_cells.specs.Path.{h_total, is_below_limit}
use Rattle.cqp_cells.specs.Step.{next}
use Rattle.cqp_cells.proofs.Options.{none_is_some, same_some, yes_is_no}
use Rattle.cqp_engine.specs.declared.engine.Fit.{Fit}
use Rattle.cqp_engine.specs.declared.engine.Fit.TheVariants.{Made, NoStep, AtLimit}
use Rattle.cqp_engine.specs.Progress.{Progress, IsTried, longer}

-- where some configuration is there, it is this one
pub some_of : (o : Option Config) → IsSome o → (d : Config) × (o ≡ Some d)
some_of None there = absurd (yes_is_no (sym there))
some_of (Some d) there = (d, refl)

-- an entry that is tried has some answer
pub tried_some : (s : Progress) (e : Entry) → (fit : Fit) × (t : Progress) × IsTried s e fit t
tried_some s e = by_next (next s.last e) refl
  where
    by_limit : (d : Config) (b : Bool) → next s.last e ≡ Some d → is_below_limit (h_total s.entries) s.last.state e.deed ≡ b
        → (fit : Fit) × (t : Progress) × IsTried s e fit t
    by_limit d true fits below = (Made, longer s e d, (record { fits = fits; below = below }, refl))
    by_limit d false fits below = (AtLimit, s, (subst IsSome (sym fits) refl, below, refl))

    by_next : (o : Option Config) → next s.last e ≡ o → (fit : Fit) × (t : Progress) × IsTried s e fit t
    by_next None fits = (NoStep, s, (fits, refl))
    by_next (Some d) fits = by_limit d (is_below_limit (h_total s.entries) s.last.state e.deed) fits refl

-- what is nothing isn't there
no_some : (o : Option Config) → o ≡ None → IsSome o → ⊥
no_some o none some = yes_is_no (sym (subst IsSome none some))

-- what is nothing isn't this configuration
no_next : (o : Option Config) (d : Config) → o ≡ None → o ≡ Some d → ⊥
no_next o d none some = none_is_some (sym none ∙ some)

-- two answers for one entry are the same, and so is what they make of the progress
pub tried_one : (s t u : Progress) (e : Entry) (f g : Fit) → IsTried s e f t → IsTried s e g u → (f ≡ g) × (t ≡ u)
tried_one s t u e Made Made h g = (refl, h.1 ∙ ap (λ d. longer s e d) (same_some (sym h.0.fits ∙ g.0.fits)) ∙ sym g.1)
tried_one s t u e Made NoStep h g = absurd (no_next (next s.last e) t.last g.0 h.0.fits)
tried_one s t u e Made AtLimit h g = absurd (yes_is_no (sym h.0.below ∙ g.1))
tried_one s t u e NoStep Made h g = absurd (no_next (next s.last e) u.last h.0 g.0.fits)
tried_one s t u e NoStep NoStep h g = (refl, h.1 ∙ sym g.1)
tried_one s t u e NoStep AtLimit h g = absurd (no_some (next s.last e) h.0 g.0)
tried_one s t u e AtLimit Made h g = absurd (yes_is_no (sym g.0.below ∙ h.1))
tried_one s t u e AtLimit NoStep h g = absurd (no_some (next s.last e) g.0 h.0)
tried_one s t u e AtLimit AtLimit h g = (refl, h.2 ∙ sym g.2)
