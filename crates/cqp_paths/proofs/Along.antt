-- What each entry keeps, all entries keep.
use Rattle.std.proofs.Common.{◌≡◌, List, [], ◌∷◌, refl, subst}
use Rattle.std.specs.Prelude.{Some, None, Option}
use Rattle.std.specs.Option.{option_and_then}
use Rattle.cqp_trace.specs.declared.entry.Entry.{Entry}
use Rattle.cqp_cells.specs.Config.{Config}
use Rattle.cqp_cells.specs.Step.{next}
use Rattle.cqp_cells.specs.Path.{after}
use Rattle.cqp_cells.proofs.Options.{none_is_some, same_some}

-- what each entry keeps, all entries keep
pub kept_along : (P : Config → Type 0) → ((c : Config) (e : Entry) (d : Config) → next c e ≡ Some d → P c → P d)
    → (es : List Entry) (c d : Config) → after c es ≡ Some d → P c → P d
kept_along P keeps [] c d h is = subst P (same_some h) is
kept_along P keeps (e ∷ es) c d h is = by_next (next c e) refl h (λ b g i. kept_along P keeps es b d g i)
  where
    by_next : (o : Option Config) → next c e ≡ o → option_and_then (λ b. after b es) o ≡ Some d → ((b : Config) → after b es ≡ Some d → P b → P d) → P d
    by_next None at g more = absurd (none_is_some g)
    by_next (Some b) at g more = more b g (keeps c e b at is)
