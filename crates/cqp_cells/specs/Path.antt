-- Paths: entries that lead from the start of a process, with each H applied below the limit of the
-- exponent.
use Rattle.std.specs.Prelude.{◌≡◌, ℕ, ◌+◌, List, [], ◌∷◌, Bool, true, false, ◌&&◌, ◌||◌, ◌==◌}
use Rattle.std.specs.Prelude.{nat_lt, Some, None, Option}
use Rattle.std.specs.Option.{option_and_then}
use Rattle.cqp_syntax.specs.Trees.{Process}
use Rattle.cqp_trace.specs.declared.deed.Deed.{Deed}
use Rattle.cqp_trace.specs.declared.deed.Deed.TheVariants as deed
use Rattle.cqp_trace.specs.declared.entry.Entry.{Entry}
use Rattle.cqp_vector.specs.State.{State}
use Rattle.cqp_vector.specs.Group.{factors_left_out}
use Rattle.cqp_cells.specs.Config.{Config, start_of}
use Rattle.cqp_cells.specs.Step.{next}
use Rattle.cqp_cells.specs.Exponent.{exponent_of}

-- the configuration after the entries, one after another
abbrev pub after : Config → List Entry → Option Config
after c [] = Some c
after c (e ∷ es) = option_and_then (λ d. after d es) (next c e)

-- 1 where the deed applies H
abbrev pub h_count : Deed → ℕ
h_count (deed.Gate o qs) = factors_left_out o
h_count d = 0

-- how many entries apply H
abbrev pub h_total : List Entry → ℕ
h_total [] = 0
h_total (e ∷ es) = h_count e.deed + h_total es

-- where the deed applies H, the exponent before it is below 90
abbrev pub is_below_limit : ℕ → State → Deed → Bool
is_below_limit k s (deed.Gate o qs) = (factors_left_out o == 0) || nat_lt (exponent_of k s) 90
is_below_limit k s d = true

-- the test passes where something is there
abbrev pub some_passes : {X : Type 0} → (X → Bool) → Option X → Bool
some_passes test None = false
some_passes test (Some x) = test x

-- the entries fit one after another from c on, where k H were applied before, and each that applies
-- H finds an exponent below 90
abbrev pub keeps_limit : ℕ → Config → List Entry → Bool
keeps_limit k c [] = true
keeps_limit k c (e ∷ es) =
    is_below_limit k c.state e.deed
    && some_passes (λ d. keeps_limit (k + h_count e.deed) d es) (next c e)

-- the entries lead from the start of p to the configuration c, below the limit
pub record IsPath (p : Process) (es : List Entry) (c : Config) : Type 0 where
  pub leads : after (start_of p) es ≡ Some c
  pub below : keeps_limit 0 (start_of p) es ≡ true

-- the entry fits after these entries, which lead to c, and keeps to the limit
pub record GoesOn (es : List Entry) (c : Config) (e : Entry) (d : Config) : Type 0 where
  pub fits : next c e ≡ Some d
  pub below : is_below_limit (h_total es) c.state e.deed ≡ true

-- the entries are a path to a configuration, from which the entry goes on
pub record IsLonger (p : Process) (es : List Entry) (e : Entry) (d : Config) : Type 0 where
  pub before : Config
  pub path : IsPath p es before
  pub step : GoesOn es before e d
