-- Laws of what a run's front and cells tell of the configuration that they stand for.
use Rattle.std.specs.Prelude.{◌≡◌, ◌↔◌, ℕ, ◌≤◌, List, length, true, Some}
use Rattle.std.specs.List.{list_all}
use Rattle.cqp_book.specs.Keys.{has}
use Rattle.cqp_book.specs.Run.{IsRun}
use Rattle.cqp_ring.specs.declared.weight.Weight.{Weight}
use Rattle.cqp_ring.specs.Weight.{IsSameNumber}
use Rattle.cqp_syntax.specs.Listing.{Listing, IsProc, root}
use Rattle.cqp_syntax.specs.Lists.{is_distinct}
use Rattle.cqp_syntax.specs.Measures.{need}
use Rattle.cqp_cells.specs.Config.{Config}
use Rattle.cqp_cells.specs.Lawful.{exponent_after}
use Rattle.cqp_cells.specs.Probability.{IsProbability}
use Rattle.cqp_engine.specs.Upcoming.{AreOddsOf}
use Rattle.cqp_machine.specs.declared.event.Event.{Event}
use Rattle.cqp_machine.specs.Factors.{Held, places_in, state_of}
use Rattle.cqp_vector.specs.Measurement.{is_outcome}
use Rattle.cqp_machine.specs.Machine.{factored}
use Rattle.cqp_machine.specs.Shown.{shown, front_of, cells_of}
use Rattle.cqp_machine.specs.Sums.{levels, weight_of_groups}
use Rattle.cqp_factored.specs.FactoredPath.{ShowsPath}
use Rattle.cqp_telling.specs.Told.{odds_in_group, parts_there}

-- the law: as many parts are there in the cells as the last configuration has
abbrev pub LeftLaw : Type 0
LeftLaw =
    (l : Listing) (es : List Event) (last : Config) → IsProc l → IsRun factored l es
    → ShowsPath l es last → parts_there (front_of l es) (cells_of l es) ≡ length last.parts

-- the law: the exponent is at its limit exactly where the front's level is at least 179
abbrev pub LimitLaw : Type 0
LimitLaw =
    (l : Listing) (es : List Event) (last : Config) → IsProc l → IsRun factored l es
    → ShowsPath l es last → exponent_after (shown es) last ≡ 90 ↔ 179 ≤ (front_of l es).level

-- the law: exactly where the groups' levels together are, too
abbrev pub GroupLimitLaw : Type 0
GroupLimitLaw =
    (l : Listing) (es : List Event) (last : Config) → IsProc l → IsRun factored l es
    → ShowsPath l es last
    → exponent_after (shown es) last ≡ 90 ↔ 179 ≤ levels (front_of l es).qubits (cells_of l es)

-- the law: a weight that is the product of the groups' norms over 2 to the sum of their exponents
-- is the probability of the shown entries
abbrev pub WeightLaw : Type 0
WeightLaw =
    (l : Listing) (es : List Event) (last : Config) → ShowsPath l es last → (w : Weight)
    → IsSameNumber w (weight_of_groups (front_of l es).qubits (cells_of l es))
    → IsProbability (root l) (shown es) w

-- the law: the odds that a group tells of distinct qubits of its own are odds of their measurement
-- in the last state
abbrev pub OddsLaw : Type 0
OddsLaw =
    (l : Listing) (es : List Event) (last : Config) → IsProc l → need (root l) ≤ 12
    → IsRun factored l es → ShowsPath l es last → (g : ℕ) (G : Held)
    → (cells_of l es).groups g ≡ Some G → (qs : List ℕ) → is_distinct qs ≡ true
    → list_all (λ q. has q G.qubits) qs ≡ true → AreOddsOf qs last.state (odds_in_group G qs)

-- the law: a number is an outcome of distinct qubits of a group exactly where it is one in the last
-- state
abbrev pub OutcomeLaw : Type 0
OutcomeLaw =
    (l : Listing) (es : List Event) (last : Config) → IsProc l → IsRun factored l es
    → ShowsPath l es last → (g : ℕ) (G : Held) → (cells_of l es).groups g ≡ Some G → (qs : List ℕ)
    → is_distinct qs ≡ true → list_all (λ q. has q G.qubits) qs ≡ true → (m : ℕ)
    → is_outcome (places_in G.qubits qs) (state_of G) m ≡ is_outcome qs last.state m
