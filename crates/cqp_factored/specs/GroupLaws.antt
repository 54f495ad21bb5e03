-- Laws of groups along runs: their levels and limits, and what a join and a split of them ask.
use Rattle.std.specs.Prelude.{◌≡◌, ℕ, ◌<◌, ◌≤◌, List, length, true, Some}
use Rattle.std.specs.List.{list_all}
use Rattle.cqp_syntax.specs.Listing.{Listing, IsProc}
use Rattle.cqp_syntax.specs.Lists.{is_distinct}
use Rattle.cqp_vector.specs.Places.{ArePlaces}
use Rattle.cqp_pieces.specs.Splitting.{SplitsRightly}
use Rattle.cqp_vector.specs.Group.{IsGroup, CanJoin}
use Rattle.cqp_book.specs.Run.{IsRun}
use Rattle.cqp_machine.specs.declared.event.Event.{Event}
use Rattle.cqp_machine.specs.Enabled.{MayJoin, MaySplit}
use Rattle.cqp_machine.specs.Factors.{Held, factor_of, level_of, places_in}
use Rattle.cqp_book.specs.Keys.{has}
use Rattle.cqp_machine.specs.Machine.{factored}
use Rattle.cqp_machine.specs.Shown.{front_of, cells_of}

-- the law: the sum of the groups' levels is at most 180
abbrev pub LevelLaw : Type 0
LevelLaw =
    (l : Listing) (es : List Event) → IsProc l → IsRun factored l es → (front_of l es).level ≤ 180

-- the law: a group's level is within the sum, and below the limit of an H its exponent is below 90
abbrev pub GroupLevelLaw : Type 0
GroupLevelLaw =
    (l : Listing) (es : List Event) (g : ℕ) (G : Held) → IsProc l → IsRun factored l es
    → (cells_of l es).groups g ≡ Some G
    → (level_of G ≤ (front_of l es).level) × ((front_of l es).level ≤ 178 → G.h < 90)

-- the law: distinct qubits of a group have as many distinct places in it
abbrev pub PlacesLaw : Type 0
PlacesLaw =
    (xs qs : List ℕ) → is_distinct qs ≡ true → list_all (λ q. has q xs) qs ≡ true
    → ArePlaces (length xs) (places_in xs qs) × (length (places_in xs qs) ≡ length qs)

-- the law: each group is what a factor is, where at most 12 qubits were made
abbrev pub GroupLaw : Type 0
GroupLaw =
    (l : Listing) (es : List Event) (g : ℕ) (G : Held) → IsProc l → IsRun factored l es
    → (front_of l es).qubits ≤ 12 → (cells_of l es).groups g ≡ Some G → IsGroup (factor_of G)

-- the law: then two groups can be joined
abbrev pub JoinLaw : Type 0
JoinLaw =
    (l : Listing) (es : List Event) (left right : ℕ) → IsProc l → IsRun factored l es
    → (front_of l es).qubits ≤ 12 → (x : MayJoin (cells_of l es) left right)
    → CanJoin (factor_of x.first) (factor_of x.second)

-- the law: so does each split that is enabled
abbrev pub SplitLaw : Type 0
SplitLaw =
    (l : Listing) (es : List Event) (group : ℕ) (qs : List ℕ) (rest : ℕ) → IsProc l
    → IsRun factored l es → (x : MaySplit (cells_of l es) group qs rest) → SplitsRightly qs x.before
