-- Which outcomes a pick leads to.
use Rattle.std.specs.Prelude.{◌≡◌, ℕ, ◌+◌, List, [], ◌∷◌, map, slice_get, Some}
use Rattle.cqp_ring.specs.declared.root.Root.{Root}
use Rattle.cqp_ring.specs.Root.{IsProportional}
use Rattle.cqp_choose.specs.Odds.{IsLawful as AreLawfulOdds}
use Rattle.cqp_trace.specs.declared.deed.Deed.{Deed}
use Rattle.cqp_trace.specs.declared.deed.Deed.TheVariants as deed
use Rattle.cqp_trace.specs.declared.entry.Entry.{Entry}
use Rattle.cqp_vector.specs.State.{State}
use Rattle.cqp_vector.specs.Measurement.{distribution}
use Rattle.cqp_syntax.specs.Trees.{Process}
use Rattle.cqp_cells.specs.Config.{Config, start_of}
use Rattle.cqp_cells.specs.Step.{next}
use Rattle.cqp_cells.specs.Order.{OfSome}

-- a pick: whether it may answer an index at a turn and with these odds
abbrev pub Pick : Type 1
Pick = ℕ → List Root → ℕ → Type 0

-- the outcomes of a measurement
abbrev pub outcomes_of : List ℕ → State → List ℕ
outcomes_of qs s = map (λ l. l.outcome) (distribution qs s)

-- and their norms
abbrev pub norms_of : List ℕ → State → List Root
norms_of qs s = map (λ l. l.norm) (distribution qs s)

-- with lawful odds in the proportion of the norms the pick may answer where the outcome stands
pub record IsPicked (pick : Pick) (turn : ℕ) (s : State) (qs : List ℕ) (m : ℕ) : Type 0 where
  pub odds : List Root
  pub lawful : AreLawfulOdds odds
  pub proportional : IsProportional odds (norms_of qs s)
  pub index : ℕ
  pub answered : pick turn odds index
  pub stands : slice_get (outcomes_of qs s) index ≡ Some m

-- the outcome of a measurement is picked; the other deeds have none
abbrev pub IsPickedIn : Pick → ℕ → State → Deed → Type 0
IsPickedIn pick turn s (deed.Measure qs m) = IsPicked pick turn s qs m
IsPickedIn pick turn s d = Unit {0}

-- 1 for a measurement
abbrev pub measure_count : Deed → ℕ
measure_count (deed.Measure qs m) = 1
measure_count d = 0

-- how many measurements there are
abbrev pub measure_total : List Entry → ℕ
measure_total [] = 0
measure_total (e ∷ es) = measure_count e.deed + measure_total es

-- each outcome, from c on, is picked, where so many measurements were made before
abbrev pub FollowsFrom : Pick → ℕ → Config → List Entry → Type 0
FollowsFrom pick turn c [] = Unit {0}
FollowsFrom pick turn c (e ∷ es) =
    IsPickedIn pick turn c.state e.deed
    × OfSome (next c e) (λ d. FollowsFrom pick (turn + measure_count e.deed) d es)

-- the entries of p follow the pick
abbrev pub Follows : Pick → Process → List Entry → Type 0
Follows pick p es = FollowsFrom pick 0 (start_of p) es
