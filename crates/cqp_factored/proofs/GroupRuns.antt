-- Along runs: levels, limits, joins and splits of groups.
use Rattle.std.proofs.Common.{refl, ◌≢◌, [], ◌∷◌, length, true, ◌≡◌, ℕ, List, ◌<◌, sym, subst, arith}
use Rattle.cqp_syntax.specs.Listing.{root}
use Rattle.cqp_cells.specs.Path.{h_total}
use Rattle.cqp_machine.specs.Shown.{shown, front_of, cells_of}
use Rattle.cqp_factored.specs.GroupLaws.{LevelLaw, GroupLevelLaw, PlacesLaw, GroupLaw, JoinLaw, SplitLaw}
use Rattle.cqp_cells.proofs.Powers.{path_exponent}
use Rattle.cqp_factored.proofs.GroupLimits.{group_level, group_room, group_kept, join_can}
use Rattle.std.proofs.lemmas.List.{length-map}
use Rattle.cqp_machine.specs.Factors.{index_of}
use Rattle.cqp_places.proofs.PlacesKept.{own_places}
use Rattle.cqp_factored.proofs.RunHalf.{distinct_from}
use Rattle.cqp_book.specs.Keys.{has}
use Rattle.cqp_places.specs.Places.{IsDistinct}
use Rattle.cqp_pieces.proofs.SplitPieces.{splits_rightly}
use Rattle.cqp_factored.proofs.RunStands.{run_stands}
use Rattle.cqp_factored.proofs.ShownPaths.{well, shown_paths}

-- the front's level is within its limit
pub level_within : LevelLaw
level_within l es sound run =
    let path = (shown_paths l es sound run).1 in
    let half = path.stands.exponent in
    let most = path_exponent (root l) (shown es) (shown_paths l es sound run).0 path.path in
    omega (arith, half, most)

-- a group's level, and its room for an H
pub group_levels : GroupLevelLaw
group_levels l es g G sound run there =
    let leads = run_stands l sound es run in
    let x = well l sound es leads in (
      group_level l (front_of l es) (cells_of l es) (h_total (shown es)) leads.last x g G there,
      group_room l (front_of l es) (cells_of l es) (h_total (shown es)) leads.last x g G there,
    )

-- the places of its qubits
pub places_are : PlacesLaw
places_are xs qs distinct inside = (own_places xs qs (distinct_from qs distinct) inside, length-map qs (λ q. index_of q xs))

-- the groups are what factors are
pub groups_are : GroupLaw
groups_are l es g G sound run few =
    let leads = run_stands l sound es run in
    group_kept l (front_of l es) (cells_of l es) (h_total (shown es)) leads.last (well l sound es leads) few (level_within l es sound run) g G

-- two groups can be joined
pub joins_can : JoinLaw
joins_can l es left right sound run few =
    let leads = run_stands l sound es run in
    join_can l (front_of l es) (cells_of l es) (h_total (shown es)) leads.last (well l sound es leads) few (level_within l es sound run) left right

-- each split is that of a factor
some_due : (qs : List ℕ) → qs ≢ [] → 0 < length qs
some_due [] n = absurd (n refl)
some_due (q ∷ qs) n = omega arith

-- a split is that of the factor
pub splits_are : SplitLaw
splits_are l es group qs rest sound run x =
    let leads = run_stands l sound es run in
    let here = well l sound es leads in
    let good = here.stands.state.good group x.before x.there in
    let own = here.stands.state.partition.each group x.before x.there in
    splits_rightly x.before qs (subst IsDistinct x.are_due good.apart)
    (λ q t. own.due_in q (subst (λ ds. has q ds ≡ true) (sym x.are_due) t))
    good.shape x.are_due good.fixed (here.factors group x.before x.there).sound.nonzero (some_due qs x.some)
