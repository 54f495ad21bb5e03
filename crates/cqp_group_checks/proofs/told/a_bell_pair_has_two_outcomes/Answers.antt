use Rattle.std.proofs.Common.{[], ◌∷◌, refl}
use Rattle.std.specs.Prelude.{None}
use Rattle.cqp_group_checks.specs.Pairs.{bell}
use Rattle.cqp_group_checks.proofs.Changes.{held}
use Rattle.cqp_group_checks.proofs.told.a_bell_pair_has_two_outcomes.Goals as goal

pub odds-requires-clause-held : goal.odds-requires-clause-held
odds-requires-clause-held g c =
    held _ bell None (0 ∷ 1 ∷ []) c.in_ok-groups.ensures (record { distinct = refl; below = refl })
