use Rattle.std.proofs.Common.{[], ◌∷◌, refl}
use Rattle.std.specs.Prelude.{None}
use Rattle.cqp_group_checks.specs.Pairs.{flipped}
use Rattle.cqp_group_checks.proofs.Changes.{held}
use Rattle.cqp_group_checks.proofs.prepared.a_flipped_pair_has_the_other_outcomes.Goals as goal

pub odds-requires-clause-held : goal.odds-requires-clause-held
odds-requires-clause-held g c =
    held _ flipped None (0 ∷ 1 ∷ []) c.in_ok-groups.ensures (record { distinct = refl; below = refl })
