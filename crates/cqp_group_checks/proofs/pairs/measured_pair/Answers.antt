use Rattle.std.proofs.Common.{[], ◌∷◌}
use Rattle.std.specs.Prelude.{None}
use Rattle.cqp_group_checks.specs.Pairs.{bell}
use Rattle.cqp_group_checks.proofs.Changes.{measured_leaves, may_measure}
use Rattle.cqp_group_checks.proofs.pairs.measured_pair.Goals as goal

pub measured-requires : goal.measured-requires
measured-requires c = may_measure _ c.in_ok-groups.ensures

pub returns : goal.returns
returns c =
    measured_leaves c.in_ok-groups.groups c.measured.new.self bell None (0 ∷ []) 1 c.in_ok-groups.ensures
    c.in_ok-measured.ensures.ok c.measured.ensures.made
