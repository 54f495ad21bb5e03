use Rattle.std.specs.Prelude.{None, Some}
use Rattle.cqp_group_checks.specs.Pairs.{bell}
use Rattle.cqp_group_checks.proofs.Asked.{exponent_small, few, level_small, norms_small}
use Rattle.cqp_group_checks.proofs.told.a_bell_pair_is_one_group.Goals as goal

pub group_of-requires : goal.group_of-requires
group_of-requires g c = few _ (Some bell) None c.in_ok-groups.ensures

pub group_of-requires-2 : goal.group_of-requires-2
group_of-requires-2 g c = few _ (Some bell) None c.in_ok-groups.ensures

pub group_of-requires-3 : goal.group_of-requires-3
group_of-requires-3 g c = few _ (Some bell) None c.in_ok-groups.ensures

pub level-requires : goal.level-requires
level-requires g c = level_small _ c.in_ok-groups.ensures

pub exponents-requires : goal.exponents-requires
exponents-requires g c = exponent_small _ c.in_ok-groups.ensures

pub norm-requires : goal.norm-requires
norm-requires g c = norms_small _ c.in_ok-groups.ensures
