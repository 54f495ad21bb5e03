use Rattle.cqp_group_checks.specs.Pairs.{alone, turned}
use Rattle.cqp_group_checks.proofs.Changes.{join_leaves, may_join}
use Rattle.cqp_group_checks.proofs.pairs.two_joined.Goals as goal

pub join-requires : goal.join-requires
join-requires c = may_join _ c.in_ok-groups.ensures

pub returns : goal.returns
returns c =
    join_leaves c.in_ok-groups.groups c.join.new.self turned (alone 1) c.in_ok-groups.ensures c.in_ok-join.ensures.ok
    c.join.ensures.made
