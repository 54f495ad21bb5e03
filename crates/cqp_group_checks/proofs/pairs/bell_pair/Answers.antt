use Rattle.std.proofs.Common.{[], ◌∷◌}
use Rattle.std.specs.Prelude.{None}
use Rattle.cqp_syntax.specs.declared.op.Op.TheVariants as op
use Rattle.cqp_group_checks.specs.Pairs.{both}
use Rattle.cqp_group_checks.proofs.Changes.{gate_leaves, may_cnot}
use Rattle.cqp_group_checks.proofs.pairs.bell_pair.Goals as goal

pub gate-requires : goal.gate-requires
gate-requires c = may_cnot _ c.in_ok-groups.ensures

pub returns : goal.returns
returns c =
    gate_leaves c.in_ok-groups.groups c.gate.new.self both None op.CNot (0 ∷ 1 ∷ []) c.in_ok-groups.ensures
    c.in_ok-gate.ensures.ok c.gate.ensures.made
