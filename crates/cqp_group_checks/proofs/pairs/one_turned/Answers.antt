use Rattle.std.proofs.Common.{[], ◌∷◌}
use Rattle.std.specs.Prelude.{Some}
use Rattle.cqp_syntax.specs.declared.op.Op.TheVariants as op
use Rattle.cqp_group_checks.specs.Pairs.{alone}
use Rattle.cqp_group_checks.proofs.Changes.{gate_leaves, may_turn, two_alone}
use Rattle.cqp_group_checks.proofs.pairs.one_turned.Goals as goal

pub gate-requires : goal.gate-requires
gate-requires c = may_turn _ (two_alone _ c.in_ok-groups.ensures)

pub returns : goal.returns
returns c =
    let g = c.in_ok-gate in
    gate_leaves c.in_ok-groups.groups c.gate.new.self (alone 0) (Some (alone 1)) op.H (0 ∷ [])
    (two_alone _ c.in_ok-groups.ensures) g.ensures.ok c.gate.ensures.made
