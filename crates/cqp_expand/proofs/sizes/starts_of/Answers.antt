use Rattle.std.proofs.Common.{◌≤◌, sum_by, arith}
use Rattle.cqp_expand.specs.Sizes.{member_count}
use Rattle.cqp_expand.proofs.SizedOutlines.{sized_members}
use Rattle.cqp_expand.proofs.sizes.starts_of.Goals as goal

pub starts-requires-clause-known : goal.starts-requires-clause-known
starts-requires-clause-known c =
    let small : sum_by (member_count c.args.outlines.now) c.args.members.now ≤ 20000 = omega (arith, c.requires.count, c.if-count-gt-MOST.false) in
    (sized_members c.args.outlines.now c.requires.sized c.args.members.now c.requires.known small).0

pub starts-requires-clause-fits : goal.starts-requires-clause-fits
starts-requires-clause-fits c =
    let small : sum_by (member_count c.args.outlines.now) c.args.members.now ≤ 20000 = omega (arith, c.requires.count, c.if-count-gt-MOST.false) in
    let few = (sized_members c.args.outlines.now c.requires.sized c.args.members.now c.requires.known small).1 in
    omega (arith, few, small)
