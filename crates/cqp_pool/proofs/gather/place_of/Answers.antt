use Rattle.std.proofs.Common.{arith}
use Rattle.cqp_pool.proofs.Orders.{number_absent}
use Rattle.cqp_pool.proofs.gather.place_of.Goals as goal

pub unreachable-requires : goal.unreachable-requires
unreachable-requires g c =
    let has = c.requires in
    number_absent c.args.lanes.now c.args.number has.0 (λ j d lt. c.loop-at.invariant j (let end = c.loop-at-test.false in omega arith) d) has.1 has.2
