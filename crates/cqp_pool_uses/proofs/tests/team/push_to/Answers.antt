use Rattle.std.proofs.Common.{arith}
use Rattle.cqp_pool.proofs.Places.{whole_set}
use Rattle.cqp_pool_uses.proofs.tests.team.push_to.Goals as goal

pub returns : goal.returns
returns g c = λ whole. whole_set c.args.lanes.now c.args.at c.push.new.self c.index-lanes-at.result
    (let a = c.if-at-lanes.false in omega arith) c.push.ensures.same.0 whole
