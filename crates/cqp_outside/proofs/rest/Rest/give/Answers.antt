use Rattle.std.proofs.Common.{arith, length, length-take, ◌≡◌}
use Rattle.cqp_outside.proofs.Fronts.{front_moved, whole_rest}
use Rattle.cqp_outside.proofs.rest.Rest.give.Goals as goal

pub returns-clause-moved : goal.returns-clause-moved
returns-clause-moved c =
    let bytes = c.self.inside.bytes in
    let copied = rw (c.as_slice.ensures, whole_rest bytes c.self.inside.at) at c.copy_from_slice.ensures.after in
    let size : length c.copy_from_slice.new.self ≡ c.min-count.result = omega (arith, length-take c.min-count.result c.args.buf.now) in
    rw (← c.self.view_is) (front_moved bytes _ _ _ _ size copied)
