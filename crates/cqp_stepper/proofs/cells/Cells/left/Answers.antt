use Rattle.std.proofs.Common.{suc, arith}
use Rattle.cqp_stepper.specs.Slots.{part_in}
use Rattle.cqp_stepper.proofs.Counting.{few_there}
use Rattle.cqp_stepper.proofs.cells.Cells.left.Goals as goal

pub overflow_add-left : goal.overflow_add-left
overflow_add-left c =
    let few = few_there c.loop-n.n (λ i. part_in c.args.self.now.slots i) in
    let next = few_there (suc c.loop-n.n) (λ i. part_in c.args.self.now.slots i) in
    let so_far = c.loop-n.invariant in
    let one = c.is_there-left.ensures in
    omega arith
