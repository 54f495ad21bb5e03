use Rattle.std.proofs.Common.{◌≡◌}
use Rattle.cqp_machine.specs.Sums.{sum_below}
use Rattle.cqp_telling.specs.Told.{one_if_part}
use Rattle.cqp_stepper.specs.Slots.{part_in}
use Rattle.cqp_stepper.proofs.cells.Cells.left.Given as goal

-- the parts so far
abbrev pub invariant-loop-n : goal.invariant-loop-n
invariant-loop-n l = l.left ≡ sum_below l.n (λ i. one_if_part (part_in l.self.slots i))
