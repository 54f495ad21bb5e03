use Rattle.std.proofs.Common.{◌≡◌, ◌+◌, ◌≤◌, ℕ, length}
use Rattle.cqp_machine.specs.After.{placed_from}
use Rattle.cqp_stepper.specs.Slots.{part_in}
use Rattle.cqp_stepper.proofs.slots.Slots.place.Given as goal

-- what is left to place, over what is there, gives the same
abbrev pub invariant-loop-part : goal.invariant-loop-part
invariant-loop-part l = record {
  same : (m : ℕ) → placed_from l.next l.others.items (part_in l.self) m
      ≡ placed_from l.initial.next l.initial.others.items (part_in l.initial.self) m;
  room : l.next + length l.others.items ≤ length l.self;
  size : length l.self ≡ length l.initial.self;
}

abbrev pub decreases-loop-part : goal.decreases-loop-part
decreases-loop-part l = goal.left-loop-part l
