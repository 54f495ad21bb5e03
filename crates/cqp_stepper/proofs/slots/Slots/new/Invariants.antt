use Rattle.std.proofs.Common.{◌≡◌, ℕ, None, length}
use Rattle.cqp_stepper.specs.Slots.{part_in}
use Rattle.cqp_stepper.proofs.slots.Slots.new.Given as goal

-- so many places, and no part
abbrev pub invariant-loop : goal.invariant-loop
invariant-loop l = record {
  count : length l.places.items ≡ l.counter;
  none : (n : ℕ) → part_in l.places.items n ≡ None;
}
