use Rattle.std.proofs.Common.{◌≡◌, ◌-◌, None}
use Rattle.cqp_stepper.specs.Kept.{Keeps}
use Rattle.cqp_stepper.proofs.cells.Cells.settle.Given as goal

-- the cells are those of the same entries, and the two first are noted
abbrev pub invariant-loop-self : goal.invariant-loop-self
invariant-loop-self l = record {
  kept : Keeps l.tables l.fn.self l.self;
  first : l.self.unseen.first ≡ None;
  second : l.self.unseen.second ≡ None;
}

abbrev pub decreases-loop-self : goal.decreases-loop-self
decreases-loop-self l = l.self.counts.parts - l.self.unseen.from
