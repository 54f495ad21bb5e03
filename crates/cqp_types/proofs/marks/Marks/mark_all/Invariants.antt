use Rattle.std.proofs.Common.{◌-◌, drop}
use Rattle.cqp_types.specs.Marks.{IsMarkedBy}
use Rattle.cqp_types.proofs.MarkLaws.{HasMarked}
use Rattle.cqp_types.proofs.marks.Marks.mark_all.Given as goal

-- the names so far, from the last, are marked
abbrev pub invariant-loop-k : goal.invariant-loop-k
invariant-loop-k l = record {
  marked : HasMarked l.number l.self.by.items (drop (l.count - l.k) l.names) l.twice;
  before : IsMarkedBy l.number l.fn.self.by.items l.self.by.items;
}
