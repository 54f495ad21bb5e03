use Rattle.std.proofs.Common.{◌≡◌, ◌++◌}
use Rattle.std.specs.List.{AllByRecursion}
use Rattle.cqp_parts.specs.Parts.{prefixes_at, IsProcessAt}
use Rattle.cqp_onward.specs.Spreads.{pending, nodes_left}
use Rattle.cqp_onward.proofs.spread.prefixes.Given as goal

-- the prefixes so far, and those of what is left
abbrev pub invariant-loop-m : goal.invariant-loop-m
invariant-loop-m l = record {
  told : l.numbers.items ++ pending l.proc l.stack.items ≡ prefixes_at l.proc l.n;
  stack : AllByRecursion (IsProcessAt l.proc) l.stack.items;
  numbers : AllByRecursion (IsProcessAt l.proc) l.numbers.items;
}

abbrev pub decreases-loop-m : goal.decreases-loop-m
decreases-loop-m l = nodes_left l.proc l.stack.items
