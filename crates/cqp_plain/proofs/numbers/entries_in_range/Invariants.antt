use Rattle.std.proofs.Common.{◌≡◌, take, true}
use Rattle.std.specs.List.{list_all}
use Rattle.cqp_cells.specs.InRange.{is_in_range}
use Rattle.cqp_plain.proofs.numbers.entries_in_range.Given as goal

-- the numbers of the entries so far are in range
abbrev pub invariant-loop-entry : goal.invariant-loop-entry
invariant-loop-entry l = list_all is_in_range (take l.entry-index l.entries) ≡ true
