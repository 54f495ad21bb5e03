use Rattle.std.proofs.Common.{◌≡◌, take}
use Rattle.cqp_pool.specs.Parts.{lend, new_row, deques_in}
use Rattle.cqp_pool.proofs.Rows.{map_first}
use Rattle.cqp_pool.proofs.start.row_into_all.Given as goal

abbrev pub invariant-loop-k : goal.invariant-loop-k
invariant-loop-k g l = (l.owns ≡ map_first lend l.k l.initial.owns) × (l.row.items ≡ new_row (take l.k (deques_in l.initial.owns)))
