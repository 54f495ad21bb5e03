use Rattle.std.proofs.Common.{◌≡◌, ◌-◌, vec_len, All}
use Rattle.cqp_pool.specs.Parts.{deques_in, new_owns, new_row}
use Rattle.cqp_pool.proofs.start.new_rows.Given as goal

abbrev pub invariant-loop-made : goal.invariant-loop-made
invariant-loop-made g l = record {
  owns : l.owns.items ≡ new_owns (1024 - l._made) (deques_in l.initial.owns.items);
  count : vec_len l.rows ≡ l._made;
  rows : All (λ r. r.items ≡ new_row (deques_in l.initial.owns.items)) l.rows.items;
}
