use Rattle.std.proofs.Common.{◌≡◌, vec_len}
use Rattle.cqp_pool.specs.Parts.{deques_in, new_owns}
use Rattle.cqp_pool.proofs.start.new_deques.Given as goal

abbrev pub invariant-loop-made : goal.invariant-loop-made
invariant-loop-made g l = (l.owns.items ≡ new_owns 1024 (deques_in l.owns.items)) × (vec_len l.owns ≡ l._made)
