use Rattle.std.proofs.Common.{◌≡◌, map, take, slice_index}
use Rattle.cqp_expand.proofs.types.chosen.Given as goal

abbrev pub invariant-loop-part : goal.invariant-loop-part
invariant-loop-part l = l.chosen ≡ map (λ k. slice_index l.numbers k) (take l.part-index l.parts)
