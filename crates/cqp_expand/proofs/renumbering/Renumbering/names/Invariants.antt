use Rattle.std.proofs.Common.{◌≡◌, map, take}
use Rattle.cqp_expand.specs.Moved.{name_at}
use Rattle.cqp_expand.proofs.renumbering.Renumbering.names.Given as goal

abbrev pub invariant-loop-name : goal.invariant-loop-name
invariant-loop-name l = l.numbers ≡ map (name_at l.self) (take l.name-index l.names)
