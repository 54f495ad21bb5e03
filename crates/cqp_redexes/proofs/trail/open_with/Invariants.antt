use Rattle.std.proofs.Common.{◌≡◌, ◌∷◌, ◌++◌, map, take}
use Rattle.cqp_redexes.specs.Trails.{opening, closing}
use Rattle.cqp_redexes.proofs.trail.open_with.Given as goal

-- the operands so far
abbrev pub invariant-loop-operand : goal.invariant-loop-operand
invariant-loop-operand l = l.stack.items ≡ l.fn.stack.items ++ closing l.n ∷ map opening (take l.operand-index l.operands)
