use Rattle.std.proofs.Common.{◌≡◌, ◌-◌}
use Rattle.cqp_postorder.specs.Subtrees.{Subtrees, EndIn}
use Rattle.cqp_postorder.proofs.Parts.{size_behind}
use Rattle.cqp_postorder.proofs.sizes.parts_size.Given as goal

abbrev pub invariant-loop : goal.invariant-loop
invariant-loop l =
    (ts : Subtrees) → EndIn l.sizes l.count ts → l.total ≡ size_behind (l.count - l.counter) ts
