use Rattle.std.proofs.Common.{◌≡◌, ℕ, ◌+◌, ◌-◌, ◌++◌, drop, reverse}
use Rattle.cqp_postorder.specs.Subtrees.{Subtrees, EndIn, sizes_of, numbers_of}
use Rattle.cqp_postorder.proofs.Parts.{size_behind}
use Rattle.cqp_postorder.proofs.numbers.find_many.Given as goal

abbrev pub invariant-loop : goal.invariant-loop
invariant-loop l = record {
  gone : (ts : Subtrees) → EndIn l.sizes l.count ts → l.total ≡ size_behind (l.count - l.counter) ts;
  found : (first : ℕ) (ts : Subtrees) → EndIn l.sizes l.count ts → first + sizes_of ts ≡ l.end
      → l.numbers.items
      ≡ l.fn.numbers.items ++ reverse (drop (l.count - l.counter) (numbers_of first ts));
}
