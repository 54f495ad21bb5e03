use Rattle.std.proofs.Common.{◌≡◌, ◌==◌, ◌||◌, ℕ, Some, IsTrue, subst, sym}
use Rattle.std.specs.BinaryHeap.{heap_items}
use Rattle.cqp_order.specs.Least.{IsLeast}
use Rattle.cqp_order.specs.Places.{has}
use Rattle.cqp_order.proofs.QueueLemmas.{popped, none_if}
use Rattle.cqp_order.proofs.queue.Queue.pop.Goals as goal

pub returns-clause-rest : goal.returns-clause-rest
returns-clause-rest c =
    let old = heap_items c.self.inside.heap in
    let same : old ≡ c.args.self.now = c.self.view_is in
    let least : IsLeast (λ k. IsTrue (has old k)) (Some c.args.least) = subst (λ s. IsLeast (λ k. IsTrue (has s k)) (Some c.args.least)) (sym same) c.requires in
    let rest = popped c.args.least c.pop.result old (heap_items c.pop.new.self) c.pop.ensures.permutation c.pop.ensures.heap_order
    (none_if c.pop.result _ old c.pop.ensures.none c.self.inside.heap.data.ok.0) c.self.invariant least in
    subst (λ s. (k : ℕ) → has s k ≡ (c.args.least == k || has (heap_items c.pop.new.self) k)) same rest
