use Rattle.std.proofs.Common.{IsTrue, Some, subst}
use Rattle.std.specs.BinaryHeap.{heap_items}
use Rattle.cqp_order.specs.Least.{IsLeast}
use Rattle.cqp_order.specs.Places.{has}
use Rattle.cqp_order.proofs.QueueLemmas.{first_least}
use Rattle.cqp_order.proofs.queue.Queue.least.Goals as goal

pub returns-in-Some : goal.returns-in-Some
returns-in-Some c =
    let number = c.in-Some.number.now in
    let item = c.in-Some.ensures.item in
    let found = first_least number (heap_items c.self.inside.heap) item.3.0 item.1 (c.in-Some.ensures.greatest c.self.invariant) in
    subst (λ s. IsLeast (λ k. IsTrue (has s k)) (Some number.0)) c.self.view_is found
