use Rattle.std.proofs.Common.{◌≡◌, ◌==◌, ◌||◌, ℕ, OnOk, sym, subst}
use Rattle.std.specs.BinaryHeap.{heap_items}
use Rattle.cqp_order.specs.Places.{has}
use Rattle.cqp_order.proofs.QueueLemmas.{has_one_more}
use Rattle.cqp_order.proofs.queue.Queue.put.Goals as goal
use Rattle.cqp_order.proofs.queue.Queue.put.Goals.{in-Ok, in-Err}

pub returns-clause-done : goal.returns-clause-done
returns-clause-done c = elim c.match-push.branch [
  | in-Ok w ↦ subst (λ r. OnOk r ((k : ℕ) → has (heap_items c.push.new.self) k ≡ (c.args.number == k || has c.args.self.now k))) (sym w.result-is)
      (subst (λ s. (k : ℕ) → has (heap_items c.push.new.self) k ≡ (c.args.number == k || has s k)) c.self.view_is
      (has_one_more _ _ _ w.in-Ok.ensures.permutation))
  | in-Err w ↦ subst (λ r. OnOk r ((k : ℕ) → has (heap_items c.push.new.self) k ≡ (c.args.number == k || has c.args.self.now k))) (sym w.result-is) tt
]
