use Rattle.std.proofs.Common.{◌≡◌, ◌<◌, inl, inr, length, ◌==◌, if◌then◌else◌, Some, None, sym, subst, arith}
use Rattle.std.proofs.lemmas.Bool.{cases_lt}
use Rattle.cqp_types.specs.Searched.{IsNode}
use Rattle.cqp_types.proofs.SearchEnd.{finds}
use Rattle.cqp_types.proofs.splits.least_split.Goals as goal

pub loop-n-preserved : goal.loop-n-preserved
loop-n-preserved c =
    let l = c.args.given.now in
    let n = c.loop-n.n in
    let within : n < length l.nodes = omega (arith, c.len-count.ensures.length) in
    let x = c.node-node.result.now in
    let old = c.loop-n.invariant in
    let is : IsNode l n x = record { within = within; tree = c.node-node.ensures.tree; numbers = c.node-node.ensures.numbers } in
    let closed = c.close.ensures l c.len-count.ensures.numbered within c.requires old.stacked in
    record {
      read = λ m low.
          elim (cases_lt m n) [
            | inl less ↦ old.read m less
            | inr more ↦
                let here : n ≡ m = omega arith in
                (x, subst (λ k. IsNode l k x) here is)
          ];
      stacked = c.in_ok-open_at.ensures l is closed;
      searched = c.read.ensures.searched old.searched;
    }

pub returns : goal.returns
returns c =
    let l = c.args.given.now in
    let count = c.len-count.result in
    let done : c.loop-n.n ≡ count = omega arith in
    let old = c.loop-n.invariant in
    finds l c.loop-n.n c.loop-n.search.least c.loop-n.search.last.items (omega (arith, c.len-count.ensures.length)) (λ a h. c.requires.within a (omega arith) h)
    old.read old.searched c.found.result (subst (λ k. c.found.result ≡ (if c.loop-n.search.least == k then None else Some c.loop-n.search.least))
    (sym done) c.found.ensures)
