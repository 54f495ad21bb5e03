use Rattle.std.proofs.Common.{◌≡◌, ◌+◌, ◌-◌, ◌<◌, inl, inr, length, ◌∙◌, subst, arith}
use Rattle.cqp_types.specs.Rows.{FindsRow}
use Rattle.cqp_types.specs.Uses.{UsesFrom}
use Rattle.cqp_types.proofs.faults.least_fault.Goals as goal

pub loop-k-preserved : goal.loop-k-preserved
loop-k-preserved c =
    let l = c.args.given.now in
    let nodes = c.len-nodes.result in
    let n = nodes - 1 - c.loop-k.k in
    let next : nodes - c.loop-k.k ≡ n + 1 = omega arith in
    let here : n ≡ nodes - (c.loop-k.k + 1) = omega arith in
    let within : n < length l.nodes = omega arith in
    let old = c.loop-k.invariant in
    let marked = c.fault_at-found.ensures.marked in
    let behind = subst (λ a. UsesFrom l a c.loop-k.uses.first.items c.loop-k.uses.second.items) next old.uses in
    record {
      uses = subst (λ a. UsesFrom l a c.record.new.self.first.items c.record.new.self.second.items) here
          (c.record.ensures.uses l within c.node.ensures.tree behind);
      count = marked.count ∙ old.count;
      later = λ x h.
          let room : x < length c.loop-k.marks.by.items = omega (arith, marked.count) in
          let before = old.later x room in
          elim (marked.marks x room) [ inl e ↦ omega (arith, before, e) | inr e ↦ omega (arith, e) ];
      found = subst (λ a. FindsRow l a c.earlier_row-least.result) here
          (c.earlier_row-least.ensures l within c.fault_at-found.ensures.fault (subst (λ a. FindsRow l a c.loop-k.least) next old.found));
    }

pub returns : goal.returns
returns c =
    let done : c.len-nodes.result - c.loop-k.k ≡ 0 = omega arith in
    subst (λ a. FindsRow c.args.given.now a c.loop-k.least) done c.loop-k.invariant.found
