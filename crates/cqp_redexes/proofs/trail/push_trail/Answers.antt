use Rattle.cqp_redexes.proofs.TrailLemmas.{node_within, done_smaller, done_there, done_told, open_smaller, open_there, open_told}
use Rattle.cqp_redexes.proofs.trail.push_trail.Goals as goal

pub open_node-requires : goal.open_node-requires
open_node-requires c =
    node_within c.args.proc.now c.requires.process c.loop-next.stack.items c.pop.new.self.items
    c.in-Some.next c.in-Some.ensures.items c.loop-next.invariant.there

pub loop-next-smaller-in-Continue-branch-2 : goal.loop-next-smaller-in-Continue-branch-2
loop-next-smaller-in-Continue-branch-2 c =
    done_smaller c.args.proc.now c.requires.process c.loop-next.stack.items c.pop.new.self.items
    c.in-Some.next c.in-Some.ensures.items c.loop-next.invariant.there c.if-next.true

pub loop-next-preserved-in-Continue-branch-2 : goal.loop-next-preserved-in-Continue-branch-2
loop-next-preserved-in-Continue-branch-2 c =
    let l = c.args.proc.now in
    let old = c.loop-next.stack.items in
    let left = c.pop.new.self.items in
    let o = c.in-Some.next in
    let popped = c.in-Some.ensures.items in
    let there = c.loop-next.invariant.there in
    record {
      told =
          done_told l c.requires.process old left o popped there c.if-next.true c.loop-next.redexes.items
          c.push-then-next.new.self.items _ c.in_ok-push-2.ensures.items c.loop-next.invariant.told;
      there = done_there l c.requires.process old left o popped there c.if-next.true;
    }

pub loop-next-smaller : goal.loop-next-smaller
loop-next-smaller c =
    open_smaller c.args.proc.now c.requires.process c.loop-next.stack.items c.pop.new.self.items
    c.in-Some.next c.in-Some.ensures.items c.loop-next.invariant.there c.if-next.false
    c.open_node.new.stack.items c.in_ok-open_node.ensures

pub loop-next-preserved : goal.loop-next-preserved
loop-next-preserved c =
    let l = c.args.proc.now in
    let old = c.loop-next.stack.items in
    let left = c.pop.new.self.items in
    let o = c.in-Some.next in
    let popped = c.in-Some.ensures.items in
    let there = c.loop-next.invariant.there in
    record {
      told =
          open_told l c.requires.process old left o popped there c.if-next.false c.open_node.new.stack.items
          c.in_ok-open_node.ensures c.loop-next.redexes.items _ c.loop-next.invariant.told;
      there = open_there l c.requires.process old left o popped there c.if-next.false c.open_node.new.stack.items c.in_ok-open_node.ensures;
    }
