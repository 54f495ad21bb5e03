use Rattle.cqp_parts.specs.Parts.{prefixes_at}
use Rattle.cqp_onward.proofs.SpreadLemmas.{smaller, stack_there, told_more, numbers_there}
use Rattle.cqp_onward.proofs.spread.prefixes.Goals as goal

pub loop-m-smaller : goal.loop-m-smaller
loop-m-smaller c =
    smaller c.args.proc.now c.requires.process c.loop-m.stack.items c.pop.new.self.items c.open_at.new.stack.items
    c.in-Some.m c.in-Some.ensures.items c.in_ok-open_at.ensures.opened c.loop-m.invariant.stack

pub loop-m-preserved : goal.loop-m-preserved
loop-m-preserved c =
    let l = c.args.proc.now in
    let is = c.requires.process in
    let old = c.loop-m.stack.items in
    let left = c.pop.new.self.items in
    let open_ = c.open_at.new.stack.items in
    let m = c.in-Some.m in
    let popped = c.in-Some.ensures.items in
    let opened = c.in_ok-open_at.ensures.opened in
    let there = c.loop-m.invariant.stack in
    let numbers = c.loop-m.numbers.items in
    let found = c.open_at.new.numbers.items in
    record {
      told = told_more l is old left open_ m popped opened there numbers found (prefixes_at l c.args.n) c.in_ok-open_at.ensures.found c.loop-m.invariant.told;
      stack = stack_there l is old left open_ m popped opened there;
      numbers = numbers_there l is old left open_ m popped opened there numbers found c.in_ok-open_at.ensures.found c.loop-m.invariant.numbers;
    }
