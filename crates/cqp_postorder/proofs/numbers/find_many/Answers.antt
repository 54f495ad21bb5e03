use Rattle.std.proofs.Common.{◌≡◌, ◌-◌, ◌+◌, arith, ap, ◌∙◌, length, length-append}
use Rattle.std.proofs.lemmas.List.{with_items_is}
use Rattle.cqp_postorder.proofs.Parts.{none_gone, next_part, none_found, one_found, all_found}
use Rattle.cqp_postorder.proofs.numbers.find_many.Goals as goal

pub loop-init : goal.loop-init
loop-init c = record {
  gone = λ ts last. none_gone _ _ _ ts last (omega arith);
  found = λ n ts last ends. none_found _ _ _ n ts last (omega arith) c.args.numbers.now.items;
}

pub size_before-total-requires : goal.size_before-total-requires
size_before-total-requires c =
    let last = c.requires.2 in
    let i = c.args.count - (c.loop.counter + 1) in
    let part =
    next_part _ _ i _ _ _ last (omega arith) (omega arith) (c.loop.invariant.gone _ last) in
    part.some

pub overflow_add-total : goal.overflow_add-total
overflow_add-total c =
    let last = c.requires.2 in
    let i = c.args.count - (c.loop.counter + 1) in
    let part =
    next_part _ _ i _ _ _ last (omega arith) (omega arith) (c.loop.invariant.gone _ last) in
    omega (arith, c.size_before-total.ensures, part.next, part.within, c.requires.3)

pub overflow_sub-end : goal.overflow_sub-end
overflow_sub-end c =
    let last = c.requires.2 in
    let i = c.args.count - (c.loop.counter + 1) in
    let part =
    next_part _ _ i _ _ _ last (omega arith) (omega arith) (c.loop.invariant.gone _ last) in
    omega (arith, c.size_before-total.ensures, part.next, part.within, c.requires.3)

pub loop-preserved : goal.loop-preserved
loop-preserved c = record {
  gone = λ ts last.
      let i = c.args.count - (c.loop.counter + 1) in
      let part =
      next_part _ _ i _ _ ts last (omega arith) (omega arith) (c.loop.invariant.gone ts last) in
      rw c.size_before-total.ensures part.next;
  found = λ n ts last ends.
      let i = c.args.count - (c.loop.counter + 1) in
      let part =
      next_part _ _ i _ _ ts last (omega arith) (omega arith) (c.loop.invariant.gone ts last) in
      rw (c.in_ok-push.ensures.items, c.size_before-total.ensures, part.next)
      (one_found _ _ i _ n c.args.end ts last ends (omega arith) (omega arith) _ _
      (c.loop.invariant.found n ts last ends));
}

pub turn-requires : goal.turn-requires
turn-requires c =
    let old = c.args.numbers.now in
    let found = c.loop.invariant.found c.requires.0 c.requires.1 c.requires.2 c.requires.3 in
    omega (
      arith,
      c.len-kept.ensures,
      old.ok.0,
      ap length c.as_mut_slice.ensures.value,
      simp length-append at (ap length found),
    )

pub returns : goal.returns
returns c = λ n ts last ends.
    let len : length c.turn.new.numbers ≡ c.loop.numbers.len =
    c.turn.auto.numbers ∙ c.as_mut_slice.ensures.len in
    let kept : c.len-kept.result ≡ length c.args.numbers.now.items =
    omega (arith, c.len-kept.ensures, c.args.numbers.now.ok.0) in
    rw (with_items_is c.loop.numbers c.turn.new.numbers len, c.turn.ensures, c.as_mut_slice.ensures.value)
    (all_found _ _ _ ts (omega arith) _ _ kept (c.loop.invariant.found n ts last ends))
