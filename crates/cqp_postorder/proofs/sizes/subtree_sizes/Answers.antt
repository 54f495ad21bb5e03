use Rattle.std.proofs.Common.{arith, ◌∙◌, ap, length, length-append, sym}
use Rattle.cqp_postorder.proofs.Sizing.{next_size, sizes_end}
use Rattle.cqp_postorder.proofs.sizes.subtree_sizes.Goals as goal

pub loop-fragment-init : goal.loop-fragment-init
loop-fragment-init c = record {
  sized = λ t counted is. c.in_ok-sizes.ensures.items;
  many = ap length c.in_ok-sizes.ensures.items;
  room = omega (arith, c.in_ok-sizes.ensures.capacity);
}

pub part_count-requires : goal.part_count-requires
part_count-requires c =
    let one = c.requires.one in
    let next =
    next_size one.0 _ _ _ _ one.1 one.2 c.loop-fragment-test.true c.fragment-item.is
    (c.loop-fragment.invariant.sized one.0 one.1 one.2) in
    omega (arith, next.few, c.loop-fragment.invariant.many, c.requires.few)

pub parts_size-parts-requires-clause-last : goal.parts_size-parts-requires-clause-last
parts_size-parts-requires-clause-last c =
    let one = c.requires.one in
    let next =
    next_size one.0 _ _ _ _ one.1 one.2 c.loop-fragment-test.true c.fragment-item.is
    (c.loop-fragment.invariant.sized one.0 one.1 one.2) in
    rw (c.as_slice.ensures.value, c.part_count.ensures) (next.parts, next.last)

pub overflow_add-parts : goal.overflow_add-parts
overflow_add-parts c =
    let one = c.requires.one in
    let next =
    next_size one.0 _ _ _ _ one.1 one.2 c.loop-fragment-test.true c.fragment-item.is
    (c.loop-fragment.invariant.sized one.0 one.1 one.2) in
    let parts = rw (c.as_slice.ensures.value, c.part_count.ensures) at c.parts_size-parts.ensures in
    omega (arith, parts next.parts next.last, next.within, c.loop-fragment.invariant.many, c.requires.few)

pub loop-fragment-preserved : goal.loop-fragment-preserved
loop-fragment-preserved c =
    let old = c.loop-fragment.invariant in
    let parts = rw (c.as_slice.ensures.value, c.part_count.ensures) at c.parts_size-parts.ensures in
    record {
      sized = λ t counted is.
          let next =
          next_size t _ _ _ _ counted is c.loop-fragment-test.true c.fragment-item.is
          (old.sized t counted is) in
          rw (c.push_reserved.ensures.items, parts next.parts next.last) (sym next.more);
      many = omega (arith, old.many, simp length-append at (ap length c.push_reserved.ensures.items));
      room = omega (arith, old.room, c.push_reserved.ensures.capacity);
    }

pub returns : goal.returns
returns c = λ t counted is.
    c.loop-fragment.invariant.sized t counted is
    ∙ sizes_end t _ _ is c.loop-fragment-test.false
