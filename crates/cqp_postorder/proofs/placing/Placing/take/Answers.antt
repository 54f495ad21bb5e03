use Rattle.std.proofs.Common.{arith}
use Rattle.cqp_postorder.proofs.Placed.{one_left, taken, ends_within, parts_last, parts_end}
use Rattle.cqp_postorder.proofs.placing.Placing.take.Goals as goal

pub unwrap-size-requires : goal.unwrap-size-requires
unwrap-size-requires c =
    let one = one_left _ _ _ _ _ _ _ c.requires.3 in
    c.pop.ensures.variant.1 (omega (arith, one.some_size, c.args.self.now.sizes.ok.0))

pub unwrap-n-requires : goal.unwrap-n-requires
unwrap-n-requires c =
    let one = one_left _ _ _ _ _ _ _ c.requires.3 in
    c.pop-2.ensures.variant.1 (omega (arith, one.some_number, c.args.self.now.pending.ok.0))

pub overflow_add-end : goal.overflow_add-end
overflow_add-end c =
    let sized = rw c.unwrap-size.ensures at c.pop.ensures.items in
    let numbered = rw c.unwrap-n.ensures at c.pop-2.ensures.items in
    let p = taken _ _ _ _ _ _ _ _ _ _ _ sized numbered c.requires.3 in
    omega (arith, ends_within _ _ _ _ _ _ _ _ _ p)

pub overflow_add-n : goal.overflow_add-n
overflow_add-n c =
    let sized = rw c.unwrap-size.ensures at c.pop.ensures.items in
    let numbered = rw c.unwrap-n.ensures at c.pop-2.ensures.items in
    let p = taken _ _ _ _ _ _ _ _ _ _ _ sized numbered c.requires.3 in
    omega (arith, ends_within _ _ _ _ _ _ _ _ _ p)

pub find_parts-requires : goal.find_parts-requires
find_parts-requires c =
    let sized = rw c.unwrap-size.ensures at c.pop.ensures.items in
    let numbered = rw c.unwrap-n.ensures at c.pop-2.ensures.items in
    let p = taken _ _ _ _ _ _ _ _ _ _ _ sized numbered c.requires.3 in (
      p.node.parts,
      parts_last _ _ _ _ _ _ _ _ _ p _ _ c.as_slice.ensures.value c.requires.4,
      parts_end _ _ _ _ _ _ _ _ _ p,
    )

pub returns : goal.returns
returns c = λ t left x q counted.
    let sized = rw c.unwrap-size.ensures at c.pop.ensures.items in
    let numbered = rw c.unwrap-n.ensures at c.pop-2.ensures.items in
    let p = taken t left x _ _ _ _ _ _ _ _ sized numbered q in
    let last = parts_last _ _ _ _ _ _ _ _ _ p _ _ c.as_slice.ensures.value counted in
    let ends = parts_end _ _ _ _ _ _ _ _ _ p in
    record {
      found = p.found;
      numbers = c.pop-2.new.self.items;
      are = rw p.node.numbers_found (c.in_ok-find_parts.ensures _ last ends);
      node = p.node;
    }
