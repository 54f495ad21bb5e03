use Rattle.std.proofs.Common.{◌≡◌, ◌∙◌, arith, length}
use Rattle.cqp_postorder.proofs.Placed.{one_left, found_many, stands_within, node_placed}
use Rattle.cqp_postorder.proofs.Found.{parts_within, parts_cut}
use Rattle.cqp_postorder.proofs.placing.Placing.place.Goals as goal

pub part_count-count-requires : goal.part_count-count-requires
part_count-count-requires c =
    let one = one_left _ _ _ _ _ _ _ c.requires.2 in
    omega (arith, one.few_parts, c.requires.2.few)

pub overflow_sub-parts : goal.overflow_sub-parts
overflow_sub-parts c =
    let q = c.in_ok-n.ensures _ _ _ c.requires.2 c.part_count-count.ensures in
    omega (
      arith,
      parts_within _ _ _ _ _ _ _ _ q _ c.part_count-count.ensures,
      c.len.ensures,
      c.take.new.self.pending.ok.0,
    )

pub node_of-requires : goal.node_of-requires
node_of-requires c =
    let q = c.in_ok-n.ensures _ _ _ c.requires.2 c.part_count-count.ensures in
    let len : c.len.result ≡ length c.take.new.self.pending.items =
    omega (arith, c.len.ensures, c.take.new.self.pending.ok.0) in
    rw (parts_cut _ _ _ _ _ _ _ _ q _ _ _ c.deref.ensures.value len c.part_count-count.ensures)
    (found_many _ _ _ _ _ _ _ _ _ q.node)

pub index_mut-requires : goal.index_mut-requires
index_mut-requires c =
    let q = c.in_ok-n.ensures _ _ _ c.requires.2 c.part_count-count.ensures in
    omega (arith, stands_within _ _ _ _ _ _ _ _ _ q.node, c.take.new.self.nodes.ok.0)

pub index_mut-requires-2 : goal.index_mut-requires-2
index_mut-requires-2 c =
    let q = c.in_ok-n.ensures _ _ _ c.requires.2 c.part_count-count.ensures in
    omega (arith, stands_within _ _ _ _ _ _ _ _ _ q.node, q.node.same, c.take.new.self.at.ok.0)

pub returns : goal.returns
returns c = λ t left p.
    let q = c.in_ok-n.ensures t left c.args.fragment p c.part_count-count.ensures in
    let len : c.len.result ≡ length c.take.new.self.pending.items =
    omega (arith, c.len.ensures, c.take.new.self.pending.ok.0) in
    let cut =
    parts_cut _ _ _ _ _ _ _ _ q _ _ _ c.deref.ensures.value len c.part_count-count.ensures in
    rw q.are (node_placed _ _ _ _ _ _ _ _ _ q.node _ (c.replace.ensures.after ∙ rw cut at c.in_ok-node.ensures))
