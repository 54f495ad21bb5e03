use Rattle.std.proofs.Common.{◌≡◌, ◌-◌, ◌+◌, arith}
use Rattle.cqp_postorder.proofs.Parts.{none_gone, next_part}
use Rattle.cqp_postorder.proofs.sizes.parts_size.Goals as goal

pub loop-init : goal.loop-init
loop-init c = λ ts last. none_gone _ _ _ ts last (omega arith)

pub size_before-total-requires : goal.size_before-total-requires
size_before-total-requires c =
    let last = c.requires.last.1 in
    let i = c.args.count - (c.loop.counter + 1) in
    let part =
    next_part _ _ i _ _ _ last (omega arith) (omega arith) (c.loop.invariant _ last) in
    part.some

pub overflow_add-total : goal.overflow_add-total
overflow_add-total c =
    let last = c.requires.last.1 in
    let i = c.args.count - (c.loop.counter + 1) in
    let part =
    next_part _ _ i _ _ _ last (omega arith) (omega arith) (c.loop.invariant _ last) in
    omega (arith, c.size_before-total.ensures, part.next, part.within, part.fits, c.requires.few)

pub loop-preserved : goal.loop-preserved
loop-preserved c = λ ts last.
    let i = c.args.count - (c.loop.counter + 1) in
    let part = next_part _ _ i _ _ ts last (omega arith) (omega arith) (c.loop.invariant ts last) in
    rw c.size_before-total.ensures part.next

pub returns : goal.returns
returns c = λ ts last.
    let none : c.args.count - c.loop.counter ≡ 0 = omega arith in
    rw none at (c.loop.invariant ts last)
