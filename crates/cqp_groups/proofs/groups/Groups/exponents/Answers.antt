use Rattle.std.proofs.Common.{◌≡◌, ◌≤◌, ◌<◌, ◌+◌, length, arith, suc}
use Rattle.cqp_machine.specs.Sums.{h_in, exponents}
use Rattle.cqp_groups.specs.Groups.{as_cells, groups_in}
use Rattle.cqp_groups.proofs.SumLemmas.{part_below}
use Rattle.cqp_groups.proofs.groups.Groups.exponents.Goals as goal

pub overflow_add-h : goal.overflow_add-h
overflow_add-h c =
    let below : c.loop-n.n < length c.args.self.now = omega arith in
    let part : exponents c.loop-n.n (as_cells c.args.self.now) + h_in (groups_in c.args.self.now c.loop-n.n) ≤ exponents (length c.args.self.now)
    (as_cells c.args.self.now) =
    part_below (λ g. h_in (groups_in c.args.self.now g)) (suc c.loop-n.n) (length c.args.self.now) below in
    let so_far : c.loop-n.h ≡ exponents c.loop-n.n (as_cells c.args.self.now) = c.loop-n.invariant in
    omega (arith, c.requires, c.h_at-h.ensures)
