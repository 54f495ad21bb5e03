use Rattle.std.proofs.Common.{◌≡◌, ◌≤◌, ◌<◌, ◌+◌, length, arith, suc}
use Rattle.cqp_machine.specs.Sums.{level_in, levels}
use Rattle.cqp_groups.specs.Groups.{as_cells, groups_in}
use Rattle.cqp_groups.proofs.SumLemmas.{part_below}
use Rattle.cqp_groups.proofs.groups.Groups.level.Goals as goal

pub overflow_add-level : goal.overflow_add-level
overflow_add-level c =
    let below : c.loop-n.n < length c.args.self.now = omega arith in
    let part : levels c.loop-n.n (as_cells c.args.self.now) + level_in (groups_in c.args.self.now c.loop-n.n) ≤ levels (length c.args.self.now)
    (as_cells c.args.self.now) =
    part_below (λ g. level_in (groups_in c.args.self.now g)) (suc c.loop-n.n) (length c.args.self.now) below in
    let so_far : c.loop-n.level ≡ levels c.loop-n.n (as_cells c.args.self.now) = c.loop-n.invariant in
    omega (arith, c.requires, c.level_at-level.ensures)
