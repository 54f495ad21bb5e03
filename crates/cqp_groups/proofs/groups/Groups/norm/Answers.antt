use Rattle.std.proofs.Common.{◌≡◌, ◌<◌, length, arith, suc, subst, sym, ap, ◌∙◌}
use Rattle.cqp_ring.specs.Root.{RootFits, root_product}
use Rattle.cqp_machine.specs.Sums.{norms}
use Rattle.cqp_groups.specs.Groups.{as_cells}
use Rattle.cqp_groups.proofs.groups.Groups.norm.Goals as goal

pub root_mul-norm-requires : goal.root_mul-norm-requires
root_mul-norm-requires c =
    let below : c.loop-n.n < length c.args.self.now = omega arith in
    let same : root_product c.loop-n.norm c.norm_at.result ≡ norms (suc c.loop-n.n) (as_cells c.args.self.now) =
    ap (λ z. root_product z c.norm_at.result) c.loop-n.invariant ∙ ap (root_product (norms c.loop-n.n (as_cells c.args.self.now))) c.norm_at.ensures in
    subst RootFits (sym same) (c.requires (suc c.loop-n.n) below)
