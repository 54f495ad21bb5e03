use Rattle.std.proofs.Common.{length, refl}
use Rattle.cqp_program.specs.declared.tree.TreeNode.TheVariants.{Unit}
use Rattle.cqp_postorder.proofs.Placed.{whole_pending}
use Rattle.cqp_postorder.proofs.placing.Placing.new.Goals as goal

pub returns : goal.returns
returns c = λ t counted is.
    let zeros = c.in_ok-at.ensures.items_if_clones_equal (λ y e. e) in
    rw (c.in_ok-pending.ensures.items, c.in_ok-nodes.ensures, zeros)
    (whole_pending t c.args.fragments.now c.in_ok-sizes.sizes.items (length c.args.fragments.now)
    Unit counted is (c.in_ok-sizes.ensures t counted is) refl c.requires.few)
