use Rattle.std.proofs.Common.{◌≡◌, vec_len}
use Rattle.cqp_grammar.specs.Trees.{ProcessTree}
use Rattle.cqp_program.specs.Postorder.{postorder}
use Rattle.cqp_postorder.specs.Placing.{IsPlacing}
use Rattle.cqp_postorder.proofs.Uniform.{subtree}
use Rattle.cqp_postorder.proofs.lists.tree_lists.Given as goal

abbrev pub invariant-loop-fragment : goal.invariant-loop-fragment
invariant-loop-fragment l =
    (p : ProcessTree) → l.fn.fragments.items ≡ postorder p
    → IsPlacing (subtree p) l.fragments.items l.placing

abbrev pub decreases-loop-fragment : goal.decreases-loop-fragment
decreases-loop-fragment l = vec_len l.fragments
