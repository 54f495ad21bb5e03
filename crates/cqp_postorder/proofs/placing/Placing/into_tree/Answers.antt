use Rattle.cqp_postorder.proofs.Placed.{none_left}
use Rattle.cqp_postorder.proofs.placing.Placing.into_tree.Goals as goal

pub returns : goal.returns
returns c = λ t p. rw (c.from_vec.ensures, c.from_vec-2.ensures) (none_left _ _ _ _ _ p)
