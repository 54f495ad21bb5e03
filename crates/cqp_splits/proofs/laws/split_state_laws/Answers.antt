use Rattle.cqp_splits.proofs.SplitStands.{split_stands}
use Rattle.cqp_splits.proofs.laws.split_state_laws.Goals as goal

pub returns : goal.returns
returns c = split_stands
