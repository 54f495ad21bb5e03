use Rattle.cqp_factored.proofs.GroupRuns.{splits_are}
use Rattle.cqp_factored.proofs.laws.split_laws.Goals as goal

pub returns : goal.returns
returns c = splits_are
