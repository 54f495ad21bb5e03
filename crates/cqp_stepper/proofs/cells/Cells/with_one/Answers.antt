use Rattle.cqp_stepper.proofs.Gathered.{joined_has}
use Rattle.cqp_stepper.proofs.cells.Cells.with_one.Goals as goal

pub returns-clause-more : goal.returns-clause-more
returns-clause-more c =
    joined_has c.args.self.now c.join.new.self c.args.group c.group_with-other.result c.in_ok-more.more c.args.q c.in_ok-more.ensures.joined c.requires.there
    c.group_with-other.ensures
