use Rattle.std.proofs.Common.{rules, arith}
use Rattle.cqp_book.proofs.Kept.{looks}
use Rattle.cqp_book.proofs.steps.look.Goals as goal

pub load-requires : goal.load-requires
load-requires g c = (search rules, omega (arith, c.requires.table.1), looks _ _ _ _ _)
