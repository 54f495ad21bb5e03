use Rattle.std.proofs.Common.{rules, arith}
use Rattle.cqp_book.proofs.Handed.{splits}
use Rattle.cqp_book.proofs.steps.split.Goals as goal

pub split_seat-requires : goal.split_seat-requires
split_seat-requires g c = let t = c.requires.there in (
  search rules,
  omega (arith, c.requires.table.1),
  splits _ _ _ _ _ _ c.requires.told t.0 t.1 t.2 t.3 t.4 t.5,
)
