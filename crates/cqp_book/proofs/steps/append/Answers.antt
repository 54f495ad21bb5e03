use Rattle.std.proofs.Common.{rules, arith}
use Rattle.cqp_book.proofs.Appended.{appends}
use Rattle.cqp_book.proofs.steps.append.Goals as goal

pub fetch_add-requires : goal.fetch_add-requires
fetch_add-requires g c = (
  search rules,
  omega (arith, c.requires.table.1),
  appends _ g.met.M.Machine.lawful _ _ _ _ _ _ _ c.requires.told c.requires.ready,
)
