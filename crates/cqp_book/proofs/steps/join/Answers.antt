use Rattle.std.proofs.Common.{rules, arith, ap}
use Rattle.cqp_book.proofs.Handed.{joins}
use Rattle.cqp_book.proofs.steps.join.Goals as goal

pub join_seat-requires : goal.join_seat-requires
join_seat-requires g c = let t = c.requires.book in let h = c.requires.hold.1 in (
  search rules,
  search rules,
  ap (λ m. m.1) h.3,
  omega (arith, c.requires.table.1),
  joins _ _ _ _ _ _ t.0 t.1 t.2 h.0 h.1 h.2 t.3 (ap (λ m. m.0) h.3),
)
