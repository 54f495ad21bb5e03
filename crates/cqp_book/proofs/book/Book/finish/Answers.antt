use Rattle.std.proofs.Common.{ap}
use Rattle.cqp_book.proofs.book.Book.finish.Goals as goal

pub close-word-requires-clause-book : goal.close-word-requires-clause-book
close-word-requires-clause-book g c = (c.self.inside.table.shared.key, c.self.inside.events.items, _, ap (λ v. v.0) c.self.invariant.view)
