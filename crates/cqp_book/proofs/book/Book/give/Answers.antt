use Rattle.cqp_book.proofs.BookLemmas.{book_gives, find_given}
use Rattle.cqp_book.proofs.book.Book.give.Goals as goal

pub invariant_of-self : goal.invariant_of-self
invariant_of-self g c =
    rw (c.split-seat.ensures.view, c.split-seat.ensures.table.0) (book_gives g.M.Machine.means _ c.self.invariant)

pub returns-clause-pairs : goal.returns-clause-pairs
returns-clause-pairs g c =
    rw (c.split-seat.ensures.view, ← c.self.view_is) (find_given g.M.Machine.means _ _ _ _ c.self.invariant.view)
