use Rattle.cqp_book.proofs.BookLemmas.{learned, book_adds}
use Rattle.cqp_book.proofs.book.Book.add.Goals as goal

pub returns-clause-current : goal.returns-clause-current
returns-clause-current g c =
    rw (← c.self.view_is)
    (learned g.M.Machine.means c.self.invariant.view c.into_seat.ensures.view c.join.ensures.view c.look.ensures.known).0

pub returns-clause-apart : goal.returns-clause-apart
returns-clause-apart g c =
    rw (← c.self.view_is)
    (learned g.M.Machine.means c.self.invariant.view c.into_seat.ensures.view c.join.ensures.view c.look.ensures.known).1

pub returns-clause-opening : goal.returns-clause-opening
returns-clause-opening g c =
    rw (← c.self.view_is)
    (learned g.M.Machine.means c.self.invariant.view c.into_seat.ensures.view c.join.ensures.view c.look.ensures.known).2

pub invariant_of-self : goal.invariant_of-self
invariant_of-self g c =
    rw (c.look.ensures.view, c.look.ensures.table.0, c.join.ensures.view, c.join.ensures.table.0)
    (book_adds g.M.Machine.means c.self.invariant c.into_seat.ensures.view (rw c.join.ensures.view at c.look.ensures.known))
