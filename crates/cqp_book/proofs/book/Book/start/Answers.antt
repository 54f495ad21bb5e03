use Rattle.std.proofs.Common.{refl, ◌∙◌}
use Rattle.cqp_book.proofs.Kept.{starts}
use Rattle.cqp_book.proofs.BookLemmas.{book_starts, find_start}
use Rattle.cqp_book.proofs.book.Book.start.Goals as goal

pub of_words-requires : goal.of_words-requires
of_words-requires g c = starts _ _

pub invariant_of-result : goal.invariant_of-result
invariant_of-result g c = let t = c.in_ok-table.ensures in let v = c.in_ok-events.ensures in let front = c.in_ok-front.ensures.ok ∙ c.requires in
    book_starts g.M.Machine.means _ _ _ _ _ _ _ _ c.args.opening.now t.2 t.0 t.1 t.5 t.4 front v.items v.exact c.ranges.reserve.fits

pub returns : goal.returns
returns g c = let t = c.in_ok-table.ensures in record {
  opening = t.5;
  history = c.in_ok-events.ensures.items;
  cells = find_start g.M.Machine.means _ _ t.4;
  reserved = refl;
  is_open = refl;
}
