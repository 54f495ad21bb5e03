use Rattle.cqp_book_uses.proofs.desk.add_twice.Given as goal

abbrev pub ghosts-work : goal.ghosts-work
ghosts-work g a = record { identity = a.book.identity; opening = a.book.opening }
