use Rattle.std.proofs.Common.{arith}
use Rattle.cqp_book.specs.Steps.{CanAppend}
use Rattle.cqp_book.specs.Views.{pairs_of}
use Rattle.cqp_book.proofs.BookLemmas.{enabled_whole, run_sealed, find_sealed, away_sealed}
use Rattle.cqp_book.proofs.BookLemmas.{book_seals}
use Rattle.cqp_book.proofs.book.Book.seal.Given.{Over}
use Rattle.cqp_book.proofs.book.Book.seal.Goals.{After-append}
use Rattle.cqp_book.proofs.book.Book.seal.Goals as goal

-- the book may append the event
can : (g : Over) (c : After-append g)
    → CanAppend g.M.Machine.means c.args.event c.self.inside.table.shared.key c.self.inside.events.items (pairs_of c.self.inside.seat.me.0)
can g c =
    let within = c.self.invariant.within in
    let small = c.self.invariant.small in
    let may = rw (← c.self.view_is) at c.requires.may in record {
      enabled = may.enabled;
      at_hand = may.at_hand;
      short = omega arith;
    }

pub move_on-requires : goal.move_on-requires
move_on-requires g c = let b = c.self.invariant in record {
  opening = c.self.inside.table.shared.key;
  history = c.self.inside.events.items;
  run = b.run;
  front = b.front_is;
  enabled = enabled_whole g.M.Machine.means g.met.M.Machine.lawful b (can g (goal.at.move_on-requires g c).After-append);
}

pub invariant_of-self : goal.invariant_of-self
invariant_of-self g c =
    let may = can g (goal.at.invariant_of-self g c).After-append in
    let room = (rw (← c.self.view_is) at c.requires.may).room in
    rw (c.append.ensures.view, c.append.ensures.table.0, c.move_on.ensures)
    (rw (c.push_reserved.ensures.items, c.push_reserved.ensures.capacity)
    (book_seals g.M.Machine.means g.met.M.Machine.lawful c.self.invariant may room))

pub returns-clause-pairs : goal.returns-clause-pairs
returns-clause-pairs g c =
    let may = can g (goal.at.returns-clause-pairs g c).After-append in
    rw (c.append.ensures.view, ← c.self.view_is) (find_sealed g.M.Machine.means g.met.M.Machine.lawful c.self.invariant may)

pub returns-clause-run : goal.returns-clause-run
returns-clause-run g c =
    let may = can g (goal.at.returns-clause-run g c).After-append in
    rw c.push_reserved.ensures.items (run_sealed g.M.Machine.means g.met.M.Machine.lawful c.self.invariant may)

pub returns-clause-away : goal.returns-clause-away
returns-clause-away g c =
    let may = can g (goal.at.returns-clause-away g c).After-append in
    rw (c.append.ensures.view, c.push_reserved.ensures.items, ← c.self.view_is)
    (away_sealed g.M.Machine.means g.met.M.Machine.lawful c.self.invariant may)
