-- What contracts see of a book and of a hold.
use Rattle.std.specs.Prelude.{◌≡◌, ℕ, ◌<◌, Bool, true, false, List, [], length, Some, None, IsSome}
use Rattle.atomic_table.specs.Seated.{TableId}
use Rattle.cqp_book.specs.Keys.{has, Store, find}
use Rattle.cqp_book.specs.Meaning.{Meaning}
use Rattle.cqp_book.specs.Run.{front_after, cell_after}

-- which book it is: the name of its table
abbrev pub Identity : Type 0
Identity = TableId

-- some identity, which a trait that carries one may have at `Brand`, where each call picks its own
abbrev pub some_identity : Identity
some_identity = record {
  words = 0;
  slots = 0;
  views_name = 0;
  atom = 0;
  block = 0;
  offset = 0;
  slot_names = [];
}

-- a book: `pairs` are the keys and cells with it, of which contracts read what is found at a key
pub record Journal (O C E : Type 0) : Type 0 where
  pub identity : Identity
  pub opening : O
  pub history : List E
  pub pairs : List (ℕ × C)
  pub reserve : ℕ
  pub refused : Bool

-- a hold: the identity and the opening are those of its book
pub record Holding (O C : Type 0) : Type 0 where
  pub identity : Identity
  pub opening : O
  pub key : ℕ
  pub cell : C

module _ {O F C E : Type 0} (m : Meaning O F C E) where
  -- the front after a book's history
  abbrev pub front_of : Journal O C E → F
  front_of b = front_after m b.opening b.history

  -- what a book's history gives at each key
  abbrev pub cell_of : Journal O C E → Store C
  cell_of b = cell_after m b.opening b.history

  -- what a book's own cells become by an event
  abbrev pub found_after : Journal O C E → E → Store C
  found_after b e = m.after b.opening (front_of b) (find b.pairs) e

  -- a new book over an opening: no event, and each of the opening's cells
  pub record IsOpened (o : O) (reserve : ℕ) (b : Journal O C E) : Type 0 where
    pub opening : b.opening ≡ o
    pub history : b.history ≡ []
    pub cells : (k : ℕ) → find b.pairs k ≡ find (m.cells o) k
    pub reserved : b.reserve ≡ reserve
    pub is_open : b.refused ≡ false

  -- a hold is of a book, and has what the book's history gives at its key
  pub record IsHoldOf (b : Journal O C E) (h : Holding O C) : Type 0 where
    pub identity : h.identity ≡ b.identity
    pub opening : h.opening ≡ b.opening
    pub current : cell_of b h.key ≡ Some h.cell

  -- an event is enabled on the front and on the cells with the book, those that it needs are with
  -- the book, and there is room
  pub record MaySeal (b : Journal O C E) (e : E) : Type 0 where
    pub enabled : m.Enabled b.opening (front_of b) (find b.pairs) e
    pub at_hand : (k : ℕ) → has k (m.needs b.opening (front_of b) e) ≡ true
        → IsSome (find b.pairs k)
    pub room : length b.history < b.reserve

  -- a live key that isn't with a book before stays away from it, and keeps its cell
  abbrev pub KeepsAway : Journal O C E → Journal O C E → Type 0
  KeepsAway b b' =
      (k : ℕ) (c : C) → cell_of b k ≡ Some c → find b.pairs k ≡ None
      → (cell_of b' k ≡ Some c) × (find b'.pairs k ≡ None)
