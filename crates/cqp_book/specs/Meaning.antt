-- What a machine means: a front and cells under keys, and what an event does to them.
use Rattle.std.specs.Prelude.{ℕ, List, ◌++◌}
use Rattle.cqp_book.specs.Keys.{Store}

-- An opening has a front, and cells, of which the first pair of a key counts.
-- On a front, an event needs the cells at some keys, those that it ends among them, and makes cells
-- at other keys. The front after it is a function of the front before and the event alone, while
-- the cells after it may depend on all.
pub record Meaning (O F C E : Type 0) : Type 1 where
  pub front : O → F
  pub cells : O → List (ℕ × C)
  pub needs : O → F → E → List ℕ
  pub makes : O → F → E → List ℕ
  pub Enabled : O → F → Store C → E → Type 0
  pub next : F → E → F
  pub after : O → F → Store C → E → Store C

-- the keys that an event touches
abbrev pub touched : {O F C E : Type 0} → Meaning O F C E → O → F → E → List ℕ
touched m o f e = m.needs o f e ++ m.makes o f e
