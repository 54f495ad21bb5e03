-- Runs of a machine from an opening, and what they leave.
use Rattle.std.specs.Prelude.{◌≡◌, ℕ, List, [], ◌∷◌, Some}
use Rattle.cqp_book.specs.Keys.{Store, find}
use Rattle.cqp_book.specs.Meaning.{Meaning}

module _ {O F C E : Type 0} (m : Meaning O F C E) (o : O) where
  -- the front that the events leave of a front
  abbrev pub front_from : F → List E → F
  front_from f [] = f
  front_from f (e ∷ es) = front_from (m.next f e) es

  -- the cells that the events leave of these
  abbrev pub store_from : F → Store C → List E → Store C
  store_from f s [] = s
  store_from f s (e ∷ es) = store_from (m.next f e) (m.after o f s e) es

  -- each event is enabled on what those before it left
  abbrev pub RunsFrom : F → Store C → List E → Type 0
  RunsFrom f s [] = Unit {0}
  RunsFrom f s (e ∷ es) = m.Enabled o f s e × RunsFrom (m.next f e) (m.after o f s e) es

  -- the front after a history from the opening
  abbrev pub front_after : List E → F
  front_after es = front_from (m.front o) es

  -- what a history from the opening gives at each key
  abbrev pub cell_after : List E → Store C
  cell_after es = store_from (m.front o) (find (m.cells o)) es

  -- a history that the machine can make from the opening
  abbrev pub IsRun : List E → Type 0
  IsRun es = RunsFrom (m.front o) (find (m.cells o)) es

  -- each cell that is found among the pairs is what the history gives at its key
  abbrev pub AreCurrent : List E → List (ℕ × C) → Type 0
  AreCurrent es ps = (k : ℕ) (c : C) → find ps k ≡ Some c → cell_after es k ≡ Some c

-- the front is that of a run from some opening, after which the event is enabled
pub record MayAdvance {O F C E : Type 0} (m : Meaning O F C E) (f : F) (e : E) : Type 0 where
  pub opening : O
  pub history : List E
  pub run : IsRun m opening history
  pub front : f ≡ front_after m opening history
  pub enabled : m.Enabled opening (front_after m opening history) (cell_after m opening history) e
