-- A history that is one event longer.
use Rattle.std.proofs.Common.{◌≡◌, List, [], ◌∷◌, ◌++◌, refl}
use Rattle.cqp_book.specs.Keys.{Store, find}
use Rattle.cqp_book.specs.Meaning.{Meaning}
use Rattle.cqp_book.specs.Run.{front_from, store_from, RunsFrom, front_after, cell_after, IsRun}

module _ {O F C E : Type 0} (m : Meaning O F C E) (o : O) where
  -- the front is moved on by the last event
  front_from-snoc : (f : F) (es : List E) (e : E) → front_from m o f (es ++ e ∷ []) ≡ m.next (front_from m o f es) e
  front_from-snoc f [] e = refl
  front_from-snoc f (x ∷ es) e = front_from-snoc (m.next f x) es e

  -- the cells are those that the last event leaves
  store_from-snoc : (f : F) (s : Store C) (es : List E) (e : E)
      → store_from m o f s (es ++ e ∷ []) ≡ m.after o (front_from m o f es) (store_from m o f s es) e
  store_from-snoc f s [] e = refl
  store_from-snoc f s (x ∷ es) e = store_from-snoc (m.next f x) (m.after o f s x) es e

  -- a run goes on by an event that is enabled after it
  runs_from_snoc : (f : F) (s : Store C) (es : List E) (e : E) → RunsFrom m o f s es → m.Enabled o (front_from m o f es) (store_from m o f s es) e
      → RunsFrom m o f s (es ++ e ∷ [])
  runs_from_snoc f s [] e run enabled = (enabled, tt)
  runs_from_snoc f s (x ∷ es) e run enabled = (run.0, runs_from_snoc (m.next f x) (m.after o f s x) es e run.1 enabled)

  -- the same three from the opening
  pub front_after-snoc : (es : List E) (e : E) → front_after m o (es ++ e ∷ []) ≡ m.next (front_after m o es) e
  front_after-snoc es e = front_from-snoc (m.front o) es e

  -- the cells after the history are moved on by the last event
  pub cell_after-snoc : (es : List E) (e : E) → cell_after m o (es ++ e ∷ []) ≡ m.after o (front_after m o es) (cell_after m o es) e
  cell_after-snoc es e = store_from-snoc (m.front o) (find (m.cells o)) es e

  -- a history goes on by an event that is enabled after it
  pub run_snoc : (es : List E) (e : E) → IsRun m o es → m.Enabled o (front_after m o es) (cell_after m o es) e → IsRun m o (es ++ e ∷ [])
  run_snoc es e run enabled = runs_from_snoc (m.front o) (find (m.cells o)) es e run enabled
