-- What the steps make of views, and what they tell. No public clause cites this module.
use Rattle.std.specs.Prelude.{◌≡◌, ℕ, ◌+◌, ◌^◌, ◌<◌, ◌≤◌, true, IsSome, List, [], ◌∷◌, ◌++◌, length}
use Rattle.std.specs.Prelude.{Option, Some, None}
use Rattle.atomic_table.specs.Table.{Me, Step}
use Rattle.cqp_book.specs.Keys.{has, find}
use Rattle.cqp_book.specs.Pairs.{count, without, put_all}
use Rattle.cqp_book.specs.Meaning.{Meaning, touched}
use Rattle.cqp_book.specs.Run.{front_after, IsRun, AreCurrent}
use Rattle.cqp_book.specs.declared.view.View.{View}
use Rattle.cqp_book.specs.declared.view.View.TheVariants.{Spent, OfBook, OfHold}

module _ {O F C E : Type 0} (m : Meaning O F C E) where
  -- the book's pairs after an event: at the keys that it touches, what it gives on the pairs before
  abbrev pub sealed : O → List E → List (ℕ × C) → E → List (ℕ × C)
  sealed o es ps e =
      put_all (m.after o (front_after m o es) (find ps) e) (touched m o (front_after m o es) e) ps

  -- what the book's view becomes by an event
  abbrev pub appended : Option E → View O C E → View O C E
  appended (Some e) (OfBook o t es ps) = OfBook o t (es ++ e ∷ []) (sealed o es ps e)
  appended _ v = v

  -- an event that the book may append: enabled on its pairs, among which are those that it needs
  pub record CanAppend (e : E) (o : O) (es : List E) (ps : List (ℕ × C)) : Type 0 where
    pub enabled : m.Enabled o (front_after m o es) (find ps) e
    pub at_hand : (k : ℕ) → has k (m.needs o (front_after m o es) e) ≡ true → IsSome (find ps k)
    pub short : length es + 1 < 2 ^ 64

  -- the same, of a view
  abbrev pub IsReady : E → View O C E → Type 0
  IsReady e (OfBook o t es ps) = CanAppend e o es ps
  IsReady e _ = ⊥

  -- what the book knows once it finds n in the word, that of the last hold's opening included
  abbrev pub Knows : ℕ → View O C E → Type 0
  Knows n (OfBook o t es ps) =
      (n ≡ length es) × IsRun m o es × AreCurrent m o es ps × ((k : ℕ) → count k ps ≤ 1) × (t ≡ o)
  Knows n _ = Unit {0}

  -- what the step that appends tells: the event is at the end
  abbrev pub Appends : Option E → Step (Unit {0}) → Me (Unit {0}) (View O C E) → ℕ
      → Me (Unit {0}) (View O C E) → Type 0
  Appends said st v found w = w ≡ (appended said v.0, v.1)

  -- what the step that looks tells: nothing changed, and the book knows what it knows
  abbrev pub Looks : Step (Unit {0}) → Me (Unit {0}) (View O C E) → ℕ → Me (Unit {0}) (View O C E)
      → Type 0
  Looks st v found w = (w ≡ v) × Knows found v.0

module _ {O C E : Type 0} where
  -- the book's view once the key is split off
  abbrev pub kept_back : Option ℕ → View O C E → View O C E
  kept_back (Some k) (OfBook o t es ps) = OfBook o t es (without k ps)
  kept_back _ v = v

  -- a hold's view, where there is a cell
  abbrev pub held : O → ℕ → Option C → View O C E
  held o k (Some c) = OfHold o k c
  held o k None = Spent

  -- the new seat's view, which has the key that is split off
  abbrev pub given : Option ℕ → View O C E → View O C E
  given (Some k) (OfBook o t es ps) = held o k (find ps k)
  given _ v = Spent

  -- the book's view once it took in a hold's, whose opening it remembers
  abbrev pub joined : View O C E → View O C E → View O C E
  joined (OfBook o t es ps) (OfHold o' k c) = OfBook o o' es ((k, c) ∷ ps)
  joined v w = v
