-- The rule over a book's word and the views of its seats. No public clause cites this module.
use Rattle.std.specs.Prelude.{◌≡◌, ℕ, ◌≤◌, List, [], ◌∷◌, length, Some}
use mathlib.Core.Option.{some}
use lib.ListN.{get_elem?}
use Rattle.atomic_table.specs.Table.{State}
use Rattle.cqp_book.specs.Pairs.{count, distinct}
use Rattle.cqp_book.specs.Meaning.{Meaning}
use Rattle.cqp_book.specs.Run.{cell_after, IsRun, AreCurrent}
use Rattle.cqp_book.specs.Views.{total, pairs_of}
use Rattle.cqp_book.specs.declared.view.View.{View}
use Rattle.cqp_book.specs.declared.view.View.TheVariants.{Spent, OfBook, OfHold}

module _ {O F C E : Type 0} (m : Meaning O F C E) where
  -- the view of the seat j, where the book's seat is `seat` and has seen these events: a hold's
  -- cell is what they give
  abbrev pub Fits : O → ℕ → List E → ℕ → View O C E → Type 0
  Fits o seat seen j Spent = Unit {0}
  Fits o seat seen j (OfBook o' t es ps) = (j ≡ seat) × (o' ≡ o)
  Fits o seat seen j (OfHold o' k c) = (o' ≡ o) × (cell_after m o seen k ≡ Some c)

  -- The seat is the book's. It has seen a run, whose length is the word, and its cells are what
  -- that run gives. Every view has the one opening, no other seat is a book's, and no key stands
  -- twice, in one view or in two.
  pub record KeptAt (o : O) (s : State (Unit {0}) (View O C E)) (seat : ℕ) (seen : List E)
      (pairs : List (ℕ × C)) : Type 0 where
    pub word : s.words ≡ length seen ∷ []
    pub book : get_elem? s.views seat ≡ some (OfBook o o seen pairs)
    pub run : IsRun m o seen
    pub current : AreCurrent m o seen pairs
    pub each : (j : ℕ) (v : View O C E) → get_elem? s.views j ≡ some v → Fits o seat seen j v
    pub apart : (k : ℕ) → total (λ v. count k (pairs_of v)) s.views ≤ 1

  -- one seat is the book's
  pub record Kept (o : O) (s : State (Unit {0}) (View O C E)) : Type 0 where
    pub seat : ℕ
    pub seen : List E
    pub pairs : List (ℕ × C)
    pub is : KeptAt o s seat seen pairs

  -- the book's first view
  abbrev pub at_start : O → View O C E
  at_start o = OfBook o o [] (distinct (m.cells o))
