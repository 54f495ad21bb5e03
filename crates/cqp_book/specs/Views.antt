-- What the views of seats show. No public clause cites this module.
use Rattle.std.specs.Prelude.{◌≡◌, ℕ, ◌+◌, List, [], ◌∷◌, Some}
use Rattle.atomic_table.specs.Table.{Me}
use Rattle.cqp_book.specs.Keys.{find}
use Rattle.cqp_book.specs.declared.view.View.{View}
use Rattle.cqp_book.specs.declared.view.View.TheVariants.{Spent, OfBook, OfHold}

-- a measure of each view, added up
abbrev pub total : {V : Type 0} → (V → ℕ) → List V → ℕ
total f [] = 0
total f (v ∷ vs) = f v + total f vs

module _ {O C E : Type 0} where
  -- the pairs of a seat
  abbrev pub pairs_of : View O C E → List (ℕ × C)
  pairs_of Spent = []
  pairs_of (OfBook o t es ps) = ps
  pairs_of (OfHold o k c) = (k, c) ∷ []

  -- the events that a seat has seen
  abbrev pub seen_of : View O C E → List E
  seen_of (OfBook o t es ps) = es
  seen_of _ = []

  -- the seat is a book's
  abbrev pub IsBookView : View O C E → Type 0
  IsBookView v = (o : O) × (es : List E) × (ps : List (ℕ × C)) × (v ≡ OfBook o o es ps)

  -- the seat is a book's, which has a cell at the key
  abbrev pub HasKey : ℕ → View O C E → Type 0
  HasKey k v =
      (o : O) × (es : List E) × (ps : List (ℕ × C)) × (c : C) × (v ≡ OfBook o o es ps)
      × (find ps k ≡ Some c)

  -- the seat is a hold's, and has taken no slot
  abbrev pub IsHoldSeat : Me (Unit {0}) (View O C E) → Type 0
  IsHoldSeat me = (o : O) × (k : ℕ) × (c : C) × (me ≡ (OfHold o k c, []))
