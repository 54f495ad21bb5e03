-- What a book and a hold keep inside. No public clause cites this module.
use Rattle.std.specs.Prelude.{◌≡◌, ℕ, ◌^◌, ◌<◌, ◌≤◌, List, [], length}
use mathlib.Core.HLevel.{⊥_prop, Unit-prop}
use Rattle.atomic_table.specs.Table.{Me}
use Rattle.atomic_table.specs.Seated.{TableId}
use Rattle.cqp_book.specs.Pairs.{count}
use Rattle.cqp_book.specs.Meaning.{Meaning}
use Rattle.cqp_book.specs.Run.{front_after, IsRun, AreCurrent}
use Rattle.cqp_book.specs.Journal.{Holding}
use Rattle.cqp_book.specs.Views.{pairs_of}
use Rattle.cqp_book.specs.declared.view.View.{View}
use Rattle.cqp_book.specs.declared.view.View.TheVariants.{Spent, OfBook, OfHold}

-- The table `id`, opened for o, has one word and no slot. The seat is of the table `of`, has the
-- view of `me` and has taken no slot. The front and the events are those that the seat has seen,
-- and there is room for as many as the reserve says.
pub record IsBook {O F C E : Type 0} (m : Meaning O F C E) (id : TableId) (o : O) (of : TableId)
    (me : Me (Unit {0}) (View O C E)) (front : F) (events : List E) (room reserve : ℕ)
    : Type 0 where
  pub table : of ≡ id
  pub one_word : id.words ≡ 1
  pub no_slot : id.slots ≡ 0
  pub view : me ≡ (OfBook o o events (pairs_of me.0), [])
  pub front_is : front ≡ front_after m o events
  pub run : IsRun m o events
  pub current : AreCurrent m o events (pairs_of me.0)
  pub single : (k : ℕ) → count k (pairs_of me.0) ≤ 1
  pub roomy : reserve ≤ room
  pub within : length events ≤ reserve
  pub small : reserve < 2 ^ 32

module _ {O C E : Type 0} where
  -- the view is a hold's
  abbrev pub IsHold : View O C E → Type 0
  IsHold (OfHold o k c) = Unit {0}
  IsHold _ = ⊥

  -- it is so in one way at most
  pub hold_prop : (v : View O C E) → IsProp (IsHold v)
  hold_prop Spent = ⊥_prop
  hold_prop (OfBook o t es ps) = ⊥_prop
  hold_prop (OfHold o k c) = Unit-prop

  -- what contracts see of a hold whose seat is of this table
  abbrev pub holding : TableId → (v : View O C E) → IsHold v → Holding O C
  holding id (OfHold o k c) is = record { identity = id; opening = o; key = k; cell = c }
  holding id Spent is = absurd is
  holding id (OfBook o t es ps) is = absurd is
