-- The laws that each machine meets.
use Rattle.std.specs.Prelude.{◌≡◌, ℕ, true, false, List, None}
use Rattle.cqp_book.specs.Keys.{has, Store, AgreeOn}
use Rattle.cqp_book.specs.Meaning.{Meaning, touched}
use Rattle.cqp_book.specs.Run.{front_after, cell_after, IsRun}

module _ {O F C E : Type 0} (m : Meaning O F C E) where
  -- whether an event is enabled, and the cells that it leaves at the keys it touches, depend on the
  -- cells that it needs alone
  abbrev pub IsLocal : Type 0
  IsLocal =
      (o : O) (f : F) (e : E) (s t : Store C) → AgreeOn (m.needs o f e) s t → m.Enabled o f s e
      → m.Enabled o f t e × AgreeOn (touched m o f e) (m.after o f s e) (m.after o f t e)

  -- an event changes no cell at a key that it doesn't touch
  abbrev pub LeavesOthers : Type 0
  LeavesOthers =
      (o : O) (f : F) (e : E) (s : Store C) (k : ℕ) → m.Enabled o f s e
      → has k (touched m o f e) ≡ false → m.after o f s e k ≡ s k

  -- an event that is enabled after a run makes no key that is live
  abbrev pub MakesNew : Type 0
  MakesNew =
      (o : O) (es : List E) (e : E) (k : ℕ) → IsRun m o es
      → m.Enabled o (front_after m o es) (cell_after m o es) e
      → has k (m.makes o (front_after m o es) e) ≡ true → cell_after m o es k ≡ None

  -- a machine's laws
  pub record IsLawful : Type 0 where
    pub local : IsLocal
    pub leaves_others : LeavesOthers
    pub makes_new : MakesNew
