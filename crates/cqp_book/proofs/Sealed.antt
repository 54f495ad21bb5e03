-- An event that is enabled on the book's pairs, among which are those that it needs, goes on with the run, and its cells are the history's.
use Rattle.std.proofs.Common.{◌≡◌, ℕ, ◌≤◌, true, false, List, [], ◌∷◌, ◌++◌, Option, Some, None}
use Rattle.std.proofs.Common.{IsSome, refl, sym, ap, ◌∙◌, ⊎_elim, inl, inr}
use Rattle.std.proofs.lemmas.Bool.{cases_Bool, or_cases, false≢true}
use mathlib.Core.Logic.{◌⊎◌}
use Rattle.cqp_book.specs.Keys.{has, Store, find, AgreeOn}
use Rattle.cqp_book.specs.Pairs.{count}
use Rattle.cqp_book.specs.Meaning.{Meaning, touched}
use Rattle.cqp_book.specs.Run.{front_after, cell_after, IsRun, AreCurrent}
use Rattle.cqp_book.specs.Laws.{IsLawful}
use Rattle.cqp_book.specs.Steps.{sealed, CanAppend}
use Rattle.cqp_book.proofs.PairLemmas.{find-put_all_in, find-put_all_out, count-put_all_in}
use Rattle.cqp_book.proofs.PairLemmas.{count-put_all_out, has-append}
use Rattle.cqp_book.proofs.RunLemmas.{cell_after-snoc, run_snoc}

-- a cell and no cell differ
pub none_some : {C : Type 0} {c : C} → None ≡ Some c → ⊥
none_some h = cc

-- the cell that is there
value_of : {C : Type 0} (x : Option C) → IsSome x → (c : C) × (x ≡ Some c)
value_of None h = absurd (false≢true h)
value_of (Some c) h = (c, refl)

module _ {O F C E : Type 0} (m : Meaning O F C E) (lawful : IsLawful m) {e : E} {o : O} {es : List E} {ps : List (ℕ × C)}
    (can : CanAppend m e o es ps) (current : AreCurrent m o es ps) (run : IsRun m o es) where
  -- the front that the event comes on
  abbrev front : F
  front = front_after m o es

  -- the keys that it touches
  abbrev keys : List ℕ
  keys = touched m o front e

  -- the cells that the event leaves of the book's
  abbrev mine : Store C
  mine = m.after o front (find ps) e

  -- a key that the event needs is with the book
  found : (k : ℕ) → has k (m.needs o front e) ≡ true → (c : C) × (find ps k ≡ Some c)
  found k h = value_of (find ps k) (can.at_hand k h)

  -- the event is enabled on all cells, and leaves the same of them at its keys
  pub whole : m.Enabled o front (cell_after m o es) e × AgreeOn keys mine (m.after o front (cell_after m o es) e)
  whole = lawful.local o front e (find ps) (cell_after m o es) (λ k h. let f = found k h in f.1 ∙ sym (current k f.0 f.1)) can.enabled

  -- the history with the event is a run
  pub run_after : IsRun m o (es ++ e ∷ [])
  run_after = run_snoc m o es e run whole.0

  -- a key that isn't touched keeps its cell
  pub same_cell : (k : ℕ) → has k keys ≡ false → cell_after m o (es ++ e ∷ []) k ≡ cell_after m o es k
  same_cell k h = ap (λ (s : Store C). s k) (cell_after-snoc m o es e) ∙ lawful.leaves_others o front e (cell_after m o es) k whole.0 h

  -- a key that is touched has what the event gives on the book's cells
  new_cell : (k : ℕ) → has k keys ≡ true → cell_after m o (es ++ e ∷ []) k ≡ mine k
  new_cell k h = ap (λ (s : Store C). s k) (cell_after-snoc m o es e) ∙ sym (whole.1 k h)

  -- the book's pairs are again what the history gives
  pub current_after : AreCurrent m o (es ++ e ∷ []) (sealed m o es ps e)
  current_after k c h = ⊎_elim
      (λ (t : has k keys ≡ true). new_cell k t ∙ (sym (find-put_all_in mine keys ps k t) ∙ h))
      (λ (t : has k keys ≡ false). same_cell k t ∙ current k c (sym (find-put_all_out mine keys ps k t) ∙ h))
      (cases_Bool (has k keys))

  -- what is found among them is what the event gives on the book's cells
  pub find_after : (k : ℕ) → find (sealed m o es ps e) k ≡ mine k
  find_after k = ⊎_elim
      (λ (t : has k keys ≡ true). find-put_all_in mine keys ps k t)
      (λ (t : has k keys ≡ false). find-put_all_out mine keys ps k t ∙ sym (lawful.leaves_others o front e (find ps) k can.enabled t))
      (cases_Bool (has k keys))

  -- no key stands twice among them
  pub count_after : ((k : ℕ) → count k ps ≤ 1) → (k : ℕ) → count k (sealed m o es ps e) ≤ 1
  count_after single k = ⊎_elim
      (λ (t : has k keys ≡ true). count-put_all_in mine keys ps k t)
      (λ (t : has k keys ≡ false). rw (count-put_all_out mine keys ps k t) (single k))
      (cases_Bool (has k keys))

  -- a key that the event touches is with the book, or not live
  pub touches : (k : ℕ) → has k keys ≡ true → ((c : C) × (find ps k ≡ Some c)) ⊎ (cell_after m o es k ≡ None)
  touches k h = ⊎_elim
      (λ (t : has k (m.needs o front e) ≡ true). inl (found k t))
      (λ (t : has k (m.makes o front e) ≡ true). inr (lawful.makes_new o es e k run whole.0 t))
      (or_cases (has k (m.needs o front e)) (has k (m.makes o front e)) (sym (has-append k (m.needs o front e) (m.makes o front e)) ∙ h))

  -- a live key that isn't with the book stays away from it, with its cell
  pub away_after : (k : ℕ) (c : C) → cell_after m o es k ≡ Some c → find ps k ≡ None
      → (cell_after m o (es ++ e ∷ []) k ≡ Some c) × (find (sealed m o es ps e) k ≡ None)
  away_after k c live away = ⊎_elim
      (λ (t : has k keys ≡ true). absurd (⊎_elim
      (λ (there : (d : C) × (find ps k ≡ Some d)). none_some (sym away ∙ there.1))
      (λ (dead : cell_after m o es k ≡ None). none_some (sym dead ∙ live))
      (touches k t)))
      (λ (t : has k keys ≡ false). (same_cell k t ∙ live, find-put_all_out mine keys ps k t ∙ away))
      (cases_Bool (has k keys))
