-- An event depends on the cells that it needs, and changes those that it touches.
use Rattle.std.proofs.Common.{◌≡◌, ℕ, true, false, Bool, if◌then◌else◌, List, ◌++◌, None, refl, sym, ap, subst, ⊎_elim, ◌∙◌}
use Rattle.std.proofs.lemmas.Bool.{cases_Bool}
use Rattle.cqp_book.specs.Keys.{has, Store, AgreeOn}
use Rattle.cqp_book.specs.Laws.{IsLocal, LeavesOthers}
use Rattle.cqp_machine.specs.declared.event.Event.{Event}
use Rattle.cqp_machine.specs.declared.cell.Cell.{Cell}
use Rattle.cqp_machine.specs.Cells.{cells_in, store_of, only}
use Rattle.cqp_machine.specs.Touched.{needs_of, makes_of}
use Rattle.cqp_machine.specs.Enabled.{IsEnabled}
use Rattle.cqp_machine.specs.After.{cells_after}
use Rattle.cqp_machine.specs.Machine.{seen_by, factored}

-- a key that is asked for is seen
pub only_in : (ks : List ℕ) (s : Store Cell) (k : ℕ) → has k ks ≡ true → only ks s k ≡ s k
only_in ks s k h = rw h refl

-- and no other
pub only_out : (ks : List ℕ) (s : Store Cell) (k : ℕ) → has k ks ≡ false → only ks s k ≡ None
only_out ks s k h = rw h refl

-- stores that agree at the keys are seen alike
only_agrees : (ks : List ℕ) (s t : Store Cell) → AgreeOn ks s t → (k : ℕ) → only ks s k ≡ only ks t k
only_agrees ks s t agree k = ⊎_elim
    (λ (h : has k ks ≡ true). only_in ks s k h ∙ (agree k h ∙ sym (only_in ks t k h)))
    (λ (h : has k ks ≡ false). only_out ks s k h ∙ sym (only_out ks t k h))
    (cases_Bool (has k ks))

-- so an event sees the same cells
same_seen : (e : Event) (s t : Store Cell) → AgreeOn (needs_of e) s t → seen_by e s ≡ seen_by e t
same_seen e s t agree =
    let same : only (needs_of e) s ≡ only (needs_of e) t = λ i k. only_agrees (needs_of e) s t agree k i in
    ap cells_in same

-- both sides of a choice that is made one way
chosen : {X : Type 0} (b : Bool) (x y u v : X) → b ≡ true → x ≡ y → (if b then x else u) ≡ (if b then y else v)
chosen b x y u v h e = rw h e

-- whether an event is enabled, and what it leaves, depend on the cells that it needs alone
pub factored_local : IsLocal factored
factored_local l f e s t agree on = let same = same_seen e s t agree in (
  subst (λ c. IsEnabled l f c e) same on,
  λ k h.
      chosen (has k (needs_of e ++ makes_of f e)) (store_of (cells_after l f (seen_by e s) e) k) (store_of (cells_after l f (seen_by e t) e) k)
      (s k) (t k) h (ap (λ c. store_of (cells_after l f c e) k) same),
)

-- an event changes no other cell
pub factored_leaves_others : LeavesOthers factored
factored_leaves_others l f e s k on h = rw h refl
