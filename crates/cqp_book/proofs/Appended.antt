-- An appended event keeps the rule.
use Rattle.std.proofs.Common.{◌≡◌, ◌≢◌, ◌+◌, ◌%◌, ◌^◌, ◌≤◌, ◌∷◌, ◌++◌, ◌∙◌}
use Rattle.std.proofs.Common.{ℕ, true, false, List, [], length, set, get_or, Option, Some, None}
use Rattle.std.proofs.Common.{refl, sym, ap, subst, ⊎_elim, arith, length-append, eq-eqb, ne_eqb}
use Rattle.std.proofs.Common.{mod-eq_of_lt}
use Rattle.std.proofs.lemmas.Bool.{cases_Bool}
use mathlib.Core.Logic.{◌⊎◌, dite}
use mathlib.Core.Option.{some, none, some-injective}
use native.Mathlib.Decide.{ℕ_discrete}
use lib.ListN.{get_elem?}
use Rattle.atomic_table.specs.Table.{State, step, keeps, stepped, Allows}
use Rattle.cqp_book.specs.Keys.{has, find}
use Rattle.cqp_book.specs.Pairs.{count}
use Rattle.cqp_book.specs.Meaning.{Meaning, touched}
use Rattle.cqp_book.specs.Run.{front_after, cell_after}
use Rattle.cqp_book.specs.Laws.{IsLawful}
use Rattle.cqp_book.specs.Views.{total, pairs_of}
use Rattle.cqp_book.specs.Rule.{Fits, KeptAt, Kept}
use Rattle.cqp_book.specs.Steps.{sealed, appended, Appends, CanAppend, IsReady}
use Rattle.cqp_book.specs.declared.view.View.{View}
use Rattle.cqp_book.specs.declared.view.View.TheVariants.{Spent, OfBook, OfHold}
use Rattle.cqp_book.proofs.PairLemmas.{count-put_all_in, count-put_all_out, find_counts}
use Rattle.cqp_book.proofs.PairLemmas.{count_finds}
use Rattle.cqp_book.proofs.ViewLemmas.{total-set, two_within_total, total_of_none}
use Rattle.cqp_book.proofs.Kept.{keys_in, owned, moved}
use Rattle.cqp_book.proofs.Sealed.{none_some, run_after, same_cell, current_after, touches}

module _ {O F C E : Type 0} (m : Meaning O F C E) where
  -- what a seat knows
  abbrev V : Type 0
  V = View O C E

  -- a state of the table
  abbrev St : Type 0
  St = State (Unit {0}) V

  -- no seat has a key that isn't live
  none_has : (o : O) (s : St) (id : ℕ) (es : List E) (ps : List (ℕ × C)) → KeptAt m o s id es ps → (k : ℕ) → cell_after m o es k ≡ None
      → (j : ℕ) (v : V) → get_elem? s.views j ≡ some v → keys_in m k v ≡ 0
  none_has o s id es ps r k dead j Spent at = refl
  none_has o s id es ps r k dead j (OfHold o' k' c) at = let fit = r.each j (OfHold o' k' c) at in dite (ℕ_discrete k k')
      (λ e. absurd (none_some (sym dead ∙ (ap (cell_after m o es) e ∙ fit.1))))
      (λ n. rw (ne_eqb k k' n) refl)
  none_has o s id es ps r k dead j (OfBook o' t es' ps') at =
      let fit = r.each j (OfBook o' t es' ps') at in
      let same : OfBook o o es ps ≡ OfBook o' t es' ps' = some-injective _ _ (sym r.book ∙ (ap (get_elem? s.views) (sym fit.0) ∙ at)) in
      dite (ℕ_discrete (count k ps') 0)
      (λ none. none)
      (λ some_there.
      let f = count_finds ps' k (omega arith) in
      absurd (none_some (sym dead ∙ r.current k f.0 (ap (λ (v : V). find (pairs_of v) k) same ∙ f.1))))

  module _ (lawful : IsLawful m) {e : E} {o : O} {es : List E} {ps : List (ℕ × C)} (can : CanAppend m e o es ps) (s : St) (id : ℕ)
      (r : KeptAt m o s id es ps) where
    -- the keys that the event touches
    abbrev keys : List ℕ
    keys = touched m o (front_after m o es) e

    -- the book's pairs afterwards
    abbrev after : List (ℕ × C)
    after = sealed m o es ps e

    -- the book's view afterwards
    abbrev new : V
    new = OfBook o o (es ++ e ∷ []) after

    -- a key that the event touches is with the book, or not live
    known : (k : ℕ) → has k keys ≡ true → ((c : C) × (find ps k ≡ Some c)) ⊎ (cell_after m o es k ≡ None)
    known k h = touches m lawful can r.current r.run k h

    -- a hold's key isn't touched
    not_held : (j : ℕ) (o' : O) (k : ℕ) (c : C) → j ≢ id → get_elem? s.views j ≡ some (OfHold o' k c) → has k keys ≡ true → ⊥
    not_held j o' k c n at h = ⊎_elim
        (λ (t : (d : C) × (find ps k ≡ Some d)).
        let mine = find_counts ps k t.0 t.1 in
        let two = two_within_total (keys_in m k) s.views id j (OfBook o o es ps) (OfHold o' k c) (λ p. n (sym p)) r.book at in
        let one = r.apart k in
        let here : keys_in m k (OfHold o' k c) ≡ 1 = rw (eq-eqb k k refl) refl in
        omega arith)
        (λ (dead : cell_after m o es k ≡ None). none_some (sym dead ∙ (r.each j (OfHold o' k c) at).1))
        (known k h)

    -- so it keeps its cell
    stays : (j : ℕ) (v : V) → j ≢ id → get_elem? s.views j ≡ some v → Fits m o id es j v → Fits m o id (es ++ e ∷ []) j v
    stays j Spent n at fit = tt
    stays j (OfBook o' t es' ps') n at fit = fit
    stays j (OfHold o' k c) n at fit = (
      fit.0,
      ⊎_elim
          (λ (t : has k keys ≡ true). absurd (not_held j o' k c n at t))
          (λ (t : has k keys ≡ false). same_cell m lawful can r.current r.run k t ∙ fit.1)
          (cases_Bool (has k keys)),
    )

    -- no key stands twice
    apart_after : (k : ℕ) → total (keys_in m k) (set s.views id new) ≤ 1
    apart_after k =
        let t = total-set (keys_in m k) s.views id (OfBook o o es ps) new r.book in
        let one = r.apart k in
        let gives = m.after o (front_after m o es) (find ps) e in ⊎_elim
        (λ (h : has k keys ≡ true). let few = count-put_all_in gives keys ps k h in ⊎_elim
        (λ (there : (c : C) × (find ps k ≡ Some c)). let mine = find_counts ps k there.0 there.1 in omega arith)
        (λ (dead : cell_after m o es k ≡ None). let zero_of = total_of_none (keys_in m k) s.views (none_has o s id es ps r k dead) in omega arith)
        (known k h))
        (λ (h : has k keys ≡ false). let same = count-put_all_out gives keys ps k h in omega arith)
        (cases_Bool (has k keys))

    -- the rule holds afterwards
    append_at : (ws : List ℕ) → ws ≡ (length es + 1) ∷ []
        → KeptAt m o record { words = ws; homes = s.homes; views = set s.views id new } id (es ++ e ∷ []) after
    append_at ws word =
        moved m o s id es ps r (es ++ e ∷ []) after ws (word ∙ ap (λ (n : ℕ). n ∷ []) (sym (length-append es (e ∷ []))))
        (run_after m lawful can r.current r.run)
        (current_after m lawful can r.current r.run)
        (λ j v n at. stays j v n at (r.each j v at))
        apart_after

  -- one more in the word
  abbrev more : St → ℕ
  more s = (get_or s.words 0 0 + 1) % 2 ^ 64

  -- the book's seat may append an event that it is ready for
  pub appends : (lawful : IsLawful m) (slots id : ℕ) (o : O) (v : V) (cs : List (ℕ × Unit {0})) (e : E)
      (said : Option E) → said ≡ Some e → IsReady m e v
      → Allows (Kept m o) slots id (v, cs) 0 (λ n. (n + 1) % 2 ^ 64) (Appends m said (step slots 0 1 0 none) (v, cs))
  appends lawful slots id o Spent cs e said told ready s r _ at _ = absurd ready
  appends lawful slots id o (OfHold o' k c) cs e said told ready s r _ at _ = absurd ready
  appends lawful slots id o (OfBook o' t es ps) cs e said told ready s r _ at _ =
      let mine = owned m o s r id o' t es ps at in
      let now : set s.words 0 (more s) ≡ (length es + 1) ∷ [] =
      ap (λ (l : List ℕ). set l 0 ((get_or l 0 0 + 1) % 2 ^ 64)) mine.2.word ∙ ap (λ (n : ℕ). n ∷ []) (mod-eq_of_lt ready.short) in (
        appended m (Some e) (OfBook o' t es ps),
        keeps,
        tt,
        subst (λ (x : O × O). Kept m x.0 (stepped s 0 (more s) id cs (appended m (Some e) (OfBook o' x.1 es ps)) keeps))
            (λ i. (mine.0 i, sym mine.1 i)) record {
              seat = id;
              seen = es ++ e ∷ [];
              pairs = sealed m o' es ps e;
              is = append_at lawful ready s id mine.2 (set s.words 0 (more s)) now;
            },
        ap (λ (x : Option E). (appended m x (OfBook o' t es ps), cs)) (sym told),
      )
