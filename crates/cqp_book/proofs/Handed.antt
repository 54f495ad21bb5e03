-- A pair that is split off or taken in keeps the rule.
use Rattle.std.proofs.Common.{◌≡◌, ◌≢◌, ℕ, ◌+◌, ◌≤◌, List, [], ◌∷◌, ◌++◌, set, Option, Some, refl}
use Rattle.std.proofs.Common.{sym, ap, ◌∙◌, subst, ⊎_elim, arith, eq-eqb, ne_eqb}
use mathlib.Core.Logic.{dite}
use mathlib.Core.Option.{some}
use native.Mathlib.Decide.{ℕ_discrete}
use lib.ListN.{get_elem?}
use Rattle.atomic_table.specs.Table.{State, Splits, Joins}
use Rattle.atomic_table.proofs.Lists.{at_set, at_snoc, set_else, at_longer}
use Rattle.cqp_book.specs.Keys.{find}
use Rattle.cqp_book.specs.Pairs.{count, without}
use Rattle.cqp_book.specs.Meaning.{Meaning}
use Rattle.cqp_book.specs.Run.{cell_after, AreCurrent}
use Rattle.cqp_book.specs.Views.{total}
use Rattle.cqp_book.specs.Rule.{Fits, KeptAt, Kept}
use Rattle.cqp_book.specs.Steps.{kept_back, held, given, joined}
use Rattle.cqp_book.specs.declared.view.View.{View}
use Rattle.cqp_book.specs.declared.view.View.TheVariants.{Spent, OfBook, OfHold}
use Rattle.cqp_book.proofs.PairLemmas.{find-without_same, find-without_other, count-without_same}
use Rattle.cqp_book.proofs.PairLemmas.{count-without_other, find_counts}
use Rattle.cqp_book.proofs.ViewLemmas.{get_set, total-set, total-snoc}
use Rattle.cqp_book.proofs.Kept.{keys_in, owned}
use Rattle.cqp_book.proofs.Sealed.{none_some}

module _ {O F C E : Type 0} (m : Meaning O F C E) where
  -- what a seat knows
  abbrev V : Type 0
  V = View O C E

  -- a state of the table
  abbrev St : Type 0
  St = State (Unit {0}) V

  -- pairs stay current without a key
  pub current_without : (o : O) (es : List E) (ps : List (ℕ × C)) (key : ℕ) → AreCurrent m o es ps → AreCurrent m o es (without key ps)
  current_without o es ps key current k c h = dite (ℕ_discrete k key)
      (λ e. absurd (none_some (sym (find-without_same key k ps e) ∙ h)))
      (λ n. current k c (sym (find-without_other key k ps n) ∙ h))

  -- the book's view is written over, and others stay
  each_set : (o : O) (s : St) (id : ℕ) (es : List E) (ps ps' : List (ℕ × C)) → KeptAt m o s id es ps
      → (j : ℕ) (v : V) → get_elem? (set s.views id (OfBook o o es ps')) j ≡ some v → Fits m o id es j v
  each_set o s id es ps ps' r j v e = ⊎_elim
      (λ (t : (j ≡ id) × (OfBook o o es ps' ≡ v)). subst (Fits m o id es j) t.1 (t.0, refl))
      (λ (t : (j ≢ id) × (get_elem? s.views j ≡ some v)). r.each j v t.1)
      (at_set s.views id j (OfBook o o es ps') v e)

  module _ (o : O) (s : St) (id : ℕ) (es : List E) (ps : List (ℕ × C)) (r : KeptAt m o s id es ps) (key : ℕ) (c : C) where
    -- the book's view without the key
    abbrev left : V
    left = OfBook o o es (without key ps)

    -- the hold's view
    abbrev right : V
    right = OfHold o key c

    -- all views but the hold's, afterwards
    abbrev lent : List V
    lent = set s.views id left

    -- no key stands twice once the pair is in a view of its own
    apart_split : find ps key ≡ Some c → (k : ℕ) → total (keys_in m k) (lent ++ right ∷ []) ≤ 1
    apart_split there k =
        let all = total-snoc (keys_in m k) lent right in
        let book = total-set (keys_in m k) s.views id (OfBook o o es ps) left r.book in
        let one = r.apart k in dite (ℕ_discrete k key)
        (λ e.
        let none_left = count-without_same key k ps e in
        let here : keys_in m k right ≡ 1 = rw (eq-eqb k key e) refl in
        let some_there = find_counts ps k c (ap (find ps) e ∙ there) in
        omega arith)
        (λ n.
        let same = count-without_other key k ps n in
        let here : keys_in m k right ≡ 0 = rw (ne_eqb k key n) refl in
        omega arith)

    -- the rule holds once the pair of the key is split off
    split_at : find ps key ≡ Some c → KeptAt m o record { words = s.words; homes = s.homes; views = lent ++ right ∷ [] } id es (without key ps)
    split_at there = record {
      word = r.word;
      book = at_longer lent (right ∷ []) id left (get_set s.views id (OfBook o o es ps) left r.book);
      run = r.run;
      current = current_without o es ps key r.current;
      each = λ j v e. ⊎_elim
          (λ (a : get_elem? lent j ≡ some v). each_set o s id es ps (without key ps) r j v a)
          (λ (t : right ≡ v). subst (Fits m o id es j) t (refl, r.current key c there))
          (at_snoc lent right v j e);
      apart = apart_split there;
    }

    module _ (other : ℕ) (o' : O) (apart : other ≢ id) (at : get_elem? s.views other ≡ some (OfHold o' key c)) where
      -- the book's view with the pair
      abbrev both : V
      both = OfBook o o es ((key, c) ∷ ps)

      -- all views, before the hold's is spent
      abbrev taken : List V
      taken = set s.views id both

      -- the hold's view is still there once the book's is written over
      still : get_elem? taken other ≡ some (OfHold o' key c)
      still = set_else s.views id other both apart ∙ at

      -- the hold's pair is current, so all of the book's are
      current_with : AreCurrent m o es ((key, c) ∷ ps)
      current_with k d h = dite (ℕ_discrete k key)
          (λ e. ap (cell_after m o es) e ∙ ((r.each other (OfHold o' key c) at).1 ∙ (rw (eq-eqb k key e) at h)))
          (λ n. r.current k d (rw (ne_eqb k key n) at h))

      -- no key stands twice once the pair is the book's
      apart_join : (k : ℕ) → total (keys_in m k) (set taken other Spent) ≤ 1
      apart_join k =
          let spent = total-set (keys_in m k) taken other (OfHold o' key c) Spent still in
          let book = total-set (keys_in m k) s.views id (OfBook o o es ps) both r.book in
          let one = r.apart k in dite (ℕ_discrete k key)
          (λ e.
          let more : keys_in m k both ≡ count k ps + 1 = rw (eq-eqb k key e) refl in
          let here : keys_in m k (OfHold o' key c) ≡ 1 = rw (eq-eqb k key e) refl in
          omega arith)
          (λ n.
          let same : keys_in m k both ≡ count k ps = rw (ne_eqb k key n) refl in
          let here : keys_in m k (OfHold o' key c) ≡ 0 = rw (ne_eqb k key n) refl in
          omega arith)

      -- the rule holds once the hold's pair is taken in
      join_at : KeptAt m o record { words = s.words; homes = s.homes; views = set taken other Spent } id es ((key, c) ∷ ps)
      join_at = record {
        word = r.word;
        book = set_else taken other id Spent (λ e. apart (sym e)) ∙ get_set s.views id (OfBook o o es ps) both r.book;
        run = r.run;
        current = current_with;
        each = λ j v e. ⊎_elim
            (λ (t : (j ≡ other) × (Spent ≡ v)). subst (Fits m o id es j) t.1 tt)
            (λ (t : (j ≢ other) × (get_elem? taken j ≡ some v)). each_set o s id es ps ((key, c) ∷ ps) r j v t.1)
            (at_set taken other j Spent v e);
        apart = apart_join;
      }

  -- the book's seat may split off a key that it has
  pub splits : (id : ℕ) (o : O) (v : V) (said : Option ℕ) (key : ℕ) → said ≡ Some key → (o' : O) (es : List E) (ps : List (ℕ × C)) (c : C)
      → v ≡ OfBook o' o' es ps → find ps key ≡ Some c → Splits {S = Unit {0}} (Kept m o) id v (kept_back said v) (given said v)
  splits id o v said key told o' es ps c is there s r at =
      let h = owned m o s r id o' o' es ps (at ∙ ap some is) in
      let book : kept_back said v ≡ OfBook o' o' es (without key ps) = λ i. kept_back (told i) (is i) in
      let hold : given said v ≡ OfHold o' key c = (λ i. given (told i) (is i)) ∙ ap (held o' key) there in
      subst (λ (t : O × (V × V)). Kept m t.0 record { words = s.words; homes = s.homes; views = set s.views id t.1.0 ++ t.1.1 ∷ [] })
      (λ i. (h.0 i, (sym book i, sym hold i)))
      record { seat = id; seen = es; pairs = without key ps; is = split_at o' s id es ps h.2 key c there }

  -- the book's seat may take in a hold's
  pub joins : (id : ℕ) (o : O) (v : V) (other : ℕ) (w : V) (o' : O) (es : List E) (ps : List (ℕ × C)) (o'' : O) (key : ℕ) (c : C)
      → v ≡ OfBook o' o' es ps → w ≡ OfHold o'' key c → Joins {S = Unit {0}} (Kept m o) id v other w (joined v w) Spent
  joins id o v other w o' es ps o'' key c is is' s r at apart there =
      let h = owned m o s r id o' o' es ps (at ∙ ap some is) in
      let at' : get_elem? s.views other ≡ some (OfHold o'' key c) = sym (set_else s.views id other (joined v w) apart) ∙ (there ∙ ap some is') in
      let fit = h.2.each other (OfHold o'' key c) at' in
      let book : joined v w ≡ OfBook o' o' es ((key, c) ∷ ps) =
      (λ i. joined (is i) (is' i)) ∙ ap (λ (x : O). OfBook o' x es ((key, c) ∷ ps)) fit.0 in
      subst (λ (t : O × V). Kept m t.0 record { words = s.words; homes = s.homes; views = set (set s.views id t.1) other Spent })
      (λ i. (h.0 i, sym book i))
      record { seat = id; seen = es; pairs = (key, c) ∷ ps; is = join_at o' s id es ps h.2 key c other o'' apart at' }
