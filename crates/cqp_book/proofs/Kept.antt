-- The rule at the start, what it tells of a seat's view, and what it leaves at the end.
use Rattle.std.proofs.Common.{◌≡◌, ◌≢◌, ℕ, zero, suc, ◌≤◌, List, [], ◌∷◌, length, set, get_or, refl}
use Rattle.std.proofs.Common.{sym, ap, ◌∙◌, subst, ⊎_elim, arith}
use mathlib.Core.Option.{some, none, some-injective, some-ne-none}
use lib.ListN.{get_elem?}
use lib.Seq.{set-get_or}
use Rattle.atomic_table.specs.Table.{State, Me, step, keeps, stepped, Allows, opening, Final, Seen}
use Rattle.atomic_table.proofs.Lists.{at_set, set_again}
use Rattle.cqp_book.specs.Pairs.{count, distinct}
use Rattle.cqp_book.specs.Meaning.{Meaning}
use Rattle.cqp_book.specs.Run.{IsRun, AreCurrent}
use Rattle.cqp_book.specs.Views.{total, pairs_of, seen_of}
use Rattle.cqp_book.specs.Rule.{Fits, KeptAt, Kept, at_start}
use Rattle.cqp_book.specs.Steps.{Knows, Looks}
use Rattle.cqp_book.specs.declared.view.View.{View}
use Rattle.cqp_book.specs.declared.view.View.TheVariants.{Spent, OfBook, OfHold}
use Rattle.cqp_book.proofs.PairLemmas.{count-distinct, find-distinct}
use Rattle.cqp_book.proofs.ViewLemmas.{get_set, one_within_total}

module _ {O F C E : Type 0} (m : Meaning O F C E) where
  -- what a seat knows
  abbrev V : Type 0
  V = View O C E

  -- a state of the table
  abbrev St : Type 0
  St = State (Unit {0}) V

  -- how often a view has the key
  abbrev pub keys_in : ℕ → V → ℕ
  keys_in k v = count k (pairs_of v)

  -- the opening that a book's view says of the hold taken in last, and o of other views
  abbrev told_of : O → V → O
  told_of o Spent = o
  told_of o (OfBook o' t es ps) = t
  told_of o (OfHold o' k c) = o

  -- a seat that has a book's view is the book's, with what it has seen and found, and one opening
  owned_at : (o : O) (s : St) (r : Kept m o s) (id : ℕ) (o' t : O) (es : List E) (ps : List (ℕ × C))
      → get_elem? s.views id ≡ some (OfBook o' t es ps) → (o' ≡ o) × (t ≡ o) × KeptAt m o s id es ps
  owned_at o s r id o' t es ps at =
      let fit = r.is.each id (OfBook o' t es ps) at in
      let same : OfBook o o r.seen r.pairs ≡ OfBook o' t es ps =
      some-injective _ _ (sym r.is.book ∙ (ap (get_elem? s.views) (sym fit.0) ∙ at)) in (
        fit.1,
        sym (ap (told_of o) same),
        subst (λ (x : ℕ × V). KeptAt m o s x.0 (seen_of x.1) (pairs_of x.1)) (λ i. (sym fit.0 i, same i)) r.is,
      )

  -- the same, with the opening as the view has it
  pub owned : (o : O) (s : St) (r : Kept m o s) (id : ℕ) (o' t : O) (es : List E) (ps : List (ℕ × C))
      → get_elem? s.views id ≡ some (OfBook o' t es ps) → (o' ≡ o) × (t ≡ o') × KeptAt m o' s id es ps
  owned o s r id o' t es ps at =
      let h = owned_at o s r id o' t es ps at in
      (h.0, h.1 ∙ sym h.0, subst (λ (x : O). KeptAt m x s id es ps) (sym h.0) h.2)

  -- where there is one view, what fits it fits all
  only : (o : O) (w : V) (j : ℕ) (v : V) → Fits m o 0 [] 0 w → get_elem? (w ∷ []) j ≡ some v → Fits m o 0 [] j v
  only o w zero v fit e = subst (Fits m o 0 [] 0) (some-injective w v e) fit
  only o w (suc j) v fit e = absurd (some-ne-none v (sym e))

  -- a new table keeps the rule
  pub starts : (o : O) → Kept m o (opening (0 ∷ []) [] (at_start m o))
  starts o = record {
    seat = 0;
    seen = [];
    pairs = distinct (m.cells o);
    is = record {
      word = refl;
      book = refl;
      run = tt;
      current = λ k c h. sym (find-distinct (m.cells o) k) ∙ h;
      each = λ j v e. only o (at_start m o) j v (refl, refl) e;
      apart = λ k. let once = count-distinct (m.cells o) k in omega arith;
    };
  }

  -- a step that changes the book's view alone
  pub moved : (o : O) (s : St) (id : ℕ) (es : List E) (ps : List (ℕ × C)) → KeptAt m o s id es ps → (es' : List E) (ps' : List (ℕ × C)) (ws : List ℕ)
      → ws ≡ length es' ∷ [] → IsRun m o es' → AreCurrent m o es' ps'
      → ((j : ℕ) (v : V) → j ≢ id → get_elem? s.views j ≡ some v → Fits m o id es' j v)
      → ((k : ℕ) → total (keys_in k) (set s.views id (OfBook o o es' ps')) ≤ 1)
      → KeptAt m o record { words = ws; homes = s.homes; views = set s.views id (OfBook o o es' ps') } id es' ps'
  moved o s id es ps r es' ps' ws word run current others apart = record {
    word = word;
    book = get_set s.views id (OfBook o o es ps) (OfBook o o es' ps') r.book;
    run = run;
    current = current;
    each = λ j v e. ⊎_elim
        (λ (t : (j ≡ id) × (OfBook o o es' ps' ≡ v)). subst (Fits m o id es' j) t.1 (t.0, refl))
        (λ (t : (j ≢ id) × (get_elem? s.views j ≡ some v)). others j v t.0 t.1)
        (at_set s.views id j (OfBook o o es' ps') v e);
    apart = apart;
  }

  -- a step that writes a word and a view as they were
  unmoved : (o : O) (s : St) (i id : ℕ) (v : V) (cs : List (ℕ × Unit {0})) → get_elem? s.views id ≡ some v → Kept m o s
      → Kept m o (stepped s i (get_or s.words i 0) id cs v keeps)
  unmoved o s i id v cs at r =
      subst (λ (t : List ℕ × List V). Kept m o record { words = t.0; homes = s.homes; views = t.1 })
      (λ k. (sym (set-get_or s.words i 0) k, sym (set_again s.views id v at) k)) r

  -- what the rule tells of a book's view
  knows : (o : O) (s : St) (r : Kept m o s) (id : ℕ) (v : V) → get_elem? s.views id ≡ some v → Knows m (get_or s.words 0 0) v
  knows o s r id Spent at = tt
  knows o s r id (OfHold o' k c) at = tt
  knows o s r id (OfBook o' t es ps) at = let mine = owned o s r id o' t es ps at in let h = mine.2 in (
    ap (λ (l : List ℕ). get_or l 0 0) h.word,
    h.run,
    h.current,
    λ k. let here = one_within_total (keys_in k) s.views id (OfBook o' t es ps) at in let all = h.apart k in omega arith,
    mine.1,
  )

  -- a look keeps the rule and tells it
  pub looks : (slots id : ℕ) (o : O) (me : Me (Unit {0}) V) → Allows (Kept m o) slots id me 0 (λ n. n) (Looks m (step slots 0 0 0 none) me)
  looks slots id o me s r _ at _ = (me.0, keeps, tt, unmoved o s 0 id me.0 me.1 at r, (refl, knows o s r id me.0 at))

  -- at the end the word is the number of the events that the book has seen
  pub closes : (id : ℕ) (o : O) (v : V) (o' : O) (es : List E) (ps : List (ℕ × C)) (ws : List ℕ) (xs : List (Unit {0})) → v ≡ OfBook o' o' es ps
      → Final (Seen (Kept m o) id v) ws xs → ws ≡ length es ∷ []
  closes id o v o' es ps ws xs is final = sym final.2 ∙ (owned o final.0 final.1.0 id o' o' es ps (final.1.1 ∙ ap some is)).2.word
