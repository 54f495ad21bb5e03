-- What a book keeps inside stays so, and what its pairs become.
use Rattle.std.proofs.Common.{◌≡◌, ◌+◌, ◌^◌, ◌<◌, ◌∷◌, ◌++◌, ◌∙◌}
use Rattle.std.proofs.Common.{ℕ, true, cond, List, [], length, Option, Some, None, refl, sym, ap}
use Rattle.std.proofs.Common.{subst, arith, length-append, eq-eqb, ne_eqb, eqb}
use mathlib.Core.Logic.{dite}
use native.Mathlib.Decide.{ℕ_discrete}
use Rattle.atomic_table.specs.Table.{Me}
use Rattle.atomic_table.specs.Seated.{TableId}
use Rattle.cqp_book.specs.Keys.{find}
use Rattle.cqp_book.specs.Pairs.{count}
use Rattle.cqp_book.specs.Meaning.{Meaning}
use Rattle.cqp_book.specs.Run.{front_after, cell_after, IsRun}
use Rattle.cqp_book.specs.Laws.{IsLawful}
use Rattle.cqp_book.specs.Views.{pairs_of}
use Rattle.cqp_book.specs.Rule.{at_start}
use Rattle.cqp_book.specs.Steps.{appended, Knows, kept_back, joined, CanAppend}
use Rattle.cqp_book.specs.Inside.{IsBook}
use Rattle.cqp_book.specs.declared.view.View.{View}
use Rattle.cqp_book.specs.declared.view.View.TheVariants.{OfBook, OfHold}
use Rattle.cqp_book.proofs.PairLemmas.{find-without_same, find-without_other, count-without_same}
use Rattle.cqp_book.proofs.PairLemmas.{count-without_other}
use Rattle.cqp_book.proofs.PairLemmas.{count-distinct, find-distinct, find_counts}
use Rattle.cqp_book.proofs.RunLemmas.{front_after-snoc}
use Rattle.cqp_book.proofs.Sealed.{whole, run_after, current_after, find_after, count_after}
use Rattle.cqp_book.proofs.Sealed.{away_after}
use Rattle.cqp_book.proofs.Handed.{current_without}

-- no cell is there
none_of : {C : Type 0} (x : Option C) → ((d : C) → x ≡ Some d → ⊥) → x ≡ None
none_of None h = refl
none_of (Some d) h = absurd (h d refl)

module _ {O F C E : Type 0} (m : Meaning O F C E) where
  -- a seat, as contracts see it
  abbrev Sat : Type 0
  Sat = Me (Unit {0}) (View O C E)

  -- a new book keeps what it is to keep
  pub book_starts : (id of : TableId) (key : O) (me : Sat) (front : F) (events : List E) (room reserve : ℕ) (o : O) → of ≡ id → id.words ≡ 1
      → id.slots ≡ 0 → key ≡ o → me ≡ (at_start m o, []) → front ≡ m.front o → events ≡ [] → room ≡ reserve → reserve < 2 ^ 32
      → IsBook m id key of me front events room reserve
  book_starts id of key me front events room reserve o same one none is_key view is_front empty roomy small =
      subst (λ (t : O × (Sat × (F × List E))). IsBook m id t.0 of t.1.0 t.1.1.0 t.1.1.1 room reserve)
      (λ i. (sym is_key i, (sym view i, (sym is_front i, sym empty i))))
      record {
        table = same;
        one_word = one;
        no_slot = none;
        view = refl;
        front_is = refl;
        run = tt;
        current = λ k c h. sym (find-distinct (m.cells o) k) ∙ h;
        single = count-distinct (m.cells o);
        roomy = omega arith;
        within = omega arith;
        small = small;
      }

  -- what is found in a new book
  pub find_start : (me : Sat) (o : O) → me ≡ (at_start m o, []) → (k : ℕ) → find (pairs_of me.0) k ≡ find (m.cells o) k
  find_start me o view k = ap (λ (x : Sat). find (pairs_of x.0) k) view ∙ find-distinct (m.cells o) k

  -- what a look tells after a hold was taken in: its cell is the history's, its key wasn't with the book, and its opening is the book's
  pub learned : {me me' hold : Sat} {o o' : O} {es : List E} {ps : List (ℕ × C)} {cs cs' : List (ℕ × Unit {0})} {k : ℕ} {c : C}
      → me ≡ (OfBook o o es ps, cs) → hold ≡ (OfHold o' k c, cs') → me' ≡ (joined me.0 hold.0, me.1) → (n : ℕ) × Knows m n me'.0
      → (cell_after m o es k ≡ Some c) × (find ps k ≡ None) × (o' ≡ o)
  learned {me} {me'} {hold} {o} {o'} {es} {ps} {cs} {cs'} {k} {c} of_book of_hold taken known =
      let is : me'.0 ≡ OfBook o o' es ((k, c) ∷ ps) = ap (λ (x : Sat). x.0) taken ∙ (λ i. joined (of_book i).0 (of_hold i).0) in
      let told = subst (λ (x : View O C E). (n : ℕ) × Knows m n x) is known in
      let head : eqb k k ≡ true = eq-eqb k k refl in
      let one = told.1.3 k in
      let longer : count k ((k, c) ∷ ps) ≡ count k ps + 1 = rw head refl in (
        told.1.2 k c (rw head refl),
        none_of (find ps k) (λ d h. let more = find_counts ps k d h in omega arith),
        told.1.4,
      )

  -- a book that took a hold in keeps what it is to keep, by what a look tells
  pub book_adds : {id of : TableId} {o o' : O} {me hold : Sat} {front : F} {events : List E} {room reserve : ℕ} {k : ℕ} {c : C}
      {cs : List (ℕ × Unit {0})} → IsBook m id o of me front events room reserve → hold ≡ (OfHold o' k c, cs) → (n : ℕ) × Knows m n (joined me.0 hold.0)
      → IsBook m id o of (joined me.0 hold.0, me.1) front events room reserve
  book_adds {id} {of} {o} {o'} {me} {hold} {front} {events} {room} {reserve} {k} {c} b of_hold known =
      let ps : List (ℕ × C) = (k, c) ∷ pairs_of me.0 in
      let is : (joined me.0 hold.0, me.1) ≡ (OfBook o o' events ps, []) = λ i. (joined (b.view i).0 (of_hold i).0, (b.view i).1) in
      let told = subst (λ (x : Sat). (n : ℕ) × Knows m n x.0) is known in
      let whole = is ∙ ap (λ (x : O). (OfBook o x events ps, [])) told.1.4 in
      subst (λ (v : Sat). IsBook m id o of v front events room reserve) (sym whole) record {
        table = b.table;
        one_word = b.one_word;
        no_slot = b.no_slot;
        view = refl;
        front_is = b.front_is;
        run = told.1.1;
        current = told.1.2;
        single = told.1.3;
        roomy = b.roomy;
        within = b.within;
        small = b.small;
      }

  -- a book that gave a key keeps what it is to keep
  pub book_gives : {id of : TableId} {o : O} {me : Sat} {front : F} {events : List E} {room reserve : ℕ} (key : ℕ)
      → IsBook m id o of me front events room reserve
      → IsBook m id o of (kept_back (Some key) me.0, me.1) front events room reserve
  book_gives {id} {of} {o} {me} {front} {events} {room} {reserve} key b =
      let ps : List (ℕ × C) = pairs_of me.0 in
      subst (λ (v : Sat). IsBook m id o of (kept_back (Some key) v.0, v.1) front events room reserve) (sym b.view) record {
        table = b.table;
        one_word = b.one_word;
        no_slot = b.no_slot;
        view = refl;
        front_is = b.front_is;
        run = b.run;
        current = current_without m o events ps key b.current;
        single = λ k. dite (ℕ_discrete k key)
            (λ e. let none_left = count-without_same key k ps e in omega arith)
            (λ n. let same = count-without_other key k ps n in let one = b.single k in omega arith);
        roomy = b.roomy;
        within = b.within;
        small = b.small;
      }

  -- what is found in a book that gave a key
  pub find_given : (me : Sat) (o : O) (events : List E) (key : ℕ) → me ≡ (OfBook o o events (pairs_of me.0), [])
      → (k : ℕ) → find (pairs_of (kept_back (Some key) me.0)) k ≡ cond (eqb k key) None (find (pairs_of me.0) k)
  find_given me o events key view k = ap (λ (x : Sat). find (pairs_of (kept_back (Some key) x.0)) k) view ∙ dite (ℕ_discrete k key)
      (λ e. rw (eq-eqb k key e) (find-without_same key k (pairs_of me.0) e))
      (λ n. rw (ne_eqb k key n) (find-without_other key k (pairs_of me.0) n))

  module _ (lawful : IsLawful m) {id of : TableId} {o : O} {me : Sat} {front : F} {events : List E} {room reserve : ℕ} {e : E}
      (b : IsBook m id o of me front events room reserve) (can : CanAppend m e o events (pairs_of me.0)) where
    -- the book's pairs
    abbrev ps : List (ℕ × C)
    ps = pairs_of me.0

    -- the event is enabled on all cells
    pub enabled_whole : m.Enabled o (front_after m o events) (cell_after m o events) e
    enabled_whole = (whole m lawful can b.current b.run).0

    -- the history with it is a run
    pub run_sealed : IsRun m o (events ++ e ∷ [])
    run_sealed = run_after m lawful can b.current b.run

    -- what is found in a book that sealed the event
    pub find_sealed : (k : ℕ) → find (pairs_of (appended m (Some e) me.0)) k ≡ m.after o (front_after m o events) (find ps) e k
    find_sealed k =
        ap (λ (x : Sat). find (pairs_of (appended m (Some e) x.0)) k) b.view ∙ find_after m lawful can b.current b.run k

    -- a live key that isn't with the book stays away, with its cell
    pub away_sealed : (k : ℕ) (c : C) → cell_after m o events k ≡ Some c → find ps k ≡ None
        → (cell_after m o (events ++ e ∷ []) k ≡ Some c) × (find (pairs_of (appended m (Some e) me.0)) k ≡ None)
    away_sealed k c live away =
        let h = away_after m lawful can b.current b.run k c live away in
        (h.0, ap (λ (x : Sat). find (pairs_of (appended m (Some e) x.0)) k) b.view ∙ h.1)

    -- a book that sealed the event keeps what it is to keep
    pub book_seals : length events < reserve → IsBook m id o of (appended m (Some e) me.0, me.1) (m.next front e) (events ++ e ∷ []) room reserve
    book_seals some_room =
        subst (λ (v : Sat). IsBook m id o of (appended m (Some e) v.0, v.1) (m.next front e) (events ++ e ∷ []) room reserve) (sym b.view) record {
          table = b.table;
          one_word = b.one_word;
          no_slot = b.no_slot;
          view = refl;
          front_is = ap (λ (f : F). m.next f e) b.front_is ∙ sym (front_after-snoc m o events e);
          run = run_sealed;
          current = current_after m lawful can b.current b.run;
          single = count_after m lawful can b.current b.run b.single;
          roomy = b.roomy;
          within = omega (arith, length-append events (e ∷ []));
          small = b.small;
        }
