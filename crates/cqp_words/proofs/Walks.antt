-- Law: `clap` reads words as the items that they are, and refuses all others.
use Rattle.std.proofs.Common.{◌≡◌, List, [], ◌∷◌, true, false, Bool, Some, None, Option, refl, ap, sym, ◌∙◌, fold, subst}
use Rattle.clap.specs.Walk.{Row, option, Walk, walked, settled_rows}
use Rattle.clap.specs.declared.error.kind.ErrorKind.{ErrorKind}
use Rattle.clap.specs.declared.error.kind.ErrorKind.TheVariants.{InvalidValue}
use Rattle.clap.specs.Kinds.{Kinds, or_else}
use Rattle.clap.specs.Faults.{turn_fault, walk_fault, settle_fault}
use Rattle.cqp_words.specs.Items.{Flag, Text, flag_id, option_text, Item, word, valued, Form, plain, alone, with_value, other, form_of, is_known, with_item}
use Rattle.cqp_words.specs.Items.{step, items_from}
use Rattle.cqp_words.specs.Apps.{shape, rules}
use Rattle.cqp_words.proofs.Bools.{fails, none_some, some_same}
use Rattle.cqp_words.proofs.Forms.{Says, says, plain_word}
use Rattle.cqp_words.proofs.Shapes.{at_word, added, pending_item, flushed, resting, settles, settles_well, settles_badly, plain_moves, plain_passes}
use Rattle.cqp_words.proofs.Shapes.{joined_moves, joined_passes, alone_moves, alone_passes, value_moves, value_passes, joined_fails, alone_fails}

-- the rows with more items
abbrev pub all_added : List Item → List Row → List Row
all_added [] rows = rows
all_added (i ∷ is) rows = all_added is (added i rows)

-- where a walk stands: between items, or behind an option that wants its value
pub data Place : Type 0 where
  rest : Option Item → Bool → Place
  wants : Flag → Place

-- the walk at a place, with these rows
abbrev pub walk_at : Place → List Row → Walk
walk_at (rest p b) rows = at_word rows (pending_item p) (resting b)
walk_at (wants f) rows = at_word rows (Some (flag_id f, [])) (option (flag_id f))

-- the rows with what is pending at a place
abbrev pub rows_at : Place → List Row → List Row
rows_at (rest p b) rows = flushed p rows
rows_at (wants f) rows = rows

-- the option that wants its value at a place
abbrev pub wanting : Place → Option Flag
wanting (rest p b) = None
wanting (wants f) = Some f

-- where a walk ends
abbrev pub end_of : Walk → List Text → Walk
end_of w words = fold (walked rules []) w words

-- the kinds of error on a walk and at its end
abbrev pub total : Walk → List Text → Kinds
total w words = or_else (walk_fault shape [] w words) (settle_fault rules false (end_of w words).held)

-- a walk reads these items, or fails
pub record Reads (w : Walk) (words : List Text) (rows : List Row) (items : Option (List Item)) : Type 0 where
  pub fine : (is : List Item) → items ≡ Some is
      → (total w words ≡ []) × (settled_rows rules (end_of w words).held.pending (end_of w words).held.rows ≡ all_added is rows)
  pub bad : items ≡ None → total w words ≡ [] → ⊥

-- each word has a form that is known
abbrev pub AreKnown : List Text → Type 0
AreKnown [] = Unit {0}
AreKnown (w ∷ ws) = (is_known (form_of w) ≡ true) × AreKnown ws

-- something is not nothing
some_none : {X : Type 0} (x : X) → Some x ≡ None → ⊥
some_none x e = cc

-- a list that has an item is not empty
filled : (k : ErrorKind) (ks : Kinds) → k ∷ ks ≡ [] → ⊥
filled k ks e = cc

-- a word that moves on without a fault
moves : (w next : Walk) (x : Text) (ws : List Text) (rows : List Row) (items : Option (List Item))
    → turn_fault shape [] w x ≡ [] → walked rules [] w x ≡ next
    → Reads next ws rows items → Reads w (x ∷ ws) rows items
unfolding walk_fault
moves w next x ws rows items passes is r =
    subst (λ z. Reads z ws rows items → Reads w (x ∷ ws) rows items) is
    (λ q. record {
      fine = λ found e. (rw passes (q.fine found e).0, (q.fine found e).1);
      bad = λ e t. q.bad e (rw passes at t);
    }) r

-- a word that is refused
refused : (w : Walk) (x : Text) (ws : List Text) (rows : List Row) (k : ErrorKind) (ks : Kinds)
    → turn_fault shape [] w x ≡ k ∷ ks → Reads w (x ∷ ws) rows None
unfolding walk_fault
refused w x ws rows k ks fault = record {
  fine = λ found e. absurd (none_some found e);
  bad = λ e t. filled k ks (rw fault at t);
}

-- one more item before those that follow
first : (w : Walk) (words : List Text) (rows : List Row) (i : Item) (items : Option (List Item))
    → Reads w words (added i rows) items → Reads w words rows (with_item i items)
first w words rows i None r = record { fine = λ found e. absurd (none_some found e); bad = λ e t. r.bad refl t }
first w words rows i (Some more) r = record {
  fine = λ found e.
      let same = some_same (i ∷ more) found e in
      subst (λ z. (total w words ≡ []) × (settled_rows rules (end_of w words).held.pending (end_of w words).held.rows ≡ all_added z rows)) same
      (r.fine more refl);
  bad = λ e t. absurd (some_none (i ∷ more) e);
}

-- the law, from any place
pub reads : (at : Place) (rows : List Row) (words : List Text) → AreKnown words
    → Reads (walk_at at rows) words (rows_at at rows) (items_from (wanting at) words)
unfolding walk_fault
reads (rest p b) rows [] k = record {
  fine = λ is e. let same = some_same [] is e in (settles_well p rows, settles p rows ∙ ap (λ z. all_added z (flushed p rows)) same);
  bad = λ e t. absurd (some_none [] e);
}
reads (wants f) rows [] k = record { fine = λ is e. absurd (none_some is e); bad = λ e t. filled InvalidValue [] (rw (settles_badly f rows) at t) }
reads (rest p b) rows (w ∷ ws) k = by (form_of w) refl (says w) k.0 (λ place more. reads place more ws k.1)
  where
    by : (form : Form) → form_of w ≡ form → Says w form → is_known form ≡ true
        → ((place : Place) (more : List Row) → Reads (walk_at place more) ws (rows_at place more) (items_from (wanting place) ws))
        → Reads (walk_at (rest p b) rows) (w ∷ ws) (flushed p rows) (step None form w (λ next. items_from next ws))
    by plain e s known later =
        moves _ _ w ws _ _ (plain_passes p b rows w (plain_word w s)) (plain_moves p b rows w (plain_word w s))
        (first _ ws (flushed p rows) (word w) _ (later (rest (Some (word w)) true) (flushed p rows)))
    by (alone f) e s known later =
        subst (λ z. Reads (walk_at (rest p b) rows) (z ∷ ws) (flushed p rows) (items_from (Some f) ws)) (sym s)
        (moves _ _ (option_text f) ws _ _ (alone_passes p b rows f) (alone_moves p b rows f) (later (wants f) (flushed p rows)))
    by (with_value f v) e s known later =
        subst (λ z. Reads (walk_at (rest p b) rows) (z ∷ ws) (flushed p rows) (with_item (valued f v) (items_from None ws))) (sym s)
        (moves _ _ _ ws _ _ (joined_passes p b rows f v) (joined_moves p b rows f v)
        (first _ ws (flushed p rows) (valued f v) _ (later (rest None false) (added (valued f v) (flushed p rows)))))
    by other e s known later = absurd (fails known)
reads (wants f) rows (w ∷ ws) k = by (form_of w) refl (says w) k.0 (λ place more. reads place more ws k.1)
  where
    by : (form : Form) → form_of w ≡ form → Says w form → is_known form ≡ true
        → ((place : Place) (more : List Row) → Reads (walk_at place more) ws (rows_at place more) (items_from (wanting place) ws))
        → Reads (walk_at (wants f) rows) (w ∷ ws) rows (step (Some f) form w (λ next. items_from next ws))
    by plain e s known later =
        moves _ _ w ws _ _ (value_passes f rows w (plain_word w s)) (value_moves f rows w (plain_word w s))
        (first _ ws rows (valued f w) _ (later (rest (Some (valued f w)) false) rows))
    by (alone g) e s known later =
        subst (λ z. Reads (walk_at (wants f) rows) (z ∷ ws) rows None) (sym s) (refused _ (option_text g) ws rows InvalidValue [] (alone_fails f g rows))
    by (with_value g v) e s known later =
        subst (λ z. Reads (walk_at (wants f) rows) (z ∷ ws) rows None) (sym s) (refused _ _ ws rows InvalidValue [] (joined_fails f g rows v))
    by other e s known later = absurd (fails known)
