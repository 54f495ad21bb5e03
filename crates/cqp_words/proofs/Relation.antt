-- The items of words as the machine finds them are those of the definition.
use Rattle.std.proofs.Common.{◌≡◌, List, [], ◌∷◌, ◌++◌, false, Some, None, Option, refl, ap, sym, ◌∙◌, subst}
use Rattle.cqp_words.specs.Items.{Flag, for_workers, for_script, for_seed, for_born, for_rules, Text, option_text, has_hyphen, Item, word, valued, AreItems}
use Rattle.cqp_words.specs.Items.{none, own, joined, apart, Form, plain, alone, with_value, other, form_of, with_item, items_from}
use Rattle.cqp_words.proofs.Bools.{none_some, some_same}
use Rattle.cqp_words.proofs.Forms.{Says, says}
use Rattle.cqp_words.proofs.Walks.{AreKnown}

-- a word without a first hyphen has the plain form
plain_form : (w : Text) → has_hyphen w ≡ false → form_of w ≡ plain
plain_form w h = rw h refl

-- an option with its value behind `=` has that form
joined_form : (f : Flag) (v : Text) → form_of (option_text f ++ 61 ∷ v) ≡ with_value f v
joined_form for_workers v = refl
joined_form for_script v = refl
joined_form for_seed v = refl
joined_form for_born v = refl
joined_form for_rules v = refl

-- an option's text has the form of the option alone
alone_form : (f : Flag) → form_of (option_text f) ≡ alone f
alone_form for_workers = refl
alone_form for_script = refl
alone_form for_seed = refl
alone_form for_born = refl
alone_form for_rules = refl

-- what words are found to be
pub record IsFound (ws : List Text) (is : List Item) : Type 0 where
  pub known : AreKnown ws
  pub found : items_from None ws ≡ Some is

-- words that are items are found to be these
pub found : (ws : List Text) (is : List Item) → AreItems ws is → IsFound ws is
found ws is none = record { known = tt; found = refl }
found ws is (own {w = w} {ws = more_words} {more = more} h m) =
    let r = found more_words more m in
    let form = plain_form w h in
    record { known = (rw form refl, r.known); found = rw (form, r.found) refl }
found ws is (joined {w = w} {ws = more_words} {more = more} f v e m) =
    let r = found more_words more m in
    let form = ap form_of e ∙ joined_form f v in
    record { known = (rw form refl, r.known); found = rw (form, r.found) refl }
found ws is (apart {w = w} {v = v} {ws = more_words} {more = more} f e h m) =
    let r = found more_words more m in
    let form = ap form_of e ∙ alone_form f in
    let next = plain_form v h in
    record { known = (rw form refl, (rw next refl, r.known)); found = rw (form, next, r.found) refl }

-- the words with the option that waits before them
abbrev Waits : Option Flag → List Text → List Item → Type 0
Waits None ws is = AreItems ws is
Waits (Some f) ws is = AreItems (option_text f ∷ ws) is

-- an item before others that were found
before : (i : Item) (o : Option (List Item)) (is : List Item) (P : List Item → Type 0) → with_item i o ≡ Some is
    → ((more : List Item) → o ≡ Some more → P (i ∷ more)) → P is
before i None is P e k = absurd (none_some is e)
before i (Some more) is P e k = let same = some_same (i ∷ more) is e in subst P same (k more refl)

-- and words that are found to be items are these
pub are : (f : Option Flag) (ws : List Text) (is : List Item) → items_from f ws ≡ Some is → Waits f ws is
are None [] is e = let same = some_same [] is e in subst (λ z. AreItems [] z) same none
are (Some f) [] is e = absurd (none_some is e)
are None (w ∷ ws) is e = by (form_of w) refl (says w) (λ g more q. are g ws more q)
  where
    by : (form : Form) → form_of w ≡ form → Says w form
        → ((g : Option Flag) (more : List Item) → items_from g ws ≡ Some more → Waits g ws more) → AreItems (w ∷ ws) is
    by plain q s k = before (word w) (items_from None ws) is (λ z. AreItems (w ∷ ws) z) (rw q at e) (λ more m. own s (k None more m))
    by (alone f) q s k = let m : items_from (Some f) ws ≡ Some is = rw q at e in subst (λ z. AreItems (z ∷ ws) is) (sym s) (k (Some f) is m)
    by (with_value f v) q s k = before (valued f v) (items_from None ws) is (λ z. AreItems (w ∷ ws) z) (rw q at e) (λ more m. joined f v s (k None more m))
    by other q s k = let no : None ≡ Some is = rw q at e in absurd (none_some is no)
are (Some f) (w ∷ ws) is e = by (form_of w) refl (says w) (λ more q. are None ws more q)
  where
    by : (form : Form) → form_of w ≡ form → Says w form
        → ((more : List Item) → items_from None ws ≡ Some more → AreItems ws more) → AreItems (option_text f ∷ w ∷ ws) is
    by plain q s k =
        before (valued f w) (items_from None ws) is (λ z. AreItems (option_text f ∷ w ∷ ws) z) (rw q at e) (λ more m. apart f refl s (k more m))
    by (alone g) q s k = let no : None ≡ Some is = rw q at e in absurd (none_some is no)
    by (with_value g v) q s k = let no : None ≡ Some is = rw q at e in absurd (none_some is no)
    by other q s k = let no : None ≡ Some is = rw q at e in absurd (none_some is no)
