-- The forms of words: what they say of the text.
use Rattle.std.proofs.Common.{◌≡◌, [], ◌∷◌, ◌++◌, true, false, Bool, Some, None, Option, ◌==◌, refl, ap, sym, ◌∙◌, if◌then◌else◌, ◌||◌, append-nil}
use Rattle.cqp_words.specs.Items.{Flag, for_workers, for_script, for_seed, for_born, for_rules, Text, option_text, has_hyphen, Form, plain, alone, with_value}
use Rattle.cqp_words.specs.Items.{other, rest_after, form_by, option_form, form_of, is_known, names_it}
use Rattle.cqp_words.proofs.Bools.{same_number, none_some, some_same}
use Rattle.cqp_words.proofs.Shapes.{IsPlain}

-- a word without a first hyphen is plain to `clap`
pub plain_word : (w : Text) → has_hyphen w ≡ false → IsPlain w
plain_word [] h = record { ends = refl; long = refl; short = refl }
plain_word (x ∷ xs) h = record { ends = rw h refl; long = rw h refl; short = rw h refl }

-- the rest stands behind the prefix
pub rest_is : (p w r : Text) → rest_after p w ≡ Some r → w ≡ p ++ r
rest_is [] w r h = some_same w r h
rest_is (x ∷ xs) [] r h = absurd (none_some r h)
rest_is (x ∷ xs) (y ∷ ys) r h = by (y == x) refl (λ e. rest_is xs ys r e)
  where
    by : (b : Bool) → (y == x) ≡ b → (rest_after xs ys ≡ Some r → ys ≡ xs ++ r) → y ∷ ys ≡ x ∷ xs ++ r
    by true e k =
        let rest : rest_after xs ys ≡ Some r = rw e at h in
        let first = same_number y x e in
        rw (first, k rest) refl
    by false e k =
        let none : None ≡ Some r = rw e at h in
        absurd (none_some r none)

-- what a form says of its word
abbrev pub Says : Text → Form → Type 0
Says w plain = has_hyphen w ≡ false
Says w (alone f) = w ≡ option_text f
Says w (with_value f v) = w ≡ option_text f ++ 61 ∷ v
Says w other = Unit {0}

-- a form that what follows an option's name tells says what it says of the word
says_by : (f : Flag) (w : Text) (r : Option Text) (next : Form) → r ≡ rest_after (option_text f) w → Says w next → Says w (form_by f r next)
says_by f w None next e s = s
says_by f w (Some []) next e s = rest_is (option_text f) w [] (sym e) ∙ append-nil (option_text f)
says_by f w (Some (x ∷ v)) next e s = by (x == 61) refl
  where
    by : (b : Bool) → (x == 61) ≡ b → Says w (if x == 61 then with_value f v else next)
    by true g =
        let same = same_number x 61 g in
        let is = rest_is (option_text f) w (x ∷ v) (sym e) ∙ ap (λ y. option_text f ++ y ∷ v) same in
        rw g is
    by false g = rw g s

-- each word is as its form says
pub says : (w : Text) → Says w (form_of w)
says w = by (has_hyphen w) refl
  where
    by : (b : Bool) → has_hyphen w ≡ b → Says w (if has_hyphen w then option_form w else plain)
    by true g =
        let rules = says_by for_rules w (rest_after (option_text for_rules) w) other refl tt in
        let born = says_by for_born w (rest_after (option_text for_born) w) _ refl rules in
        let seed = says_by for_seed w (rest_after (option_text for_seed) w) _ refl born in
        let script = says_by for_script w (rest_after (option_text for_script) w) _ refl seed in
        rw g (says_by for_workers w (rest_after (option_text for_workers) w) _ refl script)
    by false g = rw g g

-- whether a form is known shows in what follows the options' names
known_by : (f : Flag) (r : Option Text) (next : Form) → is_known (form_by f r next) ≡ (names_it r || is_known next)
known_by f None next = refl
known_by f (Some []) next = refl
known_by f (Some (x ∷ v)) next = by (x == 61) refl
  where
    by : (b : Bool) → (x == 61) ≡ b → is_known (if x == 61 then with_value f v else next) ≡ ((x == 61) || is_known next)
    by true e = rw e refl
    by false e = rw e refl

-- a test or one that fails is the test
or_false : (b : Bool) → (b || false) ≡ b
or_false true = refl
or_false false = refl

-- three tests joined by or hold together in either grouping
or_assoc : (a b c : Bool) → (a || (b || c)) ≡ ((a || b) || c)
or_assoc true b c = refl
or_assoc false b c = refl

-- a word has the form of an option exactly where it begins with the name of one of the five
pub known_option : (w : Text)
    → ((((names_it (rest_after (option_text for_workers) w) || names_it (rest_after (option_text for_script) w))
    || names_it (rest_after (option_text for_seed) w)) || names_it (rest_after (option_text for_born) w))
    || names_it (rest_after (option_text for_rules) w)) ≡ is_known (option_form w)
known_option w =
    let a = rest_after (option_text for_workers) w in
    let b = rest_after (option_text for_script) w in
    let c = rest_after (option_text for_seed) w in
    let d = rest_after (option_text for_born) w in
    let e = rest_after (option_text for_rules) w in
    let last = known_by for_rules e other ∙ or_false (names_it e) in
    let fourth = known_by for_born d (form_by for_rules e other) ∙ ap (λ z. names_it d || z) last in
    let third = known_by for_seed c _ ∙ ap (λ z. names_it c || z) fourth in
    let second = known_by for_script b _ ∙ ap (λ z. names_it b || z) third in
    let all = known_by for_workers a _ ∙ ap (λ z. names_it a || z) second in
    sym (
    all ∙ or_assoc (names_it a) (names_it b) (names_it c || (names_it d || names_it e))
    ∙ or_assoc (names_it a || names_it b) (names_it c) (names_it d || names_it e)
    ∙ or_assoc ((names_it a || names_it b) || names_it c) (names_it d) (names_it e)
    )
