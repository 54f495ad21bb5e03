-- The values that are found of items.
use Rattle.std.proofs.Common.{◌≡◌, List, [], ◌∷◌, ◌++◌, true, false, Bool, refl, ap, sym, ◌∙◌, codes, bytes_eq, if◌then◌else◌, append_assoc, append-nil}
use Rattle.clap.specs.Walk.{Row}
use Rattle.cqp_words.specs.Items.{Flag, for_workers, for_script, for_seed, for_born, for_rules, Text, flag_id, Item, word, valued, words_of, values_of}
use Rattle.cqp_words.specs.Items.{same_flag}
use Rattle.cqp_words.specs.Given.{values_at}
use Rattle.cqp_words.proofs.Shapes.{more, added}
use Rattle.cqp_words.proofs.Walks.{all_added}
use Rattle.cqp_words.proofs.Bools.{fails, same_text}

-- one more value of an argument stands behind its others
own_more : (id v : Text) (rows : List Row) → bytes_eq id id ≡ true → values_at id (more id v rows) ≡ values_at id rows ++ v ∷ []
own_more id v [] same = rw same refl
own_more id v (r ∷ rs) same = by (bytes_eq r.id id) refl (own_more id v rs same)
  where
    by : (b : Bool) → bytes_eq r.id id ≡ b → values_at id (more id v rs) ≡ values_at id rs ++ v ∷ []
        → values_at id (more id v (r ∷ rs)) ≡ values_at id (r ∷ rs) ++ v ∷ []
    by true e k = rw (e, e) refl
    by false e k = rw (e, e) k

-- one more value of an argument leaves those of another
other_more : (id other v : Text) (rows : List Row) → bytes_eq other id ≡ false
    → ((r : Row) → bytes_eq r.id other ≡ true → bytes_eq r.id id ≡ false) → values_at id (more other v rows) ≡ values_at id rows
other_more id other v [] differ apart = rw differ refl
other_more id other v (r ∷ rs) differ apart = by (bytes_eq r.id other) refl (other_more id other v rs differ apart)
  where
    by : (b : Bool) → bytes_eq r.id other ≡ b → values_at id (more other v rs) ≡ values_at id rs
        → values_at id (more other v (r ∷ rs)) ≡ values_at id (r ∷ rs)
    by true e k = let no = apart r e in rw (e, no) refl
    by false e k = on (bytes_eq r.id id) refl
      where
        on : (c : Bool) → bytes_eq r.id id ≡ c → values_at id (more other v (r ∷ rs)) ≡ values_at id (r ∷ rs)
        on true g = rw (e, g) refl
        on false g = rw (e, g) k

-- a row of one name is of no other
apart_from : (id other : Text) → bytes_eq other id ≡ false → (r : Row) → bytes_eq r.id other ≡ true → bytes_eq r.id id ≡ false
apart_from id other differ r same = let is : r.id ≡ other = same_text r.id other same in rw is differ

-- the words with one item more
word_added : (i : Item) (rows : List Row) → values_at (codes "word") (added i rows) ≡ values_at (codes "word") rows ++ words_of (i ∷ [])
word_added (word w) rows = own_more (codes "word") w rows refl
word_added (valued f v) rows =
    other_more (codes "word") (flag_id f) v rows (differs f) (apart_from (codes "word") (flag_id f) (differs f)) ∙ sym (append-nil _)
  where
    differs : (f : Flag) → bytes_eq (flag_id f) (codes "word") ≡ false
    differs for_workers = refl
    differs for_script = refl
    differs for_seed = refl
    differs for_born = refl
    differs for_rules = refl

-- no option has the name of the words
word_differs : (f : Flag) → bytes_eq (codes "word") (flag_id f) ≡ false
word_differs for_workers = refl
word_differs for_script = refl
word_differs for_seed = refl
word_differs for_born = refl
word_differs for_rules = refl

-- an option's name is itself
flag_is : (f : Flag) → bytes_eq (flag_id f) (flag_id f) ≡ true
flag_is for_workers = refl
flag_is for_script = refl
flag_is for_seed = refl
flag_is for_born = refl
flag_is for_rules = refl

-- options have one name exactly where they are the same
flag_eq : (f g : Flag) → bytes_eq (flag_id g) (flag_id f) ≡ same_flag f g
flag_eq for_workers for_workers = refl
flag_eq for_workers for_script = refl
flag_eq for_workers for_seed = refl
flag_eq for_workers for_born = refl
flag_eq for_workers for_rules = refl
flag_eq for_script for_workers = refl
flag_eq for_script for_script = refl
flag_eq for_script for_seed = refl
flag_eq for_script for_born = refl
flag_eq for_script for_rules = refl
flag_eq for_seed for_workers = refl
flag_eq for_seed for_script = refl
flag_eq for_seed for_seed = refl
flag_eq for_seed for_born = refl
flag_eq for_seed for_rules = refl
flag_eq for_born for_workers = refl
flag_eq for_born for_script = refl
flag_eq for_born for_seed = refl
flag_eq for_born for_born = refl
flag_eq for_born for_rules = refl
flag_eq for_rules for_workers = refl
flag_eq for_rules for_script = refl
flag_eq for_rules for_seed = refl
flag_eq for_rules for_born = refl
flag_eq for_rules for_rules = refl

-- options that pass the test of sameness are equal
flag_same : (f g : Flag) → same_flag f g ≡ true → g ≡ f
flag_same for_workers for_workers h = refl
flag_same for_workers for_script h = absurd (fails h)
flag_same for_workers for_seed h = absurd (fails h)
flag_same for_workers for_born h = absurd (fails h)
flag_same for_workers for_rules h = absurd (fails h)
flag_same for_script for_workers h = absurd (fails h)
flag_same for_script for_script h = refl
flag_same for_script for_seed h = absurd (fails h)
flag_same for_script for_born h = absurd (fails h)
flag_same for_script for_rules h = absurd (fails h)
flag_same for_seed for_workers h = absurd (fails h)
flag_same for_seed for_script h = absurd (fails h)
flag_same for_seed for_seed h = refl
flag_same for_seed for_born h = absurd (fails h)
flag_same for_seed for_rules h = absurd (fails h)
flag_same for_born for_workers h = absurd (fails h)
flag_same for_born for_script h = absurd (fails h)
flag_same for_born for_seed h = absurd (fails h)
flag_same for_born for_born h = refl
flag_same for_born for_rules h = absurd (fails h)
flag_same for_rules for_workers h = absurd (fails h)
flag_same for_rules for_script h = absurd (fails h)
flag_same for_rules for_seed h = absurd (fails h)
flag_same for_rules for_born h = absurd (fails h)
flag_same for_rules for_rules h = refl

-- the values of an option with one item more
flag_added : (f : Flag) (i : Item) (rows : List Row) → values_at (flag_id f) (added i rows) ≡ values_at (flag_id f) rows ++ values_of f (i ∷ [])
flag_added f (word w) rows =
    other_more (flag_id f) (codes "word") w rows (word_differs f) (apart_from (flag_id f) (codes "word") (word_differs f)) ∙ sym (append-nil _)
flag_added f (valued g v) rows = by (same_flag f g) refl
  where
    by : (b : Bool) → same_flag f g ≡ b
        → values_at (flag_id f) (more (flag_id g) v rows) ≡ values_at (flag_id f) rows ++ (if same_flag f g then v ∷ [] else [])
    by true e =
        let is = flag_same f g e in
        rw (e, is) (own_more (flag_id f) v rows (flag_is f))
    by false e =
        let differ : bytes_eq (flag_id g) (flag_id f) ≡ false = flag_eq f g ∙ e in
        rw e (other_more (flag_id f) (flag_id g) v rows differ (apart_from (flag_id f) (flag_id g) differ) ∙ sym (append-nil _))

-- the words of an item and of those behind it
word_first : (i : Item) (is : List Item) → words_of (i ∷ is) ≡ words_of (i ∷ []) ++ words_of is
word_first (word w) is = refl
word_first (valued f v) is = refl

-- the values that an item and those behind it give an option
flag_first : (f : Flag) (i : Item) (is : List Item) → values_of f (i ∷ is) ≡ values_of f (i ∷ []) ++ values_of f is
flag_first f (word w) is = refl
flag_first f (valued g v) is = by (same_flag f g)
  where
    by : (b : Bool) → (if b then v ∷ values_of f is else values_of f is) ≡ (if b then v ∷ [] else []) ++ values_of f is
    by true = refl
    by false = refl

-- the words that are found with all items
pub words_found : (is : List Item) (rows : List Row) → values_at (codes "word") (all_added is rows) ≡ values_at (codes "word") rows ++ words_of is
words_found [] rows = sym (append-nil _)
words_found (i ∷ is) rows =
    words_found is (added i rows) ∙ ap (λ z. z ++ words_of is) (word_added i rows)
    ∙ append_assoc (values_at (codes "word") rows) (words_of (i ∷ [])) (words_of is)
    ∙ ap (λ z. values_at (codes "word") rows ++ z) (sym (word_first i is))

-- the values of an option that are found with all items
pub options_found : (f : Flag) (is : List Item) (rows : List Row) → values_at (flag_id f) (all_added is rows) ≡ values_at (flag_id f) rows ++ values_of f is
options_found f [] rows = sym (append-nil _)
options_found f (i ∷ is) rows =
    options_found f is (added i rows) ∙ ap (λ z. z ++ values_of f is) (flag_added f i rows)
    ∙ append_assoc (values_at (flag_id f) rows) (values_of f (i ∷ [])) (values_of f is)
    ∙ ap (λ z. values_at (flag_id f) rows ++ z) (sym (flag_first f i is))
