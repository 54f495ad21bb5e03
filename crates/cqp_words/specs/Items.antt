-- The words of a command line as items: words of their own, and options with their values.
use Rattle.std.specs.Prelude.{◌≡◌, ℕ, List, [], ◌∷◌, ◌++◌, ◌==◌, Bool, true, false, not, Option}
use Rattle.std.specs.Prelude.{Some, None, codes, if◌then◌else◌, option_map}

-- a word, as its bytes
abbrev pub Text : Type 0
Text = List ℕ

-- an option, which has a value
pub data Flag : Type 0 where
  for_workers : Flag
  for_script : Flag
  for_seed : Flag
  for_born : Flag
  for_rules : Flag

-- the name of an option
abbrev pub flag_id : Flag → Text
flag_id for_workers = codes "workers"
flag_id for_script = codes "script"
flag_id for_seed = codes "seed"
flag_id for_born = codes "born"
flag_id for_rules = codes "rules"

-- `--name`
abbrev pub option_text : Flag → Text
option_text f = 45 ∷ 45 ∷ flag_id f

-- a word begins with `-`
abbrev pub has_hyphen : Text → Bool
has_hyphen [] = false
has_hyphen (x ∷ xs) = x == 45

-- the first word begins with no hyphen
abbrev pub starts : List Text → Bool
starts [] = false
starts (w ∷ ws) = not (has_hyphen w)

-- a word of its own, or an option with its value
pub data Item : Type 0 where
  word : Text → Item
  valued : Flag → Text → Item

-- the words are these items, in order: a word of its own; an option `--name=value`; or an option
-- `--name` with its value, which begins with no hyphen, in the next word
pub data AreItems : List Text → List Item → Type 0 where
  none : AreItems [] []
  own : {w : Text} {ws : List Text} {more : List Item} → has_hyphen w ≡ false → AreItems ws more
      → AreItems (w ∷ ws) (word w ∷ more)
  joined : {w : Text} {ws : List Text} {more : List Item} (f : Flag) (v : Text)
      → w ≡ option_text f ++ 61 ∷ v → AreItems ws more → AreItems (w ∷ ws) (valued f v ∷ more)
  apart : {w v : Text} {ws : List Text} {more : List Item} (f : Flag) → w ≡ option_text f
      → has_hyphen v ≡ false → AreItems ws more → AreItems (w ∷ v ∷ ws) (valued f v ∷ more)

-- what a word is by itself
pub data Form : Type 0 where
  plain : Form
  alone : Flag → Form
  with_value : Flag → Text → Form
  other : Form

-- what follows the first text in the second
abbrev pub rest_after : Text → Text → Option Text
rest_after [] w = Some w
rest_after (x ∷ xs) [] = None
rest_after (x ∷ xs) (y ∷ ys) = if y == x then rest_after xs ys else None

-- the form by what follows the option's name
abbrev pub form_by : Flag → Option Text → Form → Form
form_by f None next = next
form_by f (Some []) next = alone f
form_by f (Some (x ∷ v)) next = if x == 61 then with_value f v else next

-- the form of a word that begins with a hyphen
abbrev pub option_form : Text → Form
option_form w =
    form_by for_workers (rest_after (option_text for_workers) w)
    (form_by for_script (rest_after (option_text for_script) w)
    (form_by for_seed (rest_after (option_text for_seed) w)
    (form_by for_born (rest_after (option_text for_born) w)
    (form_by for_rules (rest_after (option_text for_rules) w) other))))

-- the form of a word
abbrev pub form_of : Text → Form
form_of w = if has_hyphen w then option_form w else plain

-- the word begins with no hyphen, or is an option
abbrev pub is_known : Form → Bool
is_known other = false
is_known form = true

-- an item before others that may be there
abbrev pub with_item : Item → Option (List Item) → Option (List Item)
with_item i = option_map (λ more. i ∷ more)

-- what a word does where an option waits for its value, or none does
abbrev pub step : Option Flag → Form → Text → (Option Flag → Option (List Item))
    → Option (List Item)
step None plain w next = with_item (word w) (next None)
step None (alone f) w next = next (Some f)
step None (with_value f v) w next = with_item (valued f v) (next None)
step (Some f) plain w next = with_item (valued f w) (next None)
step waiting form w next = None

-- the items of words
abbrev pub items_from : Option Flag → List Text → Option (List Item)
items_from None [] = Some []
items_from (Some f) [] = None
items_from waiting (w ∷ ws) = step waiting (form_of w) w (λ next. items_from next ws)

-- what follows an option's name shows that the word is the option
abbrev pub names_it : Option Text → Bool
names_it None = false
names_it (Some []) = true
names_it (Some (x ∷ v)) = x == 61

-- the words of their own
abbrev pub words_of : List Item → List Text
words_of [] = []
words_of (word w ∷ is) = w ∷ words_of is
words_of (valued f v ∷ is) = words_of is

-- the options are the same
abbrev pub same_flag : Flag → Flag → Bool
same_flag for_workers for_workers = true
same_flag for_script for_script = true
same_flag for_seed for_seed = true
same_flag for_born for_born = true
same_flag for_rules for_rules = true
same_flag f g = false

-- the values of an option
abbrev pub values_of : Flag → List Item → List Text
values_of f [] = []
values_of f (word w ∷ is) = values_of f is
values_of f (valued g v ∷ is) = if same_flag f g then v ∷ values_of f is else values_of f is
