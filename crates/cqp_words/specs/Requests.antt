-- What words ask for.
use Rattle.std.specs.Prelude.{◌≡◌, ℕ, ◌≤◌, List, [], ◌∷◌, length, codes, decimal, Bool, ◌==◌}
use Rattle.std.specs.List.{slice_split}
use Rattle.cqp_words.specs.Items.{Flag, for_workers, for_script, for_seed, for_born, for_rules}
use Rattle.cqp_words.specs.Items.{Text, Item, word, AreItems, words_of, values_of}
use Rattle.cqp_words.specs.declared.rules.Watched.{Watched}
use Rattle.cqp_words.specs.declared.rules.Watched.TheVariants as watched
use Rattle.cqp_words.specs.declared.choice.Choice.{Choice}
use Rattle.cqp_words.specs.declared.choice.Choice.TheVariants as by
use Rattle.cqp_words.specs.declared.request.Request.{Request}
use Rattle.cqp_words.specs.declared.request.Request.TheVariants as ask

-- a number from least to most, in decimal
pub record IsNumber (text : Text) (least most n : ℕ) : Type 0 where
  pub text_is : text ≡ decimal n
  pub at_least : least ≤ n
  pub at_most : n ≤ most

-- how many workers: none without the option
abbrev pub IsWorkers : List Text → ℕ → Type 0
IsWorkers [] w = w ≡ 0
IsWorkers (t ∷ []) w = IsNumber t 0 16 w
IsWorkers ts w = ⊥

-- the byte of `,`
abbrev pub is_comma : ℕ → Bool
is_comma b = b == 44

-- each text says what stands at its place
abbrev pub AreSaid : {X : Type 0} → (Text → X → Type 0) → List Text → List X → Type 0
AreSaid says [] xs = xs ≡ []
AreSaid says (t ∷ ts) [] = ⊥
AreSaid says (t ∷ ts) (x ∷ xs) = says t x × AreSaid says ts xs

-- what stands between the commas of a text
abbrev pub IsList : {X : Type 0} → (Text → X → Type 0) → Text → List X → Type 0
IsList says text xs = AreSaid says (slice_split is_comma text) xs

-- a number below 2^32
abbrev pub IsPick : Text → ℕ → Type 0
IsPick t n = IsNumber t 0 4294967295 n

-- a script is one or more such numbers
abbrev pub IsScript : Text → List ℕ → Type 0
IsScript text ns = IsList IsPick text ns

-- the word of what is watched, and of a qubit its number, which is below 12
abbrev pub IsWatched : Text → Watched → Type 0
IsWatched t watched.Qbit = t ≡ codes "qbit"
IsWatched t watched.New = t ≡ codes "new"
IsWatched t watched.Act = t ≡ codes "act"
IsWatched t watched.Add = t ≡ codes "add"
IsWatched t watched.Pick = t ≡ codes "pick"
IsWatched t watched.Gate = t ≡ codes "gate"
IsWatched t watched.Measure = t ≡ codes "measure"
IsWatched t watched.Com = t ≡ codes "com"
IsWatched t watched.If = t ≡ codes "if"
IsWatched t (watched.On q) = (digits : Text) × (t ≡ 113 ∷ digits) × IsNumber digits 0 11 q

-- one to sixteen of these
abbrev pub IsRules : Text → List Watched → Type 0
IsRules text ws = IsList IsWatched text ws × (length ws ≤ 16)

-- a seed is below 2^64
abbrev pub IsSeed : Text → ℕ → Type 0
IsSeed t n = IsNumber t 0 18446744073709551615 n

-- at most one option chooses; without one the script is 0
abbrev pub IsChoice : List Text → List Text → List Text → Choice → Type 0
IsChoice [] [] [] (by.Script ns) = ns.items ≡ 0 ∷ []
IsChoice (t ∷ []) [] [] (by.Script ns) = IsScript t ns.items
IsChoice [] (t ∷ []) [] (by.Seed n) = IsSeed t n
IsChoice [] [] (t ∷ []) (by.Born n) = IsSeed t n
IsChoice scripts seeds borns choice = ⊥

-- the options choose this
abbrev pub Chooses : (Flag → List Text) → Choice → Type 0
Chooses values choice = IsChoice (values for_script) (values for_seed) (values for_born) choice

-- no option chooses
abbrev pub ChoosesNone : (Flag → List Text) → Type 0
ChoosesNone values = (values for_script ≡ []) × (values for_seed ≡ []) × (values for_born ≡ [])

-- no option stands there
abbrev pub HasNone : (Flag → List Text) → Type 0
HasNone values = (values for_workers ≡ []) × ChoosesNone values × (values for_rules ≡ [])

-- Of these words and values of options, the first word is the command, and the others are those
-- that it takes.
abbrev pub Asks : List Text → (Flag → List Text) → Request → Type 0
Asks words values ask.Check = (words ≡ codes "check" ∷ []) × HasNone values
Asks words values (ask.Run w choice) =
    (words ≡ codes "run" ∷ []) × IsWorkers (values for_workers) w × Chooses values choice
    × (values for_rules ≡ [])
Asks words values ask.Replay = (words ≡ codes "replay" ∷ []) × HasNone values
Asks words values ask.Upgrade = (words ≡ codes "upgrade" ∷ []) × HasNone values
Asks words values (ask.Gen n w) =
    (t : Text) × (words ≡ codes "gen" ∷ t ∷ []) × IsNumber t 1 100 n
    × IsWorkers (values for_workers) w × ChoosesNone values × (values for_rules ≡ [])
Asks words values (ask.State choice) =
    (words ≡ codes "state" ∷ []) × (values for_workers ≡ []) × Chooses values choice
    × (values for_rules ≡ [])
Asks words values ask.Bundle = (words ≡ codes "bundle" ∷ []) × HasNone values
Asks words values (ask.Watch ws w choice) =
    (t : Text) × (words ≡ codes "watch" ∷ []) × (values for_rules ≡ t ∷ []) × IsRules t ws.items
    × IsWorkers (values for_workers) w × Chooses values choice

-- the first of the items is a word
abbrev pub BeginsWithWord : List Item → Type 0
BeginsWithWord (word w ∷ is) = Unit {0}
BeginsWithWord is = ⊥

-- the words ask for this
abbrev pub AskFor : List Text → Request → Type 0
AskFor words r = (is : List Item) × AreItems words is × BeginsWithWord is
    × Asks (words_of is) (λ f. values_of f is) r
