-- Requests, and what they say of words and options.
use Rattle.std.proofs.Common.{◌≡◌, suc, ◌+◌, ◌<◌, ◌≤◌, List, [], ◌∷◌, ◌++◌, map, length, true, not, Result, Ok, Err, IfOk, IfErr, codes, get_or, refl, sym, ◌∙◌}
use Rattle.std.proofs.Common.{ap, subst, arith}
use Rattle.std.specs.Borrow.{Bor}
use Rattle.std.proofs.lemmas.Result.{IfOk-weaker, IfErr-weaker}
use Rattle.clap.specs.Walk.{Row, rows_of}
use Rattle.clap.specs.Matches.{found_of}
use Rattle.clap.specs.declared.parser.matches.ArgMatches.{ArgMatches}
use Rattle.cqp_words.specs.declared.given.WordsEnd.{WordsEnd}
use Rattle.cqp_words.specs.declared.given.WordsEnd.TheVariants.{Usage}
use Rattle.cqp_words.specs.Items.{Flag, for_workers, for_script, for_seed, for_born, for_rules, Text, Item, AreItems, none, own, joined, apart, option_text}
use Rattle.cqp_words.specs.Items.{flag_id, has_hyphen, starts, words_of, values_of}
use Rattle.cqp_words.specs.declared.options.Options.{Options}
use Rattle.cqp_words.specs.declared.choice.Choice.{Choice}
use Rattle.cqp_words.specs.declared.request.Request.{Request}
use Rattle.cqp_words.specs.Given.{values_at, Gives}
use Rattle.cqp_words.specs.Options.{values_in}
use Rattle.cqp_words.specs.Requests.{IsChoice, Asks, AskFor, BeginsWithWord}
use Rattle.cqp_words.proofs.Bools.{fails, some_same}
use Rattle.cqp_words.proofs.Relation.{found}

-- at most one value chooses
pub one_chooses : (scripts seeds borns : List Text) (c : Choice) → IsChoice scripts seeds borns c → length scripts + length seeds + length borns ≤ 1
one_chooses [] [] [] c h = omega arith
one_chooses (t ∷ []) [] [] c h = omega arith
one_chooses [] (t ∷ []) [] c h = omega arith
one_chooses [] [] (t ∷ []) c h = omega arith
one_chooses scripts seeds borns c h = absurd h

-- words that are lent are as many
pub texts_count : (ts : List (Bor Text)) → length (map (λ v. v.now) ts) ≡ length ts
texts_count [] = refl
texts_count (t ∷ ts) = ap suc (texts_count ts)

-- the same values of options ask for the same
pub asks_same : (ws : List Text) (v w : Flag → List Text) → ((f : Flag) → v f ≡ w f) → (r : Request) → Asks ws v r → Asks ws w r
asks_same ws v w e r a = subst (λ values. Asks ws values r) same a
  where
    same : v ≡ w
    same = λ i f. e f i

-- the values that were lent are those that were found
pub values_same : (o : Options) (rows : List Row) → map (λ v. v.now) o.workers.now ≡ values_at (flag_id for_workers) rows
    → map (λ v. v.now) o.script.now ≡ values_at (flag_id for_script) rows
    → map (λ v. v.now) o.seed.now ≡ values_at (flag_id for_seed) rows → map (λ v. v.now) o.born.now ≡ values_at (flag_id for_born) rows
    → map (λ v. v.now) o.rules.now ≡ values_at (flag_id for_rules) rows → (f : Flag) → values_in o f ≡ values_at (flag_id f) rows
values_same o rows a b c d e for_workers = a
values_same o rows a b c d e for_script = b
values_same o rows a b c d e for_seed = c
values_same o rows a b c d e for_born = d
values_same o rows a b c d e for_rules = e

-- an option begins with a hyphen
option_hyphen : (f : Flag) (v : Text) → has_hyphen (option_text f ++ v) ≡ true
option_hyphen f v = refl

-- where the first word has no hyphen, the first item is a word
pub begins : (ws : List Text) (is : List Item) → AreItems ws is → starts ws ≡ true → BeginsWithWord is
begins [] is a s = absurd (fails s)
begins (w ∷ ws) is (own h more) s = tt
begins (w ∷ ws) is (joined f v e more) s = absurd (fails (sym (ap (λ t. not (has_hyphen t)) e) ∙ s))
begins (w ∷ ws) is (apart f e h more) s = absurd (fails (sym (ap (λ t. not (has_hyphen t)) e) ∙ s))

-- where the first item is a word, the first word has no hyphen
pub begun : (ws : List Text) (is : List Item) → AreItems ws is → BeginsWithWord is → starts ws ≡ true
begun ws is none b = absurd b
begun ws is (own h more) b = ap not h
begun ws is (joined f v e more) b = absurd b
begun ws is (apart f e h more) b = absurd b

-- words are items in one way
pub items_once : (ws : List Text) (is js : List Item) → AreItems ws is → AreItems ws js → is ≡ js
items_once ws is js a b = some_same is js (sym (found ws is a).found ∙ (found ws js b).found)

-- a request is refused where none is asked for
abbrev pub Refuses : Result Request WordsEnd → List Text → (Flag → List Text) → Type 0
Refuses r ts values = IfErr r (λ e. e ≡ Usage → (q : Request) → Asks ts values q → ⊥)

-- the same by the same words and values
pub refuse_same : (r : Result Request WordsEnd) (ts us : List Text) (v w : Flag → List Text) → ts ≡ us
    → ((f : Flag) → v f ≡ w f) → Refuses r ts v → Refuses r us w
refuse_same (Ok q) ts us v w e same h = tt
refuse_same (Err end) ts us v w e same h = λ u q a. h u q (subst (λ xs. Asks xs v q) (sym e) (asks_same us w v (λ f. sym (same f)) q a))

module _ (r : Result Request WordsEnd) (m : ArgMatches) (ws : List Text) (is : List Item) (are : AreItems ws is) (gives : Gives m is) where
  -- what is asked for by what was found of the items is asked for by the words
  pub given_by : BeginsWithWord is
      → IfOk r (λ q. Asks (values_at (codes "word") (rows_of (found_of m))) (λ f. values_at (flag_id f) (rows_of (found_of m))) q)
      → IfOk r (λ q. AskFor ws q)
  given_by first h =
      IfOk-weaker r _ _
      (λ q a.
      let asks = subst (λ xs. Asks xs (λ f. values_at (flag_id f) (rows_of (found_of m))) q) gives.words a in
      (is, are, first, asks_same (words_of is) (λ f. values_at (flag_id f) (rows_of (found_of m))) (λ f. values_of f is) gives.options q asks))
      h

  -- and nothing else is
  pub refused_by : Refuses r (values_at (codes "word") (rows_of (found_of m))) (λ f. values_at (flag_id f) (rows_of (found_of m)))
      → IfErr r (λ e. e ≡ Usage → (q : Request) → AskFor ws q → ⊥)
  refused_by h =
      IfErr-weaker r _ _
      (λ e none u q ask.
      let (js, be, first, asks) = ask in
      let same = items_once ws js is be are in
      let here = subst (λ ks. Asks (words_of ks) (λ f. values_of f ks) q) same asks in
      let back = asks_same (words_of is) (λ f. values_of f is) (λ f. values_at (flag_id f) (rows_of (found_of m))) (λ f. sym (gives.options f)) q here in
      none u q (subst (λ xs. Asks xs (λ f. values_at (flag_id f) (rows_of (found_of m))) q) (sym gives.words) back))
      h

-- a list of one word that is lent
pub one_text : (ws : List (Bor Text)) (d : Bor Text) → 1 ≤ length ws → length ws < 2 → map (λ w. w.now) ws ≡ (get_or ws 0 d).now ∷ []
one_text [] d low high = absurd (omega arith)
one_text (w ∷ []) d low high = refl
one_text (w ∷ v ∷ ws) d low high = absurd (omega arith)

-- a list of two words that are lent
pub two_texts : (ws : List (Bor Text)) (d e : Bor Text) → 2 ≤ length ws → length ws < 3
    → map (λ w. w.now) ws ≡ (get_or ws 0 d).now ∷ (get_or ws 1 e).now ∷ []
two_texts [] d e low high = absurd (omega arith)
two_texts (w ∷ []) d e low high = absurd (omega arith)
two_texts (w ∷ v ∷ []) d e low high = refl
two_texts (w ∷ v ∷ u ∷ ws) d e low high = absurd (omega arith)
