-- What `clap` makes of one word.
use Rattle.std.proofs.Common.{◌≡◌, List, [], ◌∷◌, ◌++◌, true, false, Bool, Some, None, Option, refl, codes, bytes_eq, if◌then◌else◌, ◌&&◌}
use Rattle.clap.specs.Lexer.{long_of, short_of}
use Rattle.clap.specs.Walk.{Text, Row, Held, Waiting, idle, option, positional, Walk, walked, with_values, reading_by, settled_rows, is_pending}
use Rattle.clap.specs.declared.parser.matches.ValueSource.TheVariants.{CommandLine}
use Rattle.clap.specs.declared.error.kind.ErrorKind.TheVariants.{InvalidValue}
use Rattle.clap.specs.Simple.{with_index, filled}
use Rattle.clap.specs.Faults.{is_simple_and_free, turn_fault, settle_fault}
use Rattle.clap.proofs.OnLiterals.{clap_on_literals}
use Rattle.cqp_words.specs.Items.{Flag, for_workers, for_script, for_seed, for_born, for_rules, flag_id, option_text, Item, word, valued}
use Rattle.cqp_words.specs.Apps.{cqp, shape, rules, word_rule}

-- the command has nothing of `clap` but words and options with values
pub is_plain_app : is_simple_and_free cqp ≡ true
unfolding clap_on_literals
is_plain_app = refl

-- a word that begins with no hyphen
pub record IsPlain (word : Text) : Type 0 where
  pub ends : bytes_eq word (45 ∷ 45 ∷ []) ≡ false
  pub long : long_of word ≡ None
  pub short : short_of word ≡ None

-- between words, with what is pending
abbrev pub at_word : List Row → Option (Text × List Text) → Waiting → Walk
at_word rows p waiting = record { held = record { rows = rows; pending = p; skip = 0 }; waiting = waiting; position = 1; is_trailing = false; stopped = None }

-- the rows with one more value of the argument
abbrev pub more : Text → Text → List Row → List Row
more id v rows = with_values id (reading_by word_rule) CommandLine (v ∷ []) rows

-- the rows with one more item
abbrev pub added : Item → List Row → List Row
added (word w) rows = more (codes "word") w rows
added (valued f v) rows = more (flag_id f) v rows

-- the item that was read last is pending
abbrev pub pending_item : Option Item → Option (Text × List Text)
pending_item None = None
pending_item (Some (word w)) = Some (codes "word", w ∷ [])
pending_item (Some (valued f v)) = Some (flag_id f, v ∷ [])

-- the rows with the item that was pending
abbrev pub flushed : Option Item → List Row → List Row
flushed None rows = rows
flushed (Some i) rows = added i rows

-- a pending item is put among the rows at the end
pub settles : (p : Option Item) (rows : List Row) → settled_rows rules (pending_item p) rows ≡ flushed p rows
unfolding clap_on_literals
settles None rows = refl
settles (Some (word w)) rows = refl
settles (Some (valued for_workers v)) rows = refl
settles (Some (valued for_script v)) rows = refl
settles (Some (valued for_seed v)) rows = refl
settles (Some (valued for_born v)) rows = refl
settles (Some (valued for_rules v)) rows = refl

-- rows, and the argument that is pending
abbrev held : List Row → Option (Text × List Text) → Held
held rows p = record { rows = rows; pending = p; skip = 0 }

-- a pending item is no fault at the end
pub settles_well : (p : Option Item) (rows : List Row) → settle_fault rules false (held rows (pending_item p)) ≡ []
unfolding clap_on_literals
settles_well None rows = refl
settles_well (Some (word w)) rows = refl
settles_well (Some (valued for_workers v)) rows = refl
settles_well (Some (valued for_script v)) rows = refl
settles_well (Some (valued for_seed v)) rows = refl
settles_well (Some (valued for_born v)) rows = refl
settles_well (Some (valued for_rules v)) rows = refl

-- an option that has no value yet
pub settles_badly : (f : Flag) (rows : List Row) → settle_fault rules false (held rows (Some (flag_id f, []))) ≡ InvalidValue ∷ []
unfolding clap_on_literals
settles_badly for_workers rows = refl
settles_badly for_script rows = refl
settles_badly for_seed rows = refl
settles_badly for_born rows = refl
settles_badly for_rules rows = refl

-- between words nothing waits, but a positional may
abbrev pub resting : Bool → Waiting
resting b = if b then positional else idle

-- a test and one that fails
and_false : (b : Bool) → (b && false) ≡ false
and_false true = refl
and_false false = refl

-- the item that is pending is a word
abbrev word_pending : Option Item → Bool
word_pending p = is_pending (with_index 1 (filled word_rule)) (pending_item p)

-- a plain word puts the pending item among the rows, and is pending itself
pub plain_moves : (p : Option Item) (b : Bool) (rows : List Row) (w : Text) → IsPlain w
    → walked rules [] (at_word rows (pending_item p) (resting b)) w ≡ at_word (flushed p rows) (pending_item (Some (word w))) (resting true)
unfolding clap_on_literals
plain_moves p true rows w h = rw (h.ends, h.long, h.short, settles p rows, and_false (word_pending p)) refl
plain_moves p false rows w h = rw (h.ends, h.long, h.short, settles p rows, and_false (word_pending p)) refl

-- a plain word is no fault
pub plain_passes : (p : Option Item) (b : Bool) (rows : List Row) (w : Text) → IsPlain w
    → turn_fault shape [] (at_word rows (pending_item p) (resting b)) w ≡ []
unfolding clap_on_literals
plain_passes p true rows w h = rw (h.ends, h.long, h.short, settles_well p rows, and_false (word_pending p)) refl
plain_passes p false rows w h = rw (h.ends, h.long, h.short, settles_well p rows, and_false (word_pending p)) refl

-- an option with its value in one word puts both items among the rows
pub joined_moves : (p : Option Item) (b : Bool) (rows : List Row) (f : Flag) (v : Text)
    → walked rules [] (at_word rows (pending_item p) (resting b)) (option_text f ++ 61 ∷ v)
    ≡ at_word (added (valued f v) (flushed p rows)) (pending_item None) (resting false)
unfolding clap_on_literals
joined_moves p true rows for_workers v = rw (settles p rows) refl
joined_moves p true rows for_script v = rw (settles p rows) refl
joined_moves p true rows for_seed v = rw (settles p rows) refl
joined_moves p true rows for_born v = rw (settles p rows) refl
joined_moves p true rows for_rules v = rw (settles p rows) refl
joined_moves p false rows for_workers v = rw (settles p rows) refl
joined_moves p false rows for_script v = rw (settles p rows) refl
joined_moves p false rows for_seed v = rw (settles p rows) refl
joined_moves p false rows for_born v = rw (settles p rows) refl
joined_moves p false rows for_rules v = rw (settles p rows) refl

-- an option with its value in one word is no fault
pub joined_passes : (p : Option Item) (b : Bool) (rows : List Row) (f : Flag) (v : Text)
    → turn_fault shape [] (at_word rows (pending_item p) (resting b)) (option_text f ++ 61 ∷ v) ≡ []
unfolding clap_on_literals
joined_passes p true rows for_workers v = rw (settles_well p rows) refl
joined_passes p true rows for_script v = rw (settles_well p rows) refl
joined_passes p true rows for_seed v = rw (settles_well p rows) refl
joined_passes p true rows for_born v = rw (settles_well p rows) refl
joined_passes p true rows for_rules v = rw (settles_well p rows) refl
joined_passes p false rows for_workers v = rw (settles_well p rows) refl
joined_passes p false rows for_script v = rw (settles_well p rows) refl
joined_passes p false rows for_seed v = rw (settles_well p rows) refl
joined_passes p false rows for_born v = rw (settles_well p rows) refl
joined_passes p false rows for_rules v = rw (settles_well p rows) refl

-- an option alone puts the pending item among the rows, and waits for its value
pub alone_moves : (p : Option Item) (b : Bool) (rows : List Row) (f : Flag)
    → walked rules [] (at_word rows (pending_item p) (resting b)) (option_text f) ≡ at_word (flushed p rows) (Some (flag_id f, [])) (option (flag_id f))
unfolding clap_on_literals
alone_moves p true rows for_workers = rw (settles p rows) refl
alone_moves p true rows for_script = rw (settles p rows) refl
alone_moves p true rows for_seed = rw (settles p rows) refl
alone_moves p true rows for_born = rw (settles p rows) refl
alone_moves p true rows for_rules = rw (settles p rows) refl
alone_moves p false rows for_workers = rw (settles p rows) refl
alone_moves p false rows for_script = rw (settles p rows) refl
alone_moves p false rows for_seed = rw (settles p rows) refl
alone_moves p false rows for_born = rw (settles p rows) refl
alone_moves p false rows for_rules = rw (settles p rows) refl

-- an option alone is no fault between words
pub alone_passes : (p : Option Item) (b : Bool) (rows : List Row) (f : Flag)
    → turn_fault shape [] (at_word rows (pending_item p) (resting b)) (option_text f) ≡ []
unfolding clap_on_literals
alone_passes p true rows for_workers = rw (settles_well p rows) refl
alone_passes p true rows for_script = rw (settles_well p rows) refl
alone_passes p true rows for_seed = rw (settles_well p rows) refl
alone_passes p true rows for_born = rw (settles_well p rows) refl
alone_passes p true rows for_rules = rw (settles_well p rows) refl
alone_passes p false rows for_workers = rw (settles_well p rows) refl
alone_passes p false rows for_script = rw (settles_well p rows) refl
alone_passes p false rows for_seed = rw (settles_well p rows) refl
alone_passes p false rows for_born = rw (settles_well p rows) refl
alone_passes p false rows for_rules = rw (settles_well p rows) refl

-- a plain word behind an option that waits is its value
pub value_moves : (f : Flag) (rows : List Row) (v : Text) → IsPlain v
    → walked rules [] (at_word rows (Some (flag_id f, [])) (option (flag_id f))) v ≡ at_word rows (pending_item (Some (valued f v))) (resting false)
unfolding clap_on_literals
value_moves for_workers rows v h = rw (h.ends, h.long, h.short) refl
value_moves for_script rows v h = rw (h.ends, h.long, h.short) refl
value_moves for_seed rows v h = rw (h.ends, h.long, h.short) refl
value_moves for_born rows v h = rw (h.ends, h.long, h.short) refl
value_moves for_rules rows v h = rw (h.ends, h.long, h.short) refl

-- a plain word behind an option that waits is no fault
pub value_passes : (f : Flag) (rows : List Row) (v : Text) → IsPlain v
    → turn_fault shape [] (at_word rows (Some (flag_id f, [])) (option (flag_id f))) v ≡ []
unfolding clap_on_literals
value_passes for_workers rows v h = rw (h.ends, h.long, h.short) refl
value_passes for_script rows v h = rw (h.ends, h.long, h.short) refl
value_passes for_seed rows v h = rw (h.ends, h.long, h.short) refl
value_passes for_born rows v h = rw (h.ends, h.long, h.short) refl
value_passes for_rules rows v h = rw (h.ends, h.long, h.short) refl

-- an option with a value is a fault where another waits for its value
pub joined_fails : (f g : Flag) (rows : List Row) (v : Text)
    → turn_fault shape [] (at_word rows (Some (flag_id f, [])) (option (flag_id f))) (option_text g ++ 61 ∷ v) ≡ InvalidValue ∷ []
unfolding clap_on_literals
joined_fails for_workers for_workers rows v = refl
joined_fails for_workers for_script rows v = refl
joined_fails for_workers for_seed rows v = refl
joined_fails for_workers for_born rows v = refl
joined_fails for_workers for_rules rows v = refl
joined_fails for_script for_workers rows v = refl
joined_fails for_script for_script rows v = refl
joined_fails for_script for_seed rows v = refl
joined_fails for_script for_born rows v = refl
joined_fails for_script for_rules rows v = refl
joined_fails for_seed for_workers rows v = refl
joined_fails for_seed for_script rows v = refl
joined_fails for_seed for_seed rows v = refl
joined_fails for_seed for_born rows v = refl
joined_fails for_seed for_rules rows v = refl
joined_fails for_born for_workers rows v = refl
joined_fails for_born for_script rows v = refl
joined_fails for_born for_seed rows v = refl
joined_fails for_born for_born rows v = refl
joined_fails for_born for_rules rows v = refl
joined_fails for_rules for_workers rows v = refl
joined_fails for_rules for_script rows v = refl
joined_fails for_rules for_seed rows v = refl
joined_fails for_rules for_born rows v = refl
joined_fails for_rules for_rules rows v = refl

-- an option alone is a fault where another waits for its value
pub alone_fails : (f g : Flag) (rows : List Row)
    → turn_fault shape [] (at_word rows (Some (flag_id f, [])) (option (flag_id f))) (option_text g) ≡ InvalidValue ∷ []
unfolding clap_on_literals
alone_fails for_workers for_workers rows = refl
alone_fails for_workers for_script rows = refl
alone_fails for_workers for_seed rows = refl
alone_fails for_workers for_born rows = refl
alone_fails for_workers for_rules rows = refl
alone_fails for_script for_workers rows = refl
alone_fails for_script for_script rows = refl
alone_fails for_script for_seed rows = refl
alone_fails for_script for_born rows = refl
alone_fails for_script for_rules rows = refl
alone_fails for_seed for_workers rows = refl
alone_fails for_seed for_script rows = refl
alone_fails for_seed for_seed rows = refl
alone_fails for_seed for_born rows = refl
alone_fails for_seed for_rules rows = refl
alone_fails for_born for_workers rows = refl
alone_fails for_born for_script rows = refl
alone_fails for_born for_seed rows = refl
alone_fails for_born for_born rows = refl
alone_fails for_born for_rules rows = refl
alone_fails for_rules for_workers rows = refl
alone_fails for_rules for_script rows = refl
alone_fails for_rules for_seed rows = refl
alone_fails for_rules for_born rows = refl
alone_fails for_rules for_rules rows = refl
