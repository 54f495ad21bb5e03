-- Law: `clap` takes exactly the words that are items, and its matches are these.
use Rattle.std.proofs.Common.{◌≡◌, List, [], ◌∷◌, true, false, Bool, Some, None, Option, ◌||◌, refl, sym, ◌∙◌, if◌then◌else◌, fold}
use Rattle.clap.specs.Walk.{Text, Row, Rule, Walk, walk, walk_from, finished, settled, settled_rows, nothing_held, with_default, has_row}
use Rattle.clap.specs.Kinds.{Kinds, or_else}
use Rattle.clap.specs.Simple.{built, entered, names_of, matches_of}
use Rattle.clap.specs.Faults.{fault_of, walk_fault, settle_fault, defaults_fault, default_fault, check_fault, entered_fault}
use Rattle.cqp_words.specs.Items.{Item, items_from}
use Rattle.cqp_words.specs.Apps.{cqp, shape, rules}
use Rattle.cqp_words.proofs.Walks.{rest, all_added, end_of, total, AreKnown, reads}

-- the first of four faults, of which two are none
or_nothing : (a b : Kinds) → or_else a (or_else [] (or_else b (or_else [] []))) ≡ or_else a b
or_nothing [] [] = refl
or_nothing [] (k ∷ ks) = refl
or_nothing (k ∷ ks) b = refl

-- arguments without defaults
abbrev HaveNone : List Rule → Type 0
HaveNone [] = Unit {0}
HaveNone (a ∷ as_) = (a.defaults ≡ []) × HaveNone as_

-- a choice of the same rows is these rows
same_either : (b : Bool) (rows : List Row) → (if b then rows else rows) ≡ rows
same_either true rows = refl
same_either false rows = refl

-- an argument without defaults leaves the rows
kept : (rows : List Row) (a : Rule) → a.defaults ≡ [] → with_default rows a ≡ rows
kept rows a e = rw e (same_either (has_row a.id rows) rows)

-- what need not stand is not missing
nothing_missing : (b : Bool) (k : Kinds) → (if b || true then [] else k) ≡ []
nothing_missing true k = refl
nothing_missing false k = refl

-- an argument without defaults has no fault in them
no_default : (rows : List Row) (a : Rule) → a.defaults ≡ [] → default_fault rows a ≡ []
no_default rows a e = rw e (nothing_missing (has_row a.id rows) _)

-- nor have several
no_defaults : (rows : List Row) (c : List Rule) → HaveNone c → defaults_fault rows c ≡ []
unfolding defaults_fault
no_defaults rows [] h = refl
no_defaults rows (a ∷ as_) h = rw (no_default rows a h.0, kept rows a h.0) (no_defaults rows as_ h.1)

-- several arguments without defaults leave the rows
all_kept : (rows : List Row) (c : List Rule) → HaveNone c → fold with_default rows c ≡ rows
all_kept rows [] h = refl
all_kept rows (a ∷ as_) h = rw (kept rows a h.0) (all_kept rows as_ h.1)

-- the arguments of the command have no defaults
none_have : HaveNone rules
none_have = (refl, (refl, (refl, (refl, (refl, (refl, tt))))))

-- no subcommand is entered
no_entered : (stop : Option (Text × List Text)) → entered (built cqp) stop ≡ None
no_entered None = refl
no_entered (Some p) = refl

-- so none has a fault
no_below : (stop : Option (Text × List Text)) → entered_fault (built cqp) stop ≡ []
no_below None = refl
no_below (Some p) = refl

-- where a walk begins
abbrev start : Walk
start = walk_from nothing_held

-- the last checks ask for nothing
no_check : (rows : List Row) → check_fault shape rows false ≡ []
no_check rows = refl

-- what a parse fails by is what the walk and its end fail by
pub fault_is : (words : List Text) → fault_of cqp words ≡ total start words
fault_is words =
    let stop = (walk rules (names_of (built cqp)) nothing_held words).stopped in
    let end = end_of start words in
    rw (no_below stop, no_entered stop, no_defaults (settled rules end.held).rows rules none_have, no_check (finished rules end.held))
    (or_nothing (walk_fault shape [] start words) (settle_fault rules false end.held))

-- the matches of a parse are the rows at the walk's end
pub matches_are : (words : List Text)
    → matches_of cqp words ≡ settled_rows rules (end_of start words).held.pending (end_of start words).held.rows
matches_are words = all_kept (settled rules (end_of start words).held).rows rules none_have

-- words that are items are taken, and the matches are these
pub taken : (words : List Text) (is : List Item) → AreKnown words → items_from None words ≡ Some is
    → (fault_of cqp words ≡ []) × (matches_of cqp words ≡ all_added is [])
taken words is k e =
    let r = (reads (rest None false) [] words k).fine is e in
    (fault_is words ∙ r.0, matches_are words ∙ r.1)

-- all others are refused
pub not_taken : (words : List Text) → AreKnown words → items_from None words ≡ None → fault_of cqp words ≡ [] → ⊥
not_taken words k e f = (reads (rest None false) [] words k).bad e (sym (fault_is words) ∙ f)
