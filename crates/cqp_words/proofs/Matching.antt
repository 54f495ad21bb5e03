-- What `clap` finds and refuses, of a command that is another by an equation.
use Rattle.std.proofs.Common.{true, [], ◌≡◌, sym, ◌⊎◌, inl, inr, subst, List, Result, Ok, Err, IfOk, IfErr}
use Rattle.clap.specs.Walk.{Text, rows_of}
use Rattle.clap.specs.Matches.{found_of}
use Rattle.clap.specs.Simple.{App, built, is_simple, matches_of, HasMatchesOf}
use Rattle.clap.specs.Faults.{fault_of, is_simple_and_free, is_free_app}
use Rattle.clap.specs.Kinds.{FailsBy, Kinds, IsAmong}
use Rattle.clap.specs.Values.{kind_of}
use Rattle.clap.specs.declared.error.Error.{Error}
use Rattle.clap.specs.declared.error.kind.ErrorKind.{ErrorKind}
use Rattle.clap.specs.declared.error.kind.ErrorKind.TheVariants.{OutOfMemory}
use Rattle.clap.specs.declared.parser.matches.ArgMatches.{ArgMatches}
use Rattle.cqp_words.proofs.Bools.{both}

-- words that are taken have no fault, and their matches are these; others have one, or want memory
pub record IsRead (a : App) (words : List Text) (r : Result ArgMatches Error) : Type 0 where
  pub taken : IfOk r (λ m. (fault_of a words ≡ []) × (rows_of (found_of m) ≡ matches_of a words))
  pub refused : IfErr r (λ e. (kind_of e ≡ OutOfMemory) ⊎ (fault_of a words ≡ [] → ⊥))

-- an error of a kind that may come is no sign of faultless words
among_none : (k : ErrorKind) (kinds : Kinds) → IsAmong k kinds → kinds ≡ [] → ⊥
among_none k kinds a e = let none : IsAmong k [] = subst (IsAmong k) e a in none

-- a simple command is read as its faults and its matches say
is_read : (a : App) (words : List Text) (r : Result ArgMatches Error) → is_simple a ≡ true → FailsBy (fault_of a words) r
    → IfOk r (HasMatchesOf a words) → IsRead a words r
is_read a words (Ok m) simple fails h = record { taken = (fails, (h simple).0); refused = tt }
is_read a words (Err e) simple fails h = record {
  taken = tt;
  refused = elim fails [ inl memory ↦ inl memory | inr kind ↦ inr (among_none (kind_of e) (fault_of a words) kind) ];
}

-- and so is one that equals a simple command
pub read_as : (a b : App) (words : List Text) (r : Result ArgMatches Error) → a ≡ b → is_simple_and_free b ≡ true
    → (is_simple_and_free a ≡ true → FailsBy (fault_of a words) r) → IfOk r (HasMatchesOf a words) → IsRead b words r
read_as a b words r same plain fails h =
    let plain_too = subst (λ x. is_simple_and_free x ≡ true) (sym same) plain in
    let simple = (both (is_simple a) (is_free_app (built a)) plain_too).0 in
    subst (λ x. IsRead x words r) same (is_read a words r simple (fails plain_too) h)
