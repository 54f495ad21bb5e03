-- How a text goes on by a lexeme: a run of bytes of one kind, a gap, or a token.
use Rattle.std.specs.Prelude.{◌≡◌, ℕ, ◌+◌, ◌<◌, ◌≤◌, List, [], ◌∷◌, ◌++◌, length, take, drop, Bool}
use Rattle.std.specs.Prelude.{true}
use Rattle.std.specs.List.{list_all}
use Rattle.cqp_grammar.specs.declared.lexeme.Lexeme.{Lexeme}
use Rattle.cqp_grammar.specs.declared.lexeme.Lexeme.TheVariants.{Gap, Whole, Nothing}
use Rattle.cqp_grammar.specs.declared.token.SymbolKind.{SymbolKind}
use Rattle.cqp_grammar.specs.declared.token.Token.{Token}
use Rattle.cqp_grammar.specs.declared.token.Token.TheVariants.{Bad}
use Rattle.cqp_grammar.specs.Spelling.{StartsOff, symbol_text}
use Rattle.cqp_grammar.specs.Texts.{Lexes}

-- the first bytes, so many, are of the kind, and no more are
pub record IsRun (kind : ℕ → Bool) (bytes : List ℕ) (len : ℕ) : Type 0 where
  pub within : len ≤ length bytes
  pub alike : list_all kind (take len bytes) ≡ true
  pub ends : StartsOff kind (drop len bytes)

-- the bytes begin with the front
abbrev pub Begins : List ℕ → List ℕ → Type 0
Begins bytes front = (rest : List ℕ) × (bytes ≡ front ++ rest)

-- they begin with no symbol
abbrev pub NoneBegins : List ℕ → Type 0
NoneBegins bytes = (s : SymbolKind) → Begins bytes (symbol_text s) → ⊥

-- what tokens the bytes at the offset have, by those behind the lexeme
abbrev pub Advances : ℕ → List ℕ → Lexeme → Type 0
Advances at bytes (Gap n) =
    (0 < n) × (n ≤ length bytes)
    × ((ts : List Token) → Lexes (at + n) (drop n bytes) ts → Lexes at bytes ts)
Advances at bytes (Whole t n) =
    (0 < n) × (n ≤ length bytes)
    × ((ts : List Token) → Lexes (at + n) (drop n bytes) ts → Lexes at bytes (t ∷ ts))
Advances at bytes Nothing = Lexes at bytes (Bad at ∷ [])
