-- Each text has tokens: at each byte a lexeme begins, or no token does.
use Rattle.std.proofs.Common.{◌≡◌, ℕ, ◌+◌, ◌<◌, ◌≤◌, ◌^◌, zero, suc, List, [], ◌∷◌, length, get_or}
use Rattle.std.proofs.Common.{take, drop, Bool, true, false, ◌==◌, not, ◌⊎◌, inl, inr, refl, arith}
use Rattle.std.proofs.Common.{length-drop, Option, Some, None, nat_eq, nat_lt, bytes_eq, ltb-true}
use Rattle.std.proofs.Common.{eqb-true, eq-eqb}
use Rattle.std.specs.List.{list_all, list_any, starts_with}
use Rattle.std.specs.Str.Parse.{digits_value}
use Rattle.std.proofs.lemmas.Bool.{and_from, or_from, cases_Bool, ltb-false}
use Rattle.std.proofs.lemmas.Slice.Eq.{bytes_eq-Decides}
use Rattle.cqp_grammar.specs.declared.token.Token.{Token}
use Rattle.cqp_grammar.specs.declared.token.Token.TheVariants as token
use Rattle.cqp_grammar.specs.declared.token.SymbolKind.{SymbolKind}
use Rattle.cqp_grammar.specs.declared.lexeme.Lexeme.{Lexeme}
use Rattle.cqp_grammar.specs.declared.lexeme.Lexeme.TheVariants.{Gap, Whole, Nothing}
use Rattle.cqp_grammar.specs.Firsts.{symbol_of}
use Rattle.cqp_grammar.specs.Lexemes.{Advances, Begins, IsRun, NoneBegins}
use Rattle.cqp_grammar.specs.Spelling.{is_letter, is_digit, is_blank, is_word_byte}
use Rattle.cqp_grammar.specs.Spelling.{every_reserved, reserved_text, symbol_text}
use Rattle.cqp_grammar.specs.Texts.{Lexes, at_end}
use Rattle.cqp_grammar.proofs.NextLexeme.{blank_lexeme, comment_lexeme, dash_lexeme, name_lexeme}
use Rattle.cqp_grammar.proofs.NextLexeme.{reserved_lexeme, number_lexeme, leading_zero, too_large}
use Rattle.cqp_grammar.proofs.NextLexeme.{symbol_lexeme, no_symbol}
use Rattle.cqp_grammar.proofs.Tables.{begins_from_test, none_begins, only_one_begins}

-- the bytes at the offset go on by some lexeme, or no token begins
abbrev Goes : ℕ → List ℕ → Type 0
Goes at bytes = (l : Lexeme) × Advances at bytes l

-- bytes begin with one longest run of a kind, of no byte or more
run_in_front : (kind : ℕ → Bool) (bytes : List ℕ) → (n : ℕ) × IsRun kind bytes n
run_in_front kind [] = (0, record { within = omega arith; alike = refl; ends = tt })
run_in_front kind (b ∷ bs) = longer (kind b) refl (run_in_front kind bs)
  where
    longer : (is : Bool) → kind b ≡ is → (n : ℕ) × IsRun kind bs n → (n : ℕ) × IsRun kind (b ∷ bs) n
    longer true is (n, run) =
        (suc n, record { within = omega (arith, run.within); alike = and_from (kind b) (list_all kind (take n bs)) is run.alike; ends = run.ends })
    longer false is (n, run) = (0, record { within = omega arith; alike = refl; ends = is })

-- an element passes the test, or none does
some_or_none : {X : Type 0} (p : X → Bool) (xs : List X) → ((x : X) × (p x ≡ true)) ⊎ (list_any p xs ≡ false)
some_or_none p [] = inr refl
some_or_none {X = X} p (x ∷ xs) = first (p x) refl (some_or_none p xs)
  where
    first : (is : Bool) → p x ≡ is → ((y : X) × (p y ≡ true)) ⊎ (list_any p xs ≡ false)
        → ((y : X) × (p y ≡ true)) ⊎ (list_any p (x ∷ xs) ≡ false)
    first true is later = inl (x, is)
    first false is (inl found) = inl found
    first false is (inr none) = inr (or_from (p x) (list_any p xs) is none)

-- bytes that begin with a letter go on by a reserved word or a name
word_goes : (at : ℕ) (bytes : List ℕ) → 0 < length bytes → is_letter (get_or bytes 0 0) ≡ true → Goes at bytes
word_goes at bytes some letter =
    let (n, run) = run_in_front is_word_byte bytes in
    elim (some_or_none (λ k. bytes_eq (take n bytes) (reserved_text k)) every_reserved) [
      | inl found ↦
          let same = (bytes_eq-Decides (take n bytes) (reserved_text found.0)).0 found.1 in
          (Whole (token.Reserved found.0 at) n, reserved_lexeme at n bytes found.0 some letter run same)
      | inr free ↦ (Whole (token.Name (take n bytes) at) n, name_lexeme at n bytes some letter run free)
    ]

-- digits without a leading zero go on by a number, or write too much
value_goes : (at n : ℕ) (bytes : List ℕ) → 0 < length bytes → is_digit (get_or bytes 0 0) ≡ true → IsRun is_digit bytes n
    → (get_or bytes 0 0 ≡ 48 → n ≤ 1) → Goes at bytes
value_goes at n bytes some digit run alone =
    elim (cases_Bool (nat_lt (digits_value 10 (take n bytes)) (2 ^ 32))) [
      | inl small ↦ (Whole (token.Number (digits_value 10 (take n bytes)) at) n, number_lexeme at n bytes some digit run alone (ltb-true _ _ small))
      | inr large ↦ (Nothing, too_large at n bytes some digit run (λ small. omega (arith, ltb-false (digits_value 10 (take n bytes)) (2 ^ 32) large)))
    ]

-- bytes that begin with a digit go on by a number, or no token begins
number_goes : (at : ℕ) (bytes : List ℕ) → 0 < length bytes → is_digit (get_or bytes 0 0) ≡ true → Goes at bytes
number_goes at bytes some digit =
    let (n, run) = run_in_front is_digit bytes in
    elim (cases_Bool (nat_lt 1 n)) [
      | inl long ↦ elim (cases_Bool (get_or bytes 0 0 == 48)) [
        | inl is_zero ↦ (Nothing, leading_zero at n bytes some digit run (ltb-true 1 n long) (eqb-true _ _ is_zero))
        | inr other ↦ value_goes at n bytes some digit run (λ e. let is = eq-eqb (get_or bytes 0 0) 48 e in absurd (cc (is, other)))
      ]
      | inr short ↦ value_goes at n bytes some digit run (λ e. ltb-false 1 n short)
    ]

-- bytes that begin with `-` go on by a comment, or no token begins
dash_goes : (at b : ℕ) (bs : List ℕ) → b ≡ 45 → Goes at (b ∷ bs)
dash_goes at b [] e = (Nothing, dash_lexeme at (b ∷ []) (omega arith) e (λ long. absurd (omega (arith, long))))
dash_goes at b (c ∷ cs) e =
    let (n, run) = run_in_front (λ x. not (x == 10)) cs in
    elim (cases_Bool (c == 45)) [
      | inl dash ↦ (Gap (2 + n), comment_lexeme at n (b ∷ c ∷ cs) (omega arith) e (eqb-true c 45 dash) run)
      | inr other ↦ (Nothing, dash_lexeme at (b ∷ c ∷ cs) (omega arith) e (λ long d. let is = eq-eqb c 45 d in cc (is, other)))
    ]

-- bytes begin with a symbol, or with none
symbol_or_none : (bytes : List ℕ) → ((s : SymbolKind) × Begins bytes (symbol_text s)) ⊎ NoneBegins bytes
symbol_or_none bytes = one (symbol_of (get_or bytes 0 0)) refl
  where
    one : (o : Option SymbolKind) → symbol_of (get_or bytes 0 0) ≡ o → ((s : SymbolKind) × Begins bytes (symbol_text s)) ⊎ NoneBegins bytes
    one None is = inr (none_begins bytes is)
    one (Some s) is =
        elim (cases_Bool (starts_with nat_eq bytes (symbol_text s))) [
          | inl begins ↦ inl (s, begins_from_test bytes s _ refl begins)
          | inr fails ↦ inr (only_one_begins bytes s is fails)
        ]

-- bytes that begin with none of these go on by a symbol, or no token begins
symbol_goes : (at : ℕ) (bytes : List ℕ) → 0 < length bytes → is_letter (get_or bytes 0 0) ≡ false → is_digit (get_or bytes 0 0) ≡ false
    → is_blank (get_or bytes 0 0) ≡ false → (get_or bytes 0 0 == 45) ≡ false → Goes at bytes
symbol_goes at bytes some letter digit blank dash =
    elim (symbol_or_none bytes) [
      | inl found ↦ (Whole (token.Symbol found.0 at) (length (symbol_text found.0)), symbol_lexeme at bytes found.0 found.1)
      | inr none ↦ (Nothing, no_symbol at bytes some letter digit blank dash none)
    ]

-- each byte begins a lexeme, or no token
goes : (at b : ℕ) (bs : List ℕ) → Goes at (b ∷ bs)
goes at b bs =
    let some : 0 < length (b ∷ bs) = omega arith in
    elim (cases_Bool (is_blank b)) [
      | inl blank ↦ (Gap 1, blank_lexeme at (b ∷ bs) some blank)
      | inr blank ↦ elim (cases_Bool (is_letter b)) [
        | inl letter ↦ word_goes at (b ∷ bs) some letter
        | inr letter ↦ elim (cases_Bool (is_digit b)) [
          | inl digit ↦ number_goes at (b ∷ bs) some digit
          | inr digit ↦ elim (cases_Bool (b == 45)) [
            | inl dash ↦ dash_goes at b bs (eqb-true b 45 dash)
            | inr dash ↦ symbol_goes at (b ∷ bs) some letter digit blank dash
          ]
        ]
      ]
    ]

-- the bytes at the offset have tokens
abbrev HasTokens : ℕ → List ℕ → Type 0
HasTokens at bytes = (ts : List Token) × Lexes at bytes ts

-- bytes have tokens where those behind each lexeme have them
behind_lexeme : (at : ℕ) (bytes : List ℕ) → ((n : ℕ) → 0 < n → n ≤ length bytes → HasTokens (at + n) (drop n bytes)) → Goes at bytes → HasTokens at bytes
behind_lexeme at bytes more (Gap n, a) = let later = more n a.0 a.1 in (later.0, a.2 later.0 later.1)
behind_lexeme at bytes more (Whole t n, a) = let later = more n a.0 a.1 in (t ∷ later.0, a.2 later.0 later.1)
behind_lexeme at bytes more (Nothing, a) = (token.Bad at ∷ [], a)

-- bytes of a bounded length have tokens
bounded_have_tokens : (bound at : ℕ) (bytes : List ℕ) → length bytes ≤ bound → HasTokens at bytes
bounded_have_tokens bound at [] h = (token.End at ∷ [], at_end)
bounded_have_tokens zero at (b ∷ bs) h = absurd (omega (arith, h))
bounded_have_tokens (suc bound) at (b ∷ bs) h =
    behind_lexeme at (b ∷ bs) (λ n some within. bounded_have_tokens bound (at + n) (drop n (b ∷ bs)) (omega (arith, some, within, h, length-drop n (b ∷ bs))))
    (goes at b bs)

-- each text has tokens
pub has_tokens : (text : List ℕ) → HasTokens 0 text
has_tokens text = bounded_have_tokens (length text) 0 text (omega arith)
