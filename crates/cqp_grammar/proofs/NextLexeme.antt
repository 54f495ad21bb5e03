-- How a text goes on by each kind of lexeme.
use Rattle.std.proofs.Common.{◌≡◌, ℕ, ◌+◌, ◌<◌, ◌≤◌, ◌^◌, List, [], ◌∷◌, ◌++◌, length, get_or, take}
use Rattle.std.proofs.Common.{drop, Bool, true}
use Rattle.std.proofs.Common.{false, not, ◌==◌, refl, subst, sym, ap, ◌∙◌, arith, take-append-drop}
use Rattle.std.proofs.Common.{length-take-le, length-append, decimal, get_or-take, zero, suc}
use Rattle.std.specs.List.{list_all}
use Rattle.std.specs.Str.Parse.{digits_value}
use Rattle.std.proofs.Math.Seq.{take-append_seam}
use Rattle.std.proofs.lemmas.Bool.{and_from, and_parts}
use Rattle.cqp_grammar.specs.declared.token.Token.{Token}
use Rattle.cqp_grammar.specs.declared.token.Token.TheVariants as token
use Rattle.cqp_grammar.specs.declared.token.ReservedWord.{ReservedWord}
use Rattle.cqp_grammar.specs.declared.token.SymbolKind.{SymbolKind}
use Rattle.cqp_grammar.specs.declared.lexeme.Lexeme.TheVariants.{Gap, Whole, Nothing}
use Rattle.cqp_grammar.specs.Lexemes.{Advances, Begins, IsRun}
use Rattle.cqp_grammar.specs.Spelling.{offset_of, Spells, EndsBefore, IsName, is_letter, is_digit}
use Rattle.cqp_grammar.specs.Spelling.{is_blank, is_word, is_word_byte, is_reserved, reserved_text}
use Rattle.cqp_grammar.specs.Spelling.{symbol_text}
use Rattle.cqp_grammar.specs.Texts.{IsComment, IsToken, Lexes, blank, comment, nothing}
use Rattle.cqp_grammar.proofs.FirstBytes.{gap, number, other, kind_of, first_kind, token_kind}
use Rattle.cqp_grammar.proofs.FirstBytes.{no_gap, spelled_kind, digit_kind, other_kind, blank_kind}
use Rattle.cqp_grammar.proofs.Numerals.{value_decimal, decimal_value, decimal_digits}
use Rattle.cqp_grammar.proofs.Numerals.{no_leading_zero}
use Rattle.cqp_grammar.proofs.Runs.{run_unique, false_if_not}
use Rattle.cqp_grammar.proofs.Tables.{symbol_some}
use Rattle.cqp_grammar.proofs.OneToken.{letter_goes_on}

-- a spelled token that is as long as it can be advances the text by its bytes
whole : (at n : ℕ) (bytes : List ℕ) (t : Token) → offset_of t ≡ at → 0 < n → n ≤ length bytes → Spells (take n bytes) t → EndsBefore t (drop n bytes)
    → Advances at bytes (Whole t n)
whole at n bytes t p some within spells longest =
    let k : IsToken bytes t (drop n bytes) = record { spelling = take n bytes; text_is = sym (take-append-drop n bytes); spells = spells; longest = longest } in
    (some, within, λ ts l. Lexes.token p k (subst (λ m. Lexes (at + m) (drop n bytes) ts) (sym (length-take-le n bytes within)) l))

-- a blank is a gap of one byte
pub blank_lexeme : (at : ℕ) (bytes : List ℕ) → 0 < length bytes → is_blank (get_or bytes 0 0) ≡ true → Advances at bytes (Gap 1)
blank_lexeme at [] some h = absurd (omega arith)
blank_lexeme at (b ∷ bs) some h = (omega arith, omega arith, λ ts l. blank h l)

-- `--` and the rest of its line are a gap
pub comment_lexeme : (at n : ℕ) (bytes : List ℕ) → 1 < length bytes → get_or bytes 0 0 ≡ 45 → get_or bytes 1 0 ≡ 45
    → IsRun (λ b. not (b == 10)) (drop 2 bytes) n → Advances at bytes (Gap (2 + n))
comment_lexeme at n [] some h g run = absurd (omega arith)
comment_lexeme at n (a ∷ []) some h g run = absurd (omega arith)
comment_lexeme at n (a ∷ b ∷ bs) some h g run =
    let c : IsComment (a ∷ b ∷ bs) (drop n bs) = record {
      body = take n bs;
      text_is = cc (h, g, take-append-drop n bs);
      one_line = run.alike;
      ends = run.ends;
    } in (
      omega arith,
      omega (arith, run.within),
      λ ts l. comment c (let at_is : at + (2 + n) ≡ at + 2 + length (take n bs) = omega (arith, length-take-le n bs run.within) in
          let two : 2 + n ≡ suc (suc n) = omega arith in
          let f = λ (m k : ℕ). Lexes m (drop k (a ∷ b ∷ bs)) ts in
          subst (λ m. f m (suc (suc n))) at_is (subst (f (at + (2 + n))) two l)),
    )

-- a run of the kind of the first byte isn't empty
run_some : (kind : ℕ → Bool) (n : ℕ) (bytes : List ℕ) → IsRun kind bytes n → 0 < length bytes → kind (get_or bytes 0 0) ≡ true → 0 < n
run_some kind n [] run some h = absurd (omega arith)
run_some kind zero (b ∷ bs) run some h = absurd (cc (run.ends, h))
run_some kind (suc n) (b ∷ bs) run some h = omega arith

-- a run of word bytes that begins with a letter is a word
run_word : (n : ℕ) (bytes : List ℕ) → 0 < n → 0 < length bytes → is_letter (get_or bytes 0 0) ≡ true → list_all is_word_byte (take n bytes) ≡ true
    → is_word (take n bytes) ≡ true
run_word n [] low some h alike = absurd (omega arith)
run_word zero (b ∷ bs) low some h alike = absurd (omega arith)
run_word (suc n) (b ∷ bs) low some h alike =
    let later : list_all is_word_byte (take n bs) ≡ true = (and_parts (is_word_byte b) (list_all is_word_byte (take n bs)) alike).1 in
    and_from (is_letter b) (list_all is_word_byte (take n bs)) h later

-- a run with the text of a reserved word is that word
pub reserved_lexeme : (at n : ℕ) (bytes : List ℕ) (k : ReservedWord) → 0 < length bytes → is_letter (get_or bytes 0 0) ≡ true → IsRun is_word_byte bytes n
    → take n bytes ≡ reserved_text k → Advances at bytes (Whole (token.Reserved k at) n)
reserved_lexeme at n bytes k some letter run e =
    whole at n bytes (token.Reserved k at) refl (run_some is_word_byte n bytes run some (letter_goes_on (get_or bytes 0 0) letter)) run.within e run.ends

-- a run with no such text is a name
pub name_lexeme : (at n : ℕ) (bytes : List ℕ) → 0 < length bytes → is_letter (get_or bytes 0 0) ≡ true → IsRun is_word_byte bytes n
    → is_reserved (take n bytes) ≡ false → Advances at bytes (Whole (token.Name (take n bytes) at) n)
name_lexeme at n bytes some letter run free =
    let low : 0 < n = run_some is_word_byte n bytes run some (letter_goes_on (get_or bytes 0 0) letter) in
    let name : IsName (take n bytes) = record { word = run_word n bytes low some letter run.alike; free = free } in
    whole at n bytes (token.Name (take n bytes) at) refl low run.within (refl, name) run.ends

-- a run of digits with no leading zero and a small value is a number
pub number_lexeme : (at n : ℕ) (bytes : List ℕ) → 0 < length bytes → is_digit (get_or bytes 0 0) ≡ true → IsRun is_digit bytes n
    → (get_or bytes 0 0 ≡ 48 → n ≤ 1) → digits_value 10 (take n bytes) < 2 ^ 32
    → Advances at bytes (Whole (token.Number (digits_value 10 (take n bytes)) at) n)
number_lexeme at n bytes some digit run alone small =
    let low : 0 < n = run_some is_digit n bytes run some digit in
    let count : length (take n bytes) ≡ n = length-take-le n bytes run.within in
    let first : get_or (take n bytes) 0 0 ≡ get_or bytes 0 0 = get_or-take n bytes 0 0 low in
    let one : get_or (take n bytes) 0 0 ≡ 48 → length (take n bytes) ≡ 1 = λ z. omega (arith, alone (sym first ∙ z)) in
    let spelled : take n bytes ≡ decimal (digits_value 10 (take n bytes)) = sym (value_decimal (take n bytes) run.alike (omega arith) one small) in
    whole at n bytes (token.Number (digits_value 10 (take n bytes)) at) refl low run.within (spelled, small) run.ends

-- where neither a gap nor a token begins
bad_at : (at b : ℕ) (bs : List ℕ) → (kind_of b ≡ gap → ⊥) → ((t : Token) (rest : List ℕ) → IsToken (b ∷ bs) t rest → ⊥) → Lexes at (b ∷ bs) (token.Bad at ∷ [])
bad_at at b bs h none = nothing (false_if_not (is_blank b) (λ e. h (blank_kind b e))) (λ rest c. h (ap first_kind c.text_is)) none

-- a token is of the kind of the first byte
bytes_kind : (b : ℕ) (bs rest : List ℕ) (t : Token) → IsToken (b ∷ bs) t rest → kind_of b ≡ token_kind t
bytes_kind b bs rest t k = ap first_kind k.text_is ∙ spelled_kind k.spelling rest t k.spells

-- where a digit begins no number, it begins no token
only_number : (n b : ℕ) (bs : List ℕ) → kind_of b ≡ number → IsRun is_digit (b ∷ bs) n → ((v : ℕ) → v < 2 ^ 32 → take n (b ∷ bs) ≡ decimal v → ⊥)
    → (t : Token) (rest : List ℕ) → IsToken (b ∷ bs) t rest → ⊥
only_number n b bs e run none (token.Number v i) rest k =
    let same : (take n (b ∷ bs) ≡ k.spelling) × (drop n (b ∷ bs) ≡ rest) = run_unique is_digit (take n (b ∷ bs)) k.spelling (drop n (b ∷ bs)) rest run.alike
    (subst (λ x. list_all is_digit x ≡ true) (sym k.spells.0) (decimal_digits v k.spells.1)) run.ends k.longest (take-append-drop n (b ∷ bs) ∙ k.text_is) in
    none v k.spells.1 (same.0 ∙ k.spells.0)
only_number n b bs e run none (token.Bad i) rest k = k.spells
only_number n b bs e run none (token.End i) rest k = k.spells
only_number n b bs e run none t rest k = cc (e, bytes_kind b bs rest t k)

-- no number, where the digits have a leading zero or write too much
no_number : (at n : ℕ) (bytes : List ℕ) → 0 < length bytes → is_digit (get_or bytes 0 0) ≡ true → IsRun is_digit bytes n
    → ((v : ℕ) → v < 2 ^ 32 → take n bytes ≡ decimal v → ⊥) → Advances at bytes Nothing
no_number at n [] some digit run none = absurd (omega arith)
no_number at n (b ∷ bs) some digit run none =
    let e : kind_of b ≡ number = digit_kind b digit in
    bad_at at b bs (λ g. cc (e, g)) (only_number n b bs e run none)

-- digits with a leading zero are no token
pub leading_zero : (at n : ℕ) (bytes : List ℕ) → 0 < length bytes → is_digit (get_or bytes 0 0) ≡ true → IsRun is_digit bytes n → 1 < n
    → get_or bytes 0 0 ≡ 48 → Advances at bytes Nothing
leading_zero at n bytes some digit run long is_zero = no_number at n bytes some digit run (λ v small e.
    let count : length (take n bytes) ≡ n = length-take-le n bytes run.within in
    let first : get_or (take n bytes) 0 0 ≡ get_or bytes 0 0 = get_or-take n bytes 0 0 (omega arith) in
    let one : length (decimal v) ≡ 1 = no_leading_zero v small (ap (λ x. get_or x 0 0) (sym e) ∙ (first ∙ is_zero)) in
    omega (arith, ap length e))

-- digits of a value too large are no token
pub too_large : (at n : ℕ) (bytes : List ℕ) → 0 < length bytes → is_digit (get_or bytes 0 0) ≡ true → IsRun is_digit bytes n
    → (digits_value 10 (take n bytes) < 2 ^ 32 → ⊥) → Advances at bytes Nothing
too_large at n bytes some digit run large = no_number at n bytes some digit run (λ v small e.
    large (subst (λ m. m < 2 ^ 32) (sym (ap (digits_value 10) e ∙ decimal_value v small)) small))

-- a single `-` is no token
pub dash_lexeme : (at : ℕ) (bytes : List ℕ) → 0 < length bytes → get_or bytes 0 0 ≡ 45 → (1 < length bytes → get_or bytes 1 0 ≡ 45 → ⊥)
    → Advances at bytes Nothing
dash_lexeme at [] some h none = absurd (omega arith)
dash_lexeme at (b ∷ bs) some h none =
    nothing (ap is_blank h) (λ rest c. none (subst (λ x. 1 < length x) (sym c.text_is) (omega arith)) (ap (λ x. get_or x 1 0) c.text_is))
    (λ t rest k. no_gap k.spelling rest t k.spells (ap first_kind (sym k.text_is) ∙ ap kind_of h))

-- a symbol's text is that symbol
pub symbol_lexeme : (at : ℕ) (bytes : List ℕ) (s : SymbolKind) → Begins bytes (symbol_text s)
    → Advances at bytes (Whole (token.Symbol s at) (length (symbol_text s)))
symbol_lexeme at bytes s b =
    let front : take (length (symbol_text s)) bytes ≡ symbol_text s = ap (take (length (symbol_text s))) b.1 ∙ take-append_seam (symbol_text s) b.0 in
    whole at (length (symbol_text s)) bytes (token.Symbol s at) refl (symbol_some s) (omega (arith, ap length b.1, length-append (symbol_text s) b.0)) front tt

-- where a byte of no other kind begins no symbol, it begins no token
only_symbol : (b : ℕ) (bs : List ℕ) → kind_of b ≡ other → ((s : SymbolKind) → Begins (b ∷ bs) (symbol_text s) → ⊥)
    → (t : Token) (rest : List ℕ) → IsToken (b ∷ bs) t rest → ⊥
only_symbol b bs e none (token.Symbol s i) rest k = none s (rest, k.text_is ∙ ap (λ x. x ++ rest) k.spells)
only_symbol b bs e none (token.Bad i) rest k = k.spells
only_symbol b bs e none (token.End i) rest k = k.spells
only_symbol b bs e none t rest k = cc (e, bytes_kind b bs rest t k)

-- bytes that begin with no symbol are no token
pub no_symbol : (at : ℕ) (bytes : List ℕ) → 0 < length bytes → is_letter (get_or bytes 0 0) ≡ false → is_digit (get_or bytes 0 0) ≡ false
    → is_blank (get_or bytes 0 0) ≡ false → (get_or bytes 0 0 == 45) ≡ false → ((s : SymbolKind) → Begins bytes (symbol_text s) → ⊥)
    → Advances at bytes Nothing
no_symbol at [] some l d g m none = absurd (omega arith)
no_symbol at (b ∷ bs) some l d g m none =
    let e : kind_of b ≡ other = other_kind b l d g m in
    bad_at at b bs (λ x. cc (e, x)) (only_symbol b bs e none)
