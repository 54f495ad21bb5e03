-- The first line of bytes: up to the first line feed and with it, or all of them.
use Rattle.std.proofs.Common.{◌≡◌, ◌+◌, ◌<◌, ◌≤◌, ℕ, zero, suc, List, [], ◌∷◌, take, drop, length, get_or, refl, sym, ◌∙◌, ap, subst, Bool, true}
use Rattle.std.proofs.Common.{false, not, cond, eqb, arith}
use Rattle.std.proofs.lemmas.Bool.{and_parts, not-true}
use Rattle.std.proofs.lemmas.List.{drop_all, take_all}
use Rattle.cqp_trace.specs.Lines.{has_no_feed, lines, put_before}

-- bytes begin with a line of n of them
abbrev pub BeginsWithLine : List ℕ → ℕ → Type 0
BeginsWithLine bytes n = lines bytes ≡ take n bytes ∷ lines (drop n bytes)

-- one byte more before a line
one_before : (b n : ℕ) (bs : List ℕ) (t : Bool) → t ≡ false → BeginsWithLine bs n
    → cond t ((10 ∷ []) ∷ lines bs) (put_before b (lines bs)) ≡ (b ∷ take n bs) ∷ lines (drop n bs)
one_before b n bs false e h = ap (put_before b) h
one_before b n bs true e h = cc

-- the first line feed ends a line
ends_at_feed : (bs : List ℕ) (i : ℕ) → has_no_feed (take i bs) ≡ true → i < length bs → get_or bs i 0 ≡ 10 → BeginsWithLine bs (suc i)
ends_at_feed [] i clean within feed = absurd (omega (arith, within))
ends_at_feed (b ∷ bs) zero clean within feed = subst (λ x. lines (x ∷ bs) ≡ (x ∷ []) ∷ lines bs) (sym feed) refl
ends_at_feed (b ∷ bs) (suc i) clean within feed =
    let parts = and_parts (not (eqb b 10)) (has_no_feed (take i bs)) clean in
    one_before b (suc i) bs (eqb b 10) (not-true (eqb b 10) parts.0) (ends_at_feed bs i parts.1 (omega (arith, within)) feed)

-- so it does with its place
pub line_to_feed : (bs : List ℕ) (i : ℕ) → has_no_feed (take i bs) ≡ true → i < length bs → get_or bs i 0 ≡ 10 → BeginsWithLine bs (i + 1)
line_to_feed bs i clean within feed =
    let same : suc i ≡ i + 1 = omega arith in
    subst (BeginsWithLine bs) same (ends_at_feed bs i clean within feed)

-- without a line feed all bytes are one line
one_line : (bs : List ℕ) → has_no_feed bs ≡ true → 0 < length bs → lines bs ≡ bs ∷ []
one_line [] clean some = absurd (omega (arith, some))
one_line (b ∷ []) clean some =
    let parts = and_parts (not (eqb b 10)) true clean in
    rw (not-true (eqb b 10) parts.0) refl
one_line (b ∷ c ∷ bs) clean some =
    let parts = and_parts (not (eqb b 10)) (has_no_feed (c ∷ bs)) clean in
    rw (not-true (eqb b 10) parts.0) (ap (put_before b) (one_line (c ∷ bs) parts.1 (omega arith)))

-- so they are with their number
pub line_to_end : (bs : List ℕ) (i : ℕ) → has_no_feed (take i bs) ≡ true → length bs ≤ i → 0 < length bs → BeginsWithLine bs (length bs)
line_to_end bs i clean ended some =
    let whole : take i bs ≡ bs = take_all i bs ended in
    let all : bs ≡ take (length bs) bs = sym (take_all (length bs) bs (omega arith)) in
    let none : [] ≡ lines (drop (length bs) bs) = ap lines (sym (drop_all (length bs) bs (omega arith))) in
    one_line bs (subst (λ xs. has_no_feed xs ≡ true) whole clean) some ∙ ap (λ l. l ∷ []) all ∙ ap (λ ls. take (length bs) bs ∷ ls) none
