-- Texts of numbers.
use Rattle.std.proofs.Common.{◌≡◌, ℕ, ◌<◌, ◌^◌, List, false, ap, sym, ◌∙◌, Result, Ok, Err, bytes_eq}
use Rattle.std.specs.Fmt.{decimal}
use Rattle.std.specs.Str.Parse.{ParsesUnsigned}
use Rattle.std.proofs.lemmas.Fmt.{parse-decimal}
use Rattle.cqp_words.proofs.Bools.{fails, same_bytes}

-- no result is both an error and a number
ok_err : {E : Type 0} (n : ℕ) (e : E) (r : Result ℕ E) → r ≡ Err e → r ≡ Ok n → ⊥
ok_err n e r a b = cc

-- one result is one number
ok_same : {E : Type 0} (m n : ℕ) (r : Result ℕ E) → r ≡ Ok m → r ≡ Ok n → m ≡ n
ok_same m n r a b = cc

-- a text that is not read is no number
pub not_read : {E : Type 0} (text : List ℕ) (r : Result ℕ E) (e : E) (n : ℕ) → r ≡ Err e → ParsesUnsigned 64 10 text r
    → n < 2 ^ 64 → text ≡ decimal n → ⊥
not_read text r e n is p h t = ok_err n e r is (parse-decimal 64 n text r h h t p)

-- a text that is read as a number of another text is no number
pub not_plain : {E : Type 0} (text plain : List ℕ) (r : Result ℕ E) (m n : ℕ) → r ≡ Ok m → ParsesUnsigned 64 10 text r
    → plain ≡ decimal m → bytes_eq plain text ≡ false → n < 2 ^ 64 → text ≡ decimal n → ⊥
not_plain text plain r m n is p d other h t =
    let same = ok_same m n r is (parse-decimal 64 n text r h h t p) in
    let equal : plain ≡ text = d ∙ ap decimal same ∙ sym t in
    fails (sym other ∙ ap (λ z. bytes_eq z text) equal ∙ same_bytes text)
