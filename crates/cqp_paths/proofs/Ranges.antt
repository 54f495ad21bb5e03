-- The binders of a listed process are numbered in a row, so they are distinct.
use Rattle.std.proofs.Common.{◌≡◌, ℕ, zero, suc, ◌+◌, ◌<◌, length, true, false, ◌==◌, refl, sym, subst, arith}
use Rattle.std.specs.List.{range_with_len, list_any}
use Rattle.std.proofs.lemmas.Bool.Decides.{nat_tests}
use Rattle.cqp_syntax.specs.Listing.{Listing, IsProc, root}
use Rattle.cqp_syntax.specs.Lists.{is_distinct}
use Rattle.cqp_syntax.specs.Binders.{HasDistinctBinders}

-- a number below a row isn't in it
none_below : (x n a : ℕ) → x < a → list_any (λ y. x == y) (range_with_len a n) ≡ false
none_below x zero a less = refl
none_below x (suc n) a less =
    let other : (x == a) ≡ false = grind (arith, nat_tests) in
    let later : x < a + 1 = omega arith in
    rw other (none_below x n (a + 1) later)

-- numbers in a row are distinct
row_distinct : (n a : ℕ) → is_distinct (range_with_len a n) ≡ true
row_distinct zero a = refl
row_distinct (suc n) a =
    let less : a < a + 1 = omega arith in
    let none : list_any (λ y. a == y) (range_with_len (a + 1) n) ≡ false = none_below a n (a + 1) less in
    rw none (row_distinct n (a + 1))

-- the binders of a `Proc` have distinct names
pub listed_distinct : (l : Listing) → IsProc l → HasDistinctBinders (root l)
listed_distinct l is = subst (λ xs. is_distinct xs ≡ true) (sym is.listed.names) (row_distinct (length l.ty_of) 0)
