-- The least of a list's numbers, read from the right.
use Rattle.std.proofs.Common.{◌≡◌, ◌≤◌, ℕ, ◌+◌, ◌<◌, List, [], ◌∷◌, length, drop, refl, ap, ◌∙◌, arith}
use Rattle.std.specs.Prelude.{slice_index_or}
use Rattle.std.proofs.lemmas.Bool.{lt-ltb, le-ltb}
use Rattle.std.proofs.lemmas.List.{drop_more, length-drop}
use Rattle.cqp_machine.specs.Factors.{least_qubit}

-- a number before others: where it is the last, where it is less, and where it isn't
alone : (q : ℕ) (xs : List ℕ) → length xs ≡ 0 → least_qubit (q ∷ xs) ≡ q
alone q [] h = refl
alone q (x ∷ xs) h = absurd (omega arith)

-- a number less than the least of the others is the least
less : (q : ℕ) (xs : List ℕ) → q < least_qubit xs → least_qubit (q ∷ xs) ≡ q
less q [] h = refl
less q (x ∷ xs) h = rw (lt-ltb q (least_qubit (x ∷ xs)) h) refl

-- where it is not, the least stays
not_less : (q : ℕ) (xs : List ℕ) → 0 < length xs → least_qubit xs ≤ q → least_qubit (q ∷ xs) ≡ least_qubit xs
not_less q [] h e = absurd (omega arith)
not_less q (x ∷ xs) h e = rw (le-ltb q (least_qubit (x ∷ xs)) e) refl

-- nothing was read
pub none_read : (xs : List ℕ) → 0 ≡ least_qubit (drop (length xs) xs)
none_read [] = refl
none_read (x ∷ xs) = none_read xs

-- the same in a list that is read from the right
pub last_one : (xs : List ℕ) (i : ℕ) → i + 1 ≡ length xs → least_qubit (drop i xs) ≡ slice_index_or xs i 0
last_one xs i h =
    let none : length (drop (i + 1) xs) ≡ 0 = length-drop (i + 1) xs ∙ omega arith in
    ap least_qubit (drop_more xs i 0 (omega arith)) ∙ alone (slice_index_or xs i 0) (drop (i + 1) xs) none

-- one that is less becomes the least
pub less_one : (xs : List ℕ) (i : ℕ) → i < length xs → slice_index_or xs i 0 < least_qubit (drop (i + 1) xs) → least_qubit (drop i xs) ≡ slice_index_or xs i 0
less_one xs i h e = ap least_qubit (drop_more xs i 0 h) ∙ less (slice_index_or xs i 0) (drop (i + 1) xs) e

-- one that is not leaves it
pub kept_one : (xs : List ℕ) (i : ℕ) → i + 1 < length xs → least_qubit (drop (i + 1) xs) ≤ slice_index_or xs i 0
    → least_qubit (drop i xs) ≡ least_qubit (drop (i + 1) xs)
kept_one xs i h e =
    let some : 0 < length (drop (i + 1) xs) = let size = length-drop (i + 1) xs in omega arith in
    ap least_qubit (drop_more xs i 0 (omega arith)) ∙ not_less (slice_index_or xs i 0) (drop (i + 1) xs) some e
