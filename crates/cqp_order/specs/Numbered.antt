-- What stands by number in a list, as pairs.
use Rattle.std.specs.Prelude.{◌+◌, ℕ, List, [], ◌∷◌, Option, None, Some}

-- the pairs of a list whose first place has this number
abbrev pub numbered : {X : Type 0} → ℕ → List (Option X) → List (ℕ × X)
numbered n [] = []
numbered n (None ∷ xs) = numbered (n + 1) xs
numbered n (Some x ∷ xs) = (n, x) ∷ numbered (n + 1) xs
