-- How often numbers stand in lists. A number's place in a list is never claimed.
use Rattle.std.specs.Prelude.{◌≡◌, ℕ, ◌+◌, ◌≤◌, List}
use Rattle.std.specs.List.{sum_by}

-- each number stands as often in both: they weigh the same, whatever each number weighs
abbrev pub AsOften : List ℕ → List ℕ → Type 0
AsOften xs ys = (weight : ℕ → ℕ) → sum_by weight xs ≡ sum_by weight ys

-- a part and the rest have what the whole has, as often
abbrev pub AddUp : List ℕ → List ℕ → List ℕ → Type 0
AddUp whole part rest =
    (weight : ℕ → ℕ) → sum_by weight whole ≡ sum_by weight part + sum_by weight rest

-- no number stands more often in the part than in the whole
abbrev pub IsWithin : List ℕ → List ℕ → Type 0
IsWithin part whole = (weight : ℕ → ℕ) → sum_by weight part ≤ sum_by weight whole
