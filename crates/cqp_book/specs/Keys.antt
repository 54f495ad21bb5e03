-- Keys, and the cells under them.
use Rattle.std.specs.Prelude.{◌≡◌, ℕ, ◌==◌, Bool, true, false, ◌||◌, List, [], ◌∷◌, Option, Some}
use Rattle.std.specs.Prelude.{None, if◌then◌else◌}

-- whether the key stands in the list
abbrev pub has : ℕ → List ℕ → Bool
has k [] = false
has k (x ∷ xs) = (k == x) || has k xs

-- a cell, or none, at each key
abbrev pub Store : Type 0 → Type 0
Store C = ℕ → Option C

module _ {C : Type 0} where
  -- the cell at each key: that of the first pair which has the key
  abbrev pub find : List (ℕ × C) → Store C
  find [] k = None
  find (p ∷ ps) k = if k == p.0 then Some p.1 else find ps k

  -- the two stores have the same at each of these keys
  abbrev pub AgreeOn : List ℕ → Store C → Store C → Type 0
  AgreeOn ks s t = (k : ℕ) → has k ks ≡ true → s k ≡ t k
