-- Lists of keys and cells, as the rule counts and changes them. No public clause cites this module.
use Rattle.std.specs.Prelude.{ℕ, ◌+◌, ◌==◌, List, [], ◌∷◌, Option, Some, None, if◌then◌else◌}
use Rattle.cqp_book.specs.Keys.{Store}

module _ {C : Type 0} where
  -- how many pairs have the key
  abbrev pub count : ℕ → List (ℕ × C) → ℕ
  count k [] = 0
  count k (p ∷ ps) = if k == p.0 then count k ps + 1 else count k ps

  -- the pairs that haven't the key
  abbrev pub without : ℕ → List (ℕ × C) → List (ℕ × C)
  without k [] = []
  without k (p ∷ ps) = if k == p.0 then without k ps else p ∷ without k ps

  -- the pairs once the key has this cell, or none
  abbrev pub put : ℕ → Option C → List (ℕ × C) → List (ℕ × C)
  put k None ps = without k ps
  put k (Some c) ps = (k, c) ∷ without k ps

  -- the pairs once each of the keys has its cell of the store
  abbrev pub put_all : Store C → List ℕ → List (ℕ × C) → List (ℕ × C)
  put_all s [] ps = ps
  put_all s (k ∷ ks) ps = put k (s k) (put_all s ks ps)

  -- the pairs without those whose key an earlier one has
  abbrev pub distinct : List (ℕ × C) → List (ℕ × C)
  distinct [] = []
  distinct (p ∷ ps) = p ∷ without p.0 (distinct ps)
