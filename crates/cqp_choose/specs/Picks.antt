-- Which index each chooser answers.
use Rattle.std.specs.Prelude.{ℕ, ◌+◌, ◌%◌, ◌^◌, ◌<◌, pos, List, length, take, slice_index}
use Rattle.cqp_ring.specs.declared.root.Root.{Root}
use Rattle.cqp_ring.specs.Root.{IsLess, root_product, root_total, whole_root}
use Rattle.cqp_choose.specs.Word.{turn_word}

-- the script's number at the turn modulo the count, or 0 past its end
abbrev pub script_index : List ℕ → ℕ → List Root → ℕ
script_index script turn odds = slice_index script turn % length odds

-- the turn's word modulo the count
abbrev pub seed_index : ℕ → ℕ → List Root → ℕ
seed_index seed turn odds = turn_word seed turn % length odds

-- the word, as a share of 2^32, of the total is less than the sum
abbrev pub IsShareLess : ℕ → Root → Root → Type 0
IsShareLess word total sum =
    IsLess (root_product (whole_root (pos word)) total)
    (root_product (whole_root (pos (2 ^ 32))) sum)

-- the word's share of all odds is less than the odds up to the place i
abbrev pub IsReached : ℕ → List Root → ℕ → Type 0
IsReached word odds i = IsShareLess word (root_total odds) (root_total (take (i + 1) odds))

-- the first place that is reached
pub record IsBornIndex (word : ℕ) (odds : List Root) (i : ℕ) : Type 0 where
  pub in_range : i < length odds
  pub reached : IsReached word odds i
  pub first : (j : ℕ) → j < i → ¬ IsReached word odds j
