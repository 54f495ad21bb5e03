-- The redexes of prefixes in evaluation order, by their numbers.
use Rattle.std.specs.Prelude.{◌≡◌, ℕ, ◌+◌, ◌<◌, ◌≤◌, List, [], ◌∷◌, ◌++◌, length, slice_index}
use Rattle.std.specs.List.{range_with_len, flat_map, AllByRecursion}
use Rattle.cqp_syntax.specs.Trees.{Expr, slot, sig, add, apply, measure}
use Rattle.cqp_syntax.specs.Preorder.{expr_size}
use Rattle.cqp_syntax.specs.Numbered.{IsNumbered}
use Rattle.cqp_syntax.specs.Listing.{Listing, process_at, expr_at}
use Rattle.cqp_syntax.specs.Measures.{expr_steps}
use Rattle.cqp_cells.specs.Redex.{exprs_of}

-- the numbers of the redexes of an expression at n, in evaluation order
abbrev pub redexes_of : ℕ → Expr → List ℕ
redexes_of n (slot s) = []
redexes_of n (sig e) = redexes_of (n + 1) e ++ n ∷ []
redexes_of n (add e f) = redexes_of (n + 1) e ++ (redexes_of (n + 1 + expr_size e) f ++ n ∷ [])
redexes_of n (apply qs e) = redexes_of (n + 1) e ++ n ∷ []
redexes_of n (measure qs) = n ∷ []

-- and of expressions one behind the other, the first at n
abbrev pub redexes_all : ℕ → List Expr → List ℕ
redexes_all n [] = []
redexes_all n (e ∷ es) = redexes_of n e ++ redexes_all (n + expr_size e) es

-- the redexes of the prefix at n
abbrev pub redexes_at : Listing → ℕ → List ℕ
redexes_at l n = redexes_all (n + 1) (exprs_of (process_at l n))

-- the redexes of the prefixes below n
abbrev pub redexes_below : Listing → ℕ → List ℕ
redexes_below l n = flat_map (redexes_at l) (range_with_len 0 n)

-- what a `Redexes` is seen as: how many redexes stand at and below each number, for each number
-- where its redexes begin, and all redexes
pub record RedexTables : Type 0 where
  pub counts : List ℕ
  pub starts : List ℕ
  pub redexes : List ℕ

-- the counts of the numbers from a on are right, and no greater than the nodes behind them
pub record CountsFrom (l : Listing) (counts : List ℕ) (a : ℕ) : Type 0 where
  pub count : length counts ≡ length l.nodes
  pub each : (n : ℕ) → a ≤ n → n < length l.nodes → slice_index counts n ≡ expr_steps (expr_at l n)
  pub small : (n : ℕ) → a ≤ n → n < length l.nodes → n + expr_steps (expr_at l n) ≤ length l.nodes

-- the tables are those of the process
pub record AreRedexes (l : Listing) (o : RedexTables) : Type 0 where
  pub numbers : IsNumbered l
  pub counts : CountsFrom l o.counts 0
  pub start_count : length o.starts ≡ length l.nodes + 1
  pub starts : (n : ℕ) → n ≤ length l.nodes → slice_index o.starts n ≡ length (redexes_below l n)
  pub within : AllByRecursion (λ at. at ≤ length o.redexes) o.starts
  pub redexes : o.redexes ≡ redexes_below l (length l.nodes)
