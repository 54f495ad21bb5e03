-- What is told of a process's names beforehand: where its subtrees end, and which nodes use a name.
use Rattle.std.specs.Prelude.{◌≡◌, ℕ, ◌<◌, ◌≤◌, List, [], ◌∷◌, ◌++◌, map, filter, length, ◌==◌}
use Rattle.std.specs.Prelude.{slice_index, slice_set, slice_index_or, nat_lt, Option, Some, None}
use Rattle.std.specs.Prelude.{if◌then◌else◌}
use Rattle.std.specs.List.{range_with_len, flat_map}
use Rattle.cqp_syntax.specs.Ends.{end_at}
use Rattle.cqp_syntax.specs.NodeNames.{uses_in}
use Rattle.cqp_syntax.specs.Listing.{Listing, IsProc}
use Rattle.cqp_parts.specs.Parts.{node_at}

-- the ends of the numbers from a on are right, and within the list
pub record EndsFrom (l : Listing) (ends : List ℕ) (a : ℕ) : Type 0 where
  pub count : length ends ≡ length l.nodes
  pub each : (n : ℕ) → a ≤ n → n < length l.nodes → slice_index ends n ≡ end_at l n
  pub within : (n : ℕ) → a ≤ n → n < length l.nodes → end_at l n ≤ length l.nodes

-- how often node n uses the name: its number, so many times
abbrev pub used_in : ℕ → ℕ → List ℕ → List ℕ
used_in x n ys = map (λ y. n) (filter (λ y. y == x) ys)

-- the numbers of the nodes below n that use the name
abbrev pub users_below : Listing → ℕ → ℕ → List ℕ
users_below l n x = flat_map (λ m. used_in x m (uses_in (node_at l m))) (range_with_len 0 n)

-- the first of these numbers from n on, where they rise
abbrev pub first_from : ℕ → List ℕ → Option ℕ
first_from n [] = None
first_from n (m ∷ ms) = if nat_lt m n then first_from n ms else Some m

-- node n put last among the users of a name
abbrev pub with_user : ℕ → ℕ → List (List ℕ) → List (List ℕ)
with_user n x users = slice_set users x (slice_index_or users x [] ++ n ∷ [])

-- node n put last among the users of names
abbrev pub with_users : ℕ → List ℕ → List (List ℕ) → List (List ℕ)
with_users n [] users = users
with_users n (x ∷ xs) users = with_users n xs (with_user n x users)

-- what a `Uses` is seen as: where each subtree ends, and the users of each name
pub record UseTables : Type 0 where
  pub ends : List ℕ
  pub names : List (List ℕ)

-- the users of the names below n
pub record UsersBelow (l : Listing) (users : List (List ℕ)) (n : ℕ) : Type 0 where
  pub count : length users ≡ length l.ty_of
  pub each : (x : ℕ) → x < length l.ty_of → slice_index_or users x [] ≡ users_below l n x

-- the tables are those of the process
pub record IsUses (l : Listing) (u : UseTables) : Type 0 where
  pub process : IsProc l
  pub ends : EndsFrom l u.ends 0
  pub names : UsersBelow l u.names (length l.nodes)
