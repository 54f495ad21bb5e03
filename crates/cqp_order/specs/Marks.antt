-- A tree of least marks: node 1 is the root, node i has the nodes 2i and 2i + 1 below it, and behind
-- the `room` first places stand the leaves.
use Rattle.std.specs.Prelude.{◌≡◌, ◌+◌, ◌*◌, ◌<◌, ◌==◌, ℕ, List, length, Option, None, Some, is_some}
use Rattle.std.specs.Prelude.{Bool, true, false, nat_le, slice_index_or, if◌then◌else◌}

-- the least mark at or below node i
abbrev pub node : List (Option ℕ) → ℕ → Option ℕ
node tree i = slice_index_or tree i None

-- the lesser of two marks, if there is one
abbrev pub lesser : Option ℕ → Option ℕ → Option ℕ
lesser None b = b
lesser (Some a) None = Some a
lesser (Some a) (Some b) = Some (if nat_le a b then a else b)

-- whether number k is marked
abbrev pub is_marked : List (Option ℕ) × ℕ → ℕ → Bool
is_marked marks k = is_some (node marks.0 (marks.1 + k))

-- whether the number, if there is one, is k
abbrev pub is_just : Option ℕ → ℕ → Bool
is_just None k = false
is_just (Some m) k = m == k

-- in `new` the numbers are marked that are in `old`, but `after` in the place of `before`
abbrev pub Renews : (ℕ → Bool) → (ℕ → Bool) → Option ℕ → Option ℕ → Type 0
Renews old new before after =
    (k : ℕ) → new k ≡ (if is_just after k then true else if is_just before k then false else old k)

-- node i has the lesser mark of the two below it
abbrev pub IsRight : List (Option ℕ) → ℕ → Type 0
IsRight tree i = node tree i ≡ lesser (node tree (2 * i)) (node tree (2 * i + 1))

-- each inner node is right, and a leaf has no mark but its own
pub record IsTree (tree : List (Option ℕ)) (room : ℕ) : Type 0 where
  pub some : 0 < room
  pub size : length tree ≡ room + room
  pub inner : (i : ℕ) → 0 < i → i < room → IsRight tree i
  pub leaf : (k m : ℕ) → k < room → node tree (room + k) ≡ Some m → m ≡ k
