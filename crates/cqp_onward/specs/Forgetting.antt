-- Bindings let go where a prefix ends. No public clause cites this module.
use Rattle.std.specs.Prelude.{◌≡◌, ℕ, ◌-◌, ◌==◌, ◌||◌, List, [], ◌∷◌, ◌++◌, filter, Bool, true, not}
use Rattle.std.specs.Prelude.{if◌then◌else◌}
use Rattle.std.specs.List.{AllByRecursion, list_any, flat_map, range_with_len}
use Rattle.cqp_syntax.specs.Ends.{end_at}
use Rattle.cqp_syntax.specs.Listing.{Listing, process_at}
use Rattle.cqp_syntax.specs.NodeNames.{binds_in, uses_in}
use Rattle.cqp_parts.specs.declared.bind.Bind.{Bind}
use Rattle.cqp_parts.specs.Free.{is_free}
use Rattle.cqp_parts.specs.Parts.{node_at, IsProcessAt}
use Rattle.cqp_standing.specs.Stands.{has_rising_names}

-- the bindings but that of a name, unless it is free at n
abbrev pub without_one : Listing → ℕ → ℕ → List Bind → List Bind
without_one l n x env =
    if is_free x (process_at l n) then env else filter (λ b. not (x == b.name)) env

-- the bindings but those of these names that aren't free at n
abbrev pub without : Listing → ℕ → List ℕ → List Bind → List Bind
without l n [] env = env
without l n (x ∷ xs) env = without l n xs (without_one l n x env)

-- the names that the nodes from a on and before b use
abbrev pub used_between : Listing → ℕ → ℕ → List ℕ
used_between l a b = flat_map (λ m. uses_in (node_at l m)) (range_with_len a (b - a))

-- the names that node p binds, and those that its subtree uses outside that of n
abbrev pub passed_names : Listing → ℕ → ℕ → List ℕ
passed_names l p n =
    binds_in (node_at l p)
    ++ (used_between l p n ++ used_between l (end_at l n) (end_at l p))

-- the node binds the name, or the name is free there
abbrev pub is_known : Listing → ℕ → ℕ → Bool
is_known l p x =
    is_free x (process_at l p) || list_any (λ y. y == x) (binds_in (node_at l p))

-- the prefix at p ends: names rise, and p binds each, or it was free there
pub record PrefixEnds (l : Listing) (p : ℕ) (env : List Bind) : Type 0 where
  pub there : IsProcessAt l p
  pub rising : has_rising_names env ≡ true
  pub known : AllByRecursion (λ b. is_known l p b.name ≡ true) env
